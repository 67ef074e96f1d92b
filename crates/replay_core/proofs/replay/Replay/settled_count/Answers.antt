use Rattle.std.proofs.Common.{◌≡◌, ap, ◌∙◌}
use Rattle.replay_core.specs.Kept.{Kept}
use Rattle.replay_core.proofs.replay.Replay.settled_count.Goals as goal

pub settled_pairs-requires-clause-there : goal.settled_pairs-requires-clause-there
settled_pairs-requires-clause-there c =
    let now = c.args.self.now in
    let s = c.requires in
    let driver = ap (λ (k : Kept). k.driver) c.self.view_is in
    let places : c.as_slice.result.now ≡ now.places = c.as_slice.ensures.value ∙ ap (λ (k : Kept). k.places) c.self.view_is in (
      now.layout,
      s.0.edits,
      s.0.players,
      rw driver s.1.serving,
      s.1.ascend,
      rw places s.1.places,
      c.in_ok-spawned.ensures.count now.layout s.0.edits s.0.players (rw driver s.1.serving),
    )

pub returns : goal.returns
returns c = λ story s.
    let now = c.args.self.now in
    let driver = ap (λ (k : Kept). k.driver) c.self.view_is in
    let places : c.as_slice.result.now ≡ now.places = c.as_slice.ensures.value ∙ ap (λ (k : Kept). k.places) c.self.view_is in
    c.in_ok-count.ensures now.layout story.edits story.players (rw driver s.serving) s.ascend (rw places s.places)
    (c.in_ok-spawned.ensures.count now.layout story.edits story.players (rw driver s.serving))
