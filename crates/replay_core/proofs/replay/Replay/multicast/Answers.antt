use Rattle.std.proofs.Common.{◌≡◌, ap, sym, ◌∙◌, subst, map}
use Rattle.class_layout.specs.Tables.{table_in}
use Rattle.value_codec.specs.Values.{arg_of}
use Rattle.script_model.specs.Lines as lines
use Rattle.replication_model.specs.Story.{after_line}
use Rattle.replay_core.specs.Kept.{Kept}
use Rattle.replay_core.specs.Stands.{Stands}
use Rattle.replay_core.proofs.Ticks.{all_called}
use Rattle.replay_core.proofs.replay.Replay.multicast.Goals as goal

pub call_each-requires : goal.call_each-requires
call_each-requires c =
    let now = c.args.self.now in
    let s = c.requires in
    let driver = ap (λ (k : Kept). k.driver) c.self.view_is in
    let places : c.as_slice.result.now ≡ now.places = c.as_slice.ensures.value
    ∙ ap (λ (k : Kept). k.places) c.self.view_is in
    record {
      there = (now.layout, s.0.edits, s.0.players, rw driver s.1.serving, s.1.ascend, rw places s.1.places, s.2);
    }

pub returns-clause-told : goal.returns-clause-told
returns-clause-told c =
    let now = c.args.self.now in
    let driver = ap (λ (k : Kept). k.driver) c.self.view_is in
    let places : c.as_slice.result.now ≡ now.places = c.as_slice.ensures.value
    ∙ ap (λ (k : Kept). k.places) c.self.view_is in
    λ story s. (all_called now story c.call_each.new.driver c.args.actor c.args.call (map arg_of c.args.args.now) _ _ s
    (λ edits players h a p. c.in_ok-call_each.ensures now.layout edits players (rw driver h) a (rw places p))
    c.new-events.ensures).1

pub returns-clause-stands : goal.returns-clause-stands
returns-clause-stands c =
    let now = c.args.self.now in
    let driver = ap (λ (k : Kept). k.driver) c.self.view_is in
    let places : c.as_slice.result.now ≡ now.places = c.as_slice.ensures.value
    ∙ ap (λ (k : Kept). k.places) c.self.view_is in
    λ story s. subst (λ (k : Kept). Stands (record k { driver = c.call_each.new.driver })
    (after_line (table_in now.layout) story (lines.CallAll c.args.actor c.args.call (map arg_of c.args.args.now))).0)
    (sym c.self.view_is)
    (all_called now story c.call_each.new.driver c.args.actor c.args.call (map arg_of c.args.args.now) _ _ s
    (λ edits players h a p. c.in_ok-call_each.ensures now.layout edits players (rw driver h) a (rw places p))
    c.new-events.ensures).0
