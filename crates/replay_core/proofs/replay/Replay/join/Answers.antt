use Rattle.std.proofs.Common.{ℕ, inr, ap, sym, subst}
use Rattle.class_layout.specs.Tables.{Layout, table_in}
use Rattle.script_model.specs.Lines as lines
use Rattle.replication_model.specs.Story.{after_line, new_player}
use Rattle.replay_places.specs.Places.{IsPlace}
use Rattle.replay_core.specs.Kept.{Kept}
use Rattle.replay_core.specs.Stands.{Stands}
use Rattle.replay_core.proofs.Joins.{joined, join_told}
use Rattle.replay_core.proofs.Whole.{new_too}
use Rattle.replay_core.proofs.replay.Replay.join.Goals as goal

pub join-requires : goal.join-requires
join-requires c =
    let s = c.requires in
    let same = ap (λ (r : Kept). r.driver) c.self.view_is in
    record {
      least = s.2.some_budget;
      most = s.2.most_budget;
      player = s.2.least;
      player_most = s.2.most;
      stands = inr (s.1.serving.served, rw same s.1.serving.serves);
    }

pub returns-clause-told : goal.returns-clause-told
returns-clause-told c = λ story s.
    join_told c.args.self.now.layout story c.args.player c.args.budget c.args.version _ _ c.new-events.ensures
    c.in_ok-push.ensures.ok

pub returns-clause-stands : goal.returns-clause-stands
returns-clause-stands c =
    let now = c.args.self.now in
    let r = c.requires in
    let same = ap (λ (k : Kept). k.driver) c.self.view_is in
    let places = ap (λ (k : Kept). k.places) c.self.view_is in
    λ story s. subst (λ (k : Kept). Stands
    (record k { driver = c.join.new.self; places = c.add_place.new.places.items })
    (after_line (table_in now.layout) story (lines.Join c.args.player c.args.budget c.args.version)).0)
    (sym c.self.view_is)
    (joined now story c.args.player c.args.budget c.args.version c.join.new.self c.in_ok-place.place
    c.add_place.new.places.items s
    r.2.least (new_too now r.0 story c.args.player r.1 s r.2.new) (rw same at c.in-Ok.ensures.serves)
    (rw same at c.in-Ok.ensures.layout)
    (subst (λ (l : Layout). (budget : ℕ) → IsPlace l c.in_ok-place.place
    (new_player c.args.player budget c.args.version))
    (ap (λ (k : Kept). k.layout) c.self.view_is) c.in_ok-place.ensures.stands)
    (rw places at c.in_ok-add_place.ensures))
