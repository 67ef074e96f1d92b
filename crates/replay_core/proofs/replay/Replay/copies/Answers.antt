use Rattle.std.proofs.Common.{◌≡◌, ◌==◌, List, Some, None, map, ap, sym, ◌∙◌, subst}
use Rattle.std.specs.Prelude.{slice_get}
use Rattle.std.proofs.lemmas.Option.{get_or_from_slice_get}
use Rattle.connection_model.specs.Feed.{Past}
use Rattle.actor_copies.specs.Copies.{copies_of, copy_value_of}
use Rattle.client_world.specs.Played.{Plays}
use Rattle.replay_core.specs.Kept.{Kept}
use Rattle.std.specs.List.{position}
use Rattle.replay_places.specs.declared.place.Place.{Place}
use Rattle.replay_core.proofs.Whole.{is_at, copies_there, copies_nowhere}
use Rattle.replay_core.proofs.replay.Replay.copies.Goals as goal

pub returns-in_err-i : goal.returns-in_err-i
returns-in_err-i c = λ story s.
    let now = c.args.self.now in
    let pos : position (λ (k : Place). k.player == c.args.player) now.places ≡ None = sym c.seat.ensures
    ∙ c.in_err-i.was in
    rw c.from_residual.ensures (copies_nowhere now.layout story.players now.places c.args.player s.places pos)

pub returns : goal.returns
returns c = λ story s.
    let now = c.args.self.now in
    let pos : position (λ (k : Place). k.player == c.args.player) now.places ≡ Some c.in_ok-i.i = sym c.seat.ensures
    ∙ c.in_ok-i.was in
    let at = is_at now.places c.args.player c.in_ok-i.i pos in
    let same : c.self.inside.places.items ≡ now.places = ap (λ (r : Kept). r.places) c.self.view_is in
    let there : slice_get c.self.inside.places.items c.in_ok-i.i ≡ Some at.0 =
    ap (λ (l : List Place). slice_get l c.in_ok-i.i) same ∙ at.1 in
    let item : c.index.result.now ≡ at.0 =
    c.index.ensures ∙ get_or_from_slice_get c.self.inside.places.items c.in_ok-i.i at.0 _ there in
    copies_there now.layout story.players now.places c.args.player c.in_ok-i.i at.0 c.copies.result.now s.places
    s.ascend at.1 at.2
    (subst (λ (k : Place). (past : Past) → Plays k.client past
    → map (copy_value_of k.client.layout) c.copies.result.now ≡ copies_of past) item c.copies.ensures.copies)
