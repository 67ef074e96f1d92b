use Rattle.replay_core.proofs.Seating.{added, within}
use Rattle.replay_core.proofs.joining.add_place.Goals as goal

pub insert-requires : goal.insert-requires
insert-requires c = within c.args.place c.as_slice.result.now _ _ c.place_for-i.ensures c.as_slice.ensures.len

pub returns : goal.returns
returns c =
    added c.args.place c.args.places.now.items c.as_slice.result.now _ _ c.as_slice.ensures.value c.place_for-i.ensures
    c.in_ok-insert.ensures.items
