use Rattle.std.proofs.Common.{◌≡◌, rules}
use Rattle.std.specs.Rc.{rc_slice_items}
use Rattle.actor_lists.specs.Shared.{count_of}
use Rattle.actor_lists.proofs.Counts.{count_of-more_pieces, got}
use Rattle.actor_lists.proofs.pieces.place_of.Goals as goal

pub returns-in-Some-clause-some : goal.returns-in-Some-clause-some
returns-in-Some-clause-some c = record {
  piece = c.index-pieces-place.result;
  there = got _ _ _ c.loop-place-test.true c.index-pieces-place.is;
  is = rw c.as_slice.ensures.value at c.in-Some.ensures.some;
}

pub loop-place-preserved : goal.loop-place-preserved
loop-place-preserved c =
    let more =
    count_of-more_pieces c.args.actor c.args.pieces.now c.loop-place.place c.index-pieces-place.result
    c.loop-place-test.true c.index-pieces-place.is in
    let none : count_of c.args.actor (rc_slice_items c.index-pieces-place.result) ≡ 0 = search rules in
    search rules
