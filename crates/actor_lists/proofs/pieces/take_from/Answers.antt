use Rattle.std.proofs.Common.{◌≡◌, length, rules}
use Rattle.std.specs.Rc.{rc_slice_items}
use Rattle.actor_lists.proofs.Counts.{count_of-taken, count_of-emptied, stands_in, stands_at, within}
use Rattle.actor_lists.proofs.pieces.take_from.Goals as goal

pub returns-then-len-eq1-clause-ok : goal.returns-then-len-eq1-clause-ok
returns-then-len-eq1-clause-ok c = λ a.
    let at = rw c.deref.ensures.value at c.in-Some.ensures.some in
    let here = stands_in _ _ _ _ c.index.result.now at c.index.ensures in
    let there = stands_at _ _ _ _ c.index.result.now at c.index.ensures in
    let one : length (rc_slice_items c.index.result.now) ≡ 1 = search rules in
    rw c.remove.ensures.items
    (count_of-emptied a c.args.actor c.args.pieces.now.items c.in-Some.place c.in-Some.index c.index.result.now
    here there one)

pub without-requires : goal.without-requires
without-requires c =
    let at = rw c.deref.ensures.value at c.in-Some.ensures.some in
    let there = stands_at _ _ _ _ c.index-2.result.now at c.index-2.ensures in
    rw c.as_slice.ensures.value (within _ _ _ there)

pub returns-clause-ok : goal.returns-clause-ok
returns-clause-ok c = λ a.
    let at = rw c.deref.ensures.value at c.in-Some.ensures.some in
    let here = stands_in _ _ _ _ c.index-2.result.now at c.index-2.ensures in
    let there = stands_at _ _ _ _ c.index-2.result.now at c.index-2.ensures in
    count_of-taken a c.args.actor c.args.pieces.now.items c.in-Some.place c.in-Some.index c.index-2.result.now
    c.in_ok-rest.rest
    here there (rw c.as_slice.ensures.value at c.in_ok-rest.ensures)
