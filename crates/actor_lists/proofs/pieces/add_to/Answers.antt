use Rattle.std.proofs.Common.{◌<◌, length}
use Rattle.actor_lists.proofs.Counts.{count_of-added, count_of-fresh}
use Rattle.actor_lists.proofs.pieces.add_to.Goals as goal

pub returns-in_ok-piece-in-Some-clause-ok : goal.returns-in_ok-piece-in-Some-clause-ok
returns-in_ok-piece-in-Some-clause-ok c = λ a.
    let there : c.in-Some.place < length c.args.pieces.now.items = rw c.deref.ensures.value at c.in-Some.ensures in
    count_of-added a c.args.actor c.args.pieces.now.items c.in-Some.place c.index.result.now c.in_ok-piece-in-Some.piece
    there c.index.ensures (rw c.as_slice.ensures.value at c.in_ok-piece-in-Some.ensures)

pub returns-in_ok-push-in-None-clause-ok : goal.returns-in_ok-push-in-None-clause-ok
returns-in_ok-push-in-None-clause-ok c = λ a.
    rw c.in_ok-push-in-None.ensures.items
    (count_of-fresh a c.args.actor c.args.pieces.now.items c.in_ok-with_actor-in-None.field-0
    c.in_ok-with_actor-in-None.ensures)
