use Rattle.std.proofs.Common.{ℕ, ◌<◌, subst}
use Rattle.sender_turns.proofs.Noting.{one_passed, all_passed}
use Rattle.sender_turns.proofs.opening.past_all.Goals as goal

pub loop-guid-preserved : goal.loop-guid-preserved
loop-guid-preserved c = λ g among.
    one_passed g c.loop-guid.past c.above-past.result c.args.guids.now c.loop-guid.guid-index c.guid-item.result
    c.loop-guid-test.true c.guid-item.is c.above-past.ensures.least
    (subst (λ (x : ℕ). x < c.above-past.result) c.guid.view_is c.above-past.ensures.above)
    (c.loop-guid.invariant g among)

pub returns : goal.returns
returns c = λ g among.
    all_passed g c.loop-guid.past c.args.guids.now c.loop-guid.guid-index c.loop-guid-test.false
    (c.loop-guid.invariant g among)
