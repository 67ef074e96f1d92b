use Rattle.sample_summary.proofs.Replayed.{begins, may_come, goes_on, next_line, none_left, all_counted}
use Rattle.sample_summary.proofs.replaying.sum_up.Goals as goal

pub loop-line-init : goal.loop-line-init
loop-line-init c = begins _ _ _ _ c.requires.first c.requires.classes c.requires.may c.new-tally.ensures

pub count_line-requires-clause-may : goal.count_line-requires-clause-may
count_line-requires-clause-may c =
    let next = next_line c.args.lines.now c.loop-line.line-index c.line-item.result c.line-item.is c.loop-line-test.true in
    may_come _ _ _ _ _ _ (rw next at c.loop-line.invariant)

pub loop-line-preserved : goal.loop-line-preserved
loop-line-preserved c =
    let next = next_line c.args.lines.now c.loop-line.line-index c.line-item.result c.line-item.is c.loop-line-test.true in
    goes_on _ _ _ _ _ _ _ _ (rw next at c.loop-line.invariant) c.in_ok-count_line.ensures.stands c.in_ok-count_line.ensures.tallies
    c.count_line.ensures.layout

pub returns : goal.returns
returns c =
    let none = none_left c.args.lines.now c.loop-line.line-index c.loop-line-test.false in
    all_counted _ _ _ _ c.args.ticks c.in_ok-settled.settled _ (rw none at c.loop-line.invariant) c.in_ok-settled.ensures c.in_ok-text.ensures
