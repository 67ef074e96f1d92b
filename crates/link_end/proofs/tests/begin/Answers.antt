use Rattle.link_end.proofs.Trials.{idle_begins, begun_ticks}
use Rattle.link_end.proofs.tests.begin.Goals as goal

pub begin_tick-requires : goal.begin_tick-requires
begin_tick-requires c = idle_begins c.args.link.now c.stalled.result c.requires c.stalled.ensures c.if-stalled.false

pub returns : goal.returns
returns c =
    begun_ticks c.args.link.now c.begin_tick.new.self c.stalled.result c.requires c.in_ok-begin_tick.ensures.after
    c.stalled.ensures c.if-stalled.false
    c.in_ok-begin_tick.ensures.stands
