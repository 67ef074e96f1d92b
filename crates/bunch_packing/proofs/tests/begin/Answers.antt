use Rattle.bunch_packing.proofs.Trials.{begun_fresh}
use Rattle.bunch_packing.proofs.tests.begin.Goals as goal

pub returns : goal.returns
returns c =
    begun_fresh c.args.link.now c.begin_tick.new.self c.args.table.now c.stalled.result c.requires c.stalled.ensures
    c.if-stalled.false c.in_ok-begin_tick.ensures.stands
