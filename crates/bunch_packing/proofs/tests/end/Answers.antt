use Rattle.bunch_packing.proofs.Trials.{ended_idle}
use Rattle.bunch_packing.proofs.tests.end.Goals as goal

pub returns : goal.returns
returns c = ended_idle c.args.link.now c.end_tick.new.self c.args.table.now c.requires c.in_ok-sent.ensures.stands
