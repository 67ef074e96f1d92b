use Rattle.link_end.proofs.Trials.{new_idle}
use Rattle.link_end.proofs.tests.new_end.Goals as goal

pub returns : goal.returns
returns c = new_idle c.in_ok-link.link c.args.version c.args.budget c.requires.least c.in_ok-link.ensures
