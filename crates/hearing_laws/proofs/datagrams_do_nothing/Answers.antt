use Rattle.hearing_laws.proofs.Acting.{got_acts}
use Rattle.hearing_laws.proofs.datagrams_do_nothing.Goals as goal

pub returns : goal.returns
returns c = got_acts
