use Rattle.connection_model.specs.Verdict.{after_got}
use Rattle.driver_laws.proofs.Leaving.{got_goes, goes_closed}
use Rattle.driver_laws.proofs.datagrams_open_nothing.Goals as goal

pub returns-clause-closed : goal.returns-clause-closed
returns-clause-closed c = λ end past bytes. goes_closed past (after_got end past bytes) (got_goes end past bytes)

pub returns-clause-waiting : goal.returns-clause-waiting
returns-clause-waiting c = λ end past bytes. (got_goes end past bytes).waits
