use Rattle.connection_laws.proofs.Feeds.{feed_done}
use Rattle.connection_model.specs.Past.{past_of}
use Rattle.driver_laws.proofs.Closing.{tick_closed}
use Rattle.driver_laws.proofs.TickKeeps.{none_waits}
use Rattle.driver_laws.proofs.ticks_open_the_shown.Goals as goal

pub returns-clause-closed : goal.returns-clause-closed
returns-clause-closed c = λ end feed sight a alive out closed.
    tick_closed end a (past_of end feed) sight (feed_done end feed) alive out closed

pub returns-clause-waiting : goal.returns-clause-waiting
returns-clause-waiting c = λ end past sight alive. none_waits end past sight alive
