use Rattle.connection_laws.proofs.Feeds.{feed_done}
use Rattle.connection_model.specs.Past.{past_of}
use Rattle.driver_laws.proofs.Stalling.{tick_stalls}
use Rattle.driver_laws.proofs.ticks_stall.Goals as goal

pub returns : goal.returns
returns c = λ end feed sight alive. tick_stalls end (past_of end feed) sight (feed_done end feed) alive
