use Rattle.connection_model.specs.Pack.{after_tick}
use Rattle.sight_laws.proofs.Sending.{tick_same}
use Rattle.sight_laws.proofs.Feeds.{same_self, bytes_same}
use Rattle.sight_laws.proofs.ticks.ticks_send_the_same.Goals as goal

pub returns-clause-keeps : goal.returns-clause-keeps
returns-clause-keeps c = λ end past other shown given h order s. tick_same end past other shown given h order s

pub returns-clause-sends : goal.returns-clause-sends
returns-clause-sends c = λ end past shown given order s.
    bytes_same end (after_tick end past shown) (after_tick end past given)
    (tick_same end past past shown given (same_self past) order s)
