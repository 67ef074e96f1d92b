use Rattle.live_laws.proofs.SentOn.{asking_sends, caller_hearing_sends, caller_tick_sends}
use Rattle.live_laws.proofs.turns.client_sends_on_its_end.Goals as goal

pub returns-clause-asks : goal.returns-clause-asks
returns-clause-asks c = asking_sends

pub returns-clause-hears : goal.returns-clause-hears
returns-clause-hears c = caller_hearing_sends

pub returns-clause-ticks : goal.returns-clause-ticks
returns-clause-ticks c = caller_tick_sends
