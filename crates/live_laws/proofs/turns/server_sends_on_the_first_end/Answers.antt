use Rattle.live_laws.proofs.SentOn.{hearing_sends, script_sends, ticks_send}
use Rattle.live_laws.proofs.turns.server_sends_on_the_first_end.Goals as goal

pub returns-clause-hears : goal.returns-clause-hears
returns-clause-hears c = hearing_sends

pub returns-clause-plays : goal.returns-clause-plays
returns-clause-plays c = script_sends

pub returns-clause-ticks : goal.returns-clause-ticks
returns-clause-ticks c = ticks_send
