use Rattle.live_laws.proofs.Parts.{quiet_ends, enough_end}
use Rattle.live_laws.proofs.ends.quiet_or_enough_end_a_part.Goals as goal

pub returns-clause-quiet : goal.returns-clause-quiet
returns-clause-quiet c part are few more = quiet_ends 1024 part more are few

pub returns-clause-enough : goal.returns-clause-enough
returns-clause-enough c part are all more = enough_end 1024 part more are all
