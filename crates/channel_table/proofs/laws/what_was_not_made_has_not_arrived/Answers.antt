use Rattle.channel_table.proofs.Unmade.{unmade, unmade_in_tick}
use Rattle.channel_table.proofs.laws.what_was_not_made_has_not_arrived.Goals as goal

pub returns-clause-now : goal.returns-clause-now
returns-clause-now c = λ t side past h ch n above. unmade t side past h ch n above

pub returns-clause-in_tick : goal.returns-clause-in_tick
returns-clause-in_tick c = λ t side sent past h s ch n above. unmade_in_tick t side sent past h s ch n above
