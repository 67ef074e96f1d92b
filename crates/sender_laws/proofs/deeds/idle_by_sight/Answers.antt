use Rattle.sender_laws.proofs.Ticks.{idle_shown, idle_more}
use Rattle.sender_laws.proofs.deeds.idle_by_sight.Goals as goal

pub returns-clause-shown : goal.returns-clause-shown
returns-clause-shown c = λ past t a sight e. idle_shown past t sight a e

pub returns-clause-unshown : goal.returns-clause-unshown
returns-clause-unshown c = λ past t a sight e. idle_more past t sight a e
