use Rattle.sender_laws.proofs.Opens.{carry_opened}
use Rattle.sender_laws.proofs.Sends.{carry_updated}
use Rattle.sender_laws.proofs.deeds.carries_by_deed.Goals as goal

pub returns-clause-opened : goal.returns-clause-opened
returns-clause-opened c = λ sent past ch a exports class values h e none. carry_opened sent past e ch exports a class values h none

pub returns-clause-updated : goal.returns-clause-updated
returns-clause-updated c = λ k t a items class values bunch past h none. carry_updated k t items class values bunch past a h none
