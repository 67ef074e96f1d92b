use Rattle.std.proofs.Common.{[], refl}
use Rattle.sender_laws.proofs.Makes.{service_opened, service_elsewhere}
use Rattle.sender_laws.proofs.Sends.{service_sent}
use Rattle.sender_laws.proofs.deeds.service_by_deed.Goals as goal

pub returns-clause-opened : goal.returns-clause-opened
returns-clause-opened c = λ past ch a m opens. service_opened [] past refl ch m a opens refl

pub returns-clause-other : goal.returns-clause-other
returns-clause-other c = λ past ch a m other. service_elsewhere [] past refl ch m a other

pub returns-clause-sent : goal.returns-clause-sent
returns-clause-sent c = λ k t a items item past. service_sent k t items item past a
