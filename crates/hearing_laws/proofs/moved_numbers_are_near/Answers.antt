use Rattle.hearing_laws.proofs.Nearness.{moved_near}
use Rattle.hearing_laws.proofs.moved_numbers_are_near.Goals as goal

pub returns : goal.returns
returns c = moved_near
