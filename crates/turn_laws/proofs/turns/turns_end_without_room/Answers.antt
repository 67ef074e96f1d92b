use Rattle.turn_laws.proofs.Stepping.{full_stays}
use Rattle.turn_laws.proofs.turns.turns_end_without_room.Goals as goal

pub returns : goal.returns
returns c = λ end now p turns e. full_stays end now p turns e
