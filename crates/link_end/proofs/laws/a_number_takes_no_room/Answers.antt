use Rattle.link_end.proofs.Numbers.{same_packable, same_room}
use Rattle.link_end.proofs.laws.a_number_takes_no_room.Goals as goal

pub returns-clause-packable : goal.returns-clause-packable
returns-clause-packable c = λ v b number reliable below h. same_packable v b number reliable below h

pub returns-clause-room : goal.returns-clause-room
returns-clause-room c = λ end p one other b number is so. same_room end p one other b number is so
