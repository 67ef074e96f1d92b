use Rattle.std.proofs.Common.{◌++◌}
use Rattle.connection_model.specs.Bunches.{after_making}
use Rattle.channel_laws.proofs.Alike.{same_room}
use Rattle.channel_laws.proofs.Hearing.{heard_made, held_same}
use Rattle.channel_laws.proofs.Sendings.{making_below}
use Rattle.channel_laws.proofs.messages.making_goes_below_sendings.Goals as goal

pub returns : goal.returns
returns c = record {
  alike = λ sent past ch m h. making_below sent past h ch m;
  room = λ sent past ch c m h.
      same_room (after_making (sent ++ past) ch m) (sent ++ after_making past ch m) (making_below sent past h ch m) c;
  heard = λ sent past ch m h. heard_made sent past h ch m;
  held = λ sent past ch m h. held_same (sent ++ past) (sent ++ after_making past ch m) (heard_made sent past h ch m);
}
