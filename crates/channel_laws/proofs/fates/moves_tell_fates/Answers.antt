use Rattle.channel_laws.proofs.Moves.{move_made, move_high, move_known}
use Rattle.channel_laws.proofs.fates.moves_tell_fates.Goals as goal

pub returns : goal.returns
returns c = record {
  high = move_high;
  known = λ from to packet past after h. move_known from to past after h packet;
  made = λ from to ch past after h. (move_made from to past after h).count ch;
  carriers = λ from to ch n past after h. (move_made from to past after h).carriers ch n;
}
