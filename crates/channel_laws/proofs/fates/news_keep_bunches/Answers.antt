use Rattle.channel_laws.proofs.Alike.{same_span, same_room, same_due}
use Rattle.channel_laws.proofs.Hearing.{heard_fates, held_same}
use Rattle.channel_laws.proofs.Moves.{news_alike}
use Rattle.channel_laws.proofs.fates.news_keep_bunches.Goals as goal

pub returns : goal.returns
returns c = record {
  span = λ one other ch h. same_span one other (news_alike one other h) ch;
  room = λ one other ch h. same_room one other (news_alike one other h) ch;
  due = λ one other ch n h. same_due one other (news_alike one other h) ch n;
  heard = λ one other h. heard_fates one other h.rest;
  held = λ one other h. held_same one other (heard_fates one other h.rest);
}
