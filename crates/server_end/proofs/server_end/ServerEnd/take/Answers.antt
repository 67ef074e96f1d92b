use Rattle.std.proofs.Common.{refl}
use Rattle.server_end.proofs.server_end.ServerEnd.take.Goals as goal

pub returns : goal.returns
returns c = record {
  heard = λ end edits past samples h. record {
    player = refl;
    verdict = c.in_ok-heard.ensures.verdict end edits past samples h;
    handed = c.in_ok-heard.ensures.handed end edits past samples h;
    stands = λ none. c.in_ok-heard.ensures.stands end edits past samples h none;
    alive = λ none. c.in_ok-heard.ensures.alive end edits past samples h none;
    closed = λ top is. c.in_ok-heard.ensures.closed end edits past samples top h is;
    top = λ top is. c.in_ok-heard.ensures.top end edits past samples top h is;
    count = c.in_ok-heard.ensures.count;
  };
}
