use Rattle.std.proofs.Common.{refl, ◌∙◌}
use Rattle.connection_model.specs.Pack.{after_tick}
use Rattle.server_end.proofs.server_end.ServerEnd.tick.Goals as goal

pub returns : goal.returns
returns c = λ end past before samples shown h.
    let stands = c.in_ok-sent.ensures.stands end past before samples shown h in
    record {
      player = refl;
      stands = stands;
      count = c.in_ok-sent.ensures.count;
      sent = c.in_ok-sent.ensures.sent end past before samples shown h;
      stalled = c.stalled-stalled.ensures end (after_tick end past shown) stands.link;
      top = c.top-top.ensures.kept ∙ stands.link.book.top;
    }
