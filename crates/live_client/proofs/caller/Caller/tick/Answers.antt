use Rattle.std.proofs.Common.{sym, subst}
use Rattle.live_model.specs.Caller.{after_tick}
use Rattle.live_telling.proofs.Adding.{on_ok_then}
use Rattle.live_client.specs.Callers.{Calling, IsCaller}
use Rattle.live_client.proofs.Hearing.{stands_after}
use Rattle.live_client.proofs.Turns.{ticked}
use Rattle.live_client.proofs.caller.Caller.tick.Goals as goal

pub returns-clause-does : goal.returns-clause-does
returns-clause-does c =
    let t = c.in_ok-ticked in
    on_ok_then c.tell_tick.result _ _ c.tell_tick.ensures
    (λ told layout digest d i. ticked _ c.tick.new.self t.ticked.sent t.ticked.stalled _ _ c.if-not-self.false
    t.ensures.plays t.ensures.sent t.ensures.stalled t.ensures.layout t.ensures.version told layout digest d
    (subst (λ (k : Calling). IsCaller layout digest k d) (sym c.self.view_is) i))

pub returns-clause-stands : goal.returns-clause-stands
returns-clause-stands c =
    on_ok_then c.tell_tick.result _ _ (returns-clause-does c)
    (λ does. stands_after after_tick c.args.self.now _ _ _ c.requires.there does)
