use Rattle.std.proofs.Common.{sym, subst}
use Rattle.live_telling.proofs.Adding.{on_ok_then}
use Rattle.live_client.specs.Callers.{Calling, IsCaller}
use Rattle.live_client.proofs.Turns.{told_copies}
use Rattle.live_client.proofs.caller.Caller.tell_end.Goals as goal

pub returns : goal.returns
returns c =
    on_ok_then c.tell.result _ _ c.tell.ensures
    (λ told layout digest d i. told_copies layout digest _ d _ _ _ _
    (subst (λ (k : Calling). IsCaller layout digest k d) (sym c.self.view_is) i) c.if-not-self.false
    c.new-events.ensures c.in_ok-tell_copies.ensures told)
