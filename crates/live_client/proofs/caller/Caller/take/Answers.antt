use Rattle.std.proofs.Common.{ap, sym, subst, ◌∙◌}
use Rattle.live_model.specs.Outside.{same_peer}
use Rattle.live_telling.proofs.Adding.{on_ok_then}
use Rattle.live_client.specs.Callers.{Calling, IsCaller}
use Rattle.live_client.proofs.Hearing.{heard}
use Rattle.live_client.proofs.caller.Caller.take.Goals as goal

pub returns : goal.returns
returns c =
    let h = c.in_ok-verdict in
    on_ok_then c.tell_got.result _ _ c.tell_got.ensures
    (λ got layout digest d i. heard layout digest _ d c.args.from c.args.bytes.now h.verdict c.hear.new.client _ _ _ _ _
    (subst (λ (k : Calling). IsCaller layout digest k d) (sym c.self.view_is) i)
    (ap (λ (k : Calling). same_peer c.args.from k.server) c.self.view_is ∙ sym c.is_server.ensures
    ∙ c.if-not-is_server.false) (sym c.ends_in_zero.ensures ∙ c.if-ends_in_zero.false)
    c.new-events.ensures h.ensures.says h.ensures.told h.ensures.plays h.ensures.layout h.ensures.version
    c.in_ok-tell.ensures got)
