use Rattle.std.proofs.Common.{ap, sym, ◌∙◌}
use Rattle.live_model.specs.Outside.{Datagram}
use Rattle.live_model.specs.Caller.{after_answer, after_datagram}
use Rattle.live_telling.proofs.Adding.{on_ok_then}
use Rattle.live_client.specs.Callers.{Calling}
use Rattle.live_client.proofs.Hearing.{hears_connection, hears_answer, stands_after}
use Rattle.live_client.proofs.caller.Caller.hear.Goals as goal

pub returns-then-self-clause-does : goal.returns-then-self-clause-does
returns-then-self-clause-does c =
    on_ok_then c.take.result _ _ c.take.ensures
    (λ does. hears_connection c.args.self.now c.take.new.self c.args.from c.args.bytes.now _ _
    (ap (λ (k : Calling). k.welcomed) (sym c.self.view_is) ∙ c.if-self.true) does)

pub returns-then-self-clause-stands : goal.returns-then-self-clause-stands
returns-then-self-clause-stands c =
    on_ok_then c.take.result _ _ c.take.ensures
    (λ does. stands_after (λ table d. after_datagram table c.args.from c.args.bytes.now d) _ _ _ _ c.requires.there
    does)

pub returns-clause-does : goal.returns-clause-does
returns-clause-does c =
    hears_answer c.args.self.now c.answer.new.self c.args.from c.args.bytes.now c.args.acts.now
    (ap (λ (k : Calling). k.welcomed) (sym c.self.view_is) ∙ c.if-self.false) c.answer.ensures

pub returns-clause-stands : goal.returns-clause-stands
returns-clause-stands c =
    let r = c.requires.there in
    (r.0, r.1, (after_answer r.2 (Datagram c.args.from c.args.bytes.now)).0, c.answer.ensures r.0 r.1 r.2 r.3)
