use Rattle.std.proofs.Common.{◌∙◌, map, sym, subst}
use Rattle.connection_model.specs.Feed.{Past}
use Rattle.class_members.specs.Members.{call_of}
use Rattle.value_codec.specs.Values.{arg_of}
use Rattle.client_sending.specs.Stands.{Stands}
use Rattle.client_sending.proofs.Answers.{on_ok, each_ok}
use Rattle.client_sending.proofs.Meant.{reliable_answer, reliable_after, loose_answer, loose_after}
use Rattle.client_sending.proofs.calls.send.Goals as goal

pub push_call-requires-clause-stands : goal.push_call-requires-clause-stands
push_call-requires-clause-stands c =
    let r = c.requires.meant in (r.0, r.1, r.2, r.3, r.3.held c.args.actor c.args.channel r.4.held)

pub returns-then-called-clause-answer : goal.returns-then-called-clause-answer
returns-then-called-clause-answer c =
    each_ok c.push_call.result (λ answer says l end past h m.
    says l end past h
    ∙ sym (reliable_answer past c.args.actor c.args.number c.args.channel c.args.called.now c.args.args.now h.alive m
    c.in_ok-payload.payload c.if-called.true (sym c.in_ok-payload.ensures)))
    c.push_call.ensures.answer

pub returns-then-called-clause-stands : goal.returns-then-called-clause-stands
returns-then-called-clause-stands c =
    on_ok c.push_call.result (λ stands l end past h m.
    subst (λ (p : Past). Stands l c.push_call.new.table end p)
    (sym (reliable_after past c.args.actor c.args.number c.args.channel c.args.called.now c.args.args.now h.alive m
    c.in_ok-payload.payload c.if-called.true (sym c.in_ok-payload.ensures)))
    (stands l end past c.args.actor c.args.number (call_of c.args.called.now) (map arg_of c.args.args.now) h
    (h.held c.args.actor c.args.channel m.held) (sym c.in_ok-payload.ensures)))
    c.push_call.ensures.stands

pub returns-else-called-clause-answer : goal.returns-else-called-clause-answer
returns-else-called-clause-answer c =
    each_ok c.queue_call.result (λ answer says l end past h m.
    says l end past h
    ∙ sym (loose_answer past c.args.actor c.args.number c.args.channel c.args.called.now c.args.args.now h.alive m
    c.if-called.false))
    c.queue_call.ensures.answer

pub returns-else-called-clause-stands : goal.returns-else-called-clause-stands
returns-else-called-clause-stands c =
    on_ok c.queue_call.result (λ stands l end past h m.
    subst (λ (p : Past). Stands l c.queue_call.new.table end p)
    (sym (loose_after past c.args.actor c.args.number c.args.channel c.args.called.now c.args.args.now h.alive m
    c.if-called.false))
    (stands l end past (call_of c.args.called.now) (map arg_of c.args.args.now) h (sym c.in_ok-payload.ensures)))
    c.queue_call.ensures.stands
