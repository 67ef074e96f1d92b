use Rattle.std.proofs.Common.{◌∙◌, ◌<◌, map, length, option_map, sym, ap, subst}
use Rattle.std.specs.Option.{option_copied}
use Rattle.protocol_model.specs.Side.{AtClient}
use Rattle.protocol_model.specs.declared.CallAnswer.TheVariants.{NotOpen, NotOwner}
use Rattle.connection_model.specs.CallAnswers.{fitting_call}
use Rattle.connection_model.specs.Feed.{Past}
use Rattle.class_members.specs.Members.{call_of}
use Rattle.value_codec.specs.Values.{arg_of}
use Rattle.actor_copies.specs.declared.copy.ActorCopy.{ActorCopy}
use Rattle.client_sending.specs.Stands.{Stands}
use Rattle.client_sending.proofs.Answers.{on_ok, each_ok}
use Rattle.client_sending.proofs.Meant.{after_refused, not_queued, not_kept, short_call}
use Rattle.client_sending.proofs.Roles.{holds_of, no_copy, asleep, uncalled, barred, is_meant}
use Rattle.client_sending.proofs.calls.call.Goals as goal

pub returns-in_default-clause-answer : goal.returns-in_default-clause-answer
returns-in_default-clause-answer c = λ l end past h s.
    sym (no_copy c.args.classes.now c.args.copies.now past c.args.actor c.args.number c.args.args.now s h.alive
    (sym c.of_actor.ensures ∙ ap option_copied c.in_default.is))

pub returns-in_default-clause-stands : goal.returns-in_default-clause-stands
returns-in_default-clause-stands c = λ l end past h s.
    subst (λ (p : Past). Stands l c.args.table.now end p)
    (sym (after_refused past c.args.actor c.args.number (map arg_of c.args.args.now) NotOpen not_queued
    (no_copy c.args.classes.now c.args.copies.now past c.args.actor c.args.number c.args.args.now s h.alive
    (sym c.of_actor.ensures ∙ ap option_copied c.in_default.is)))) h

pub returns-in_default-channel-clause-answer : goal.returns-in_default-channel-clause-answer
returns-in_default-channel-clause-answer c = λ l end past h s.
    sym (asleep c.args.classes.now c.args.copies.now past c.args.actor c.args.number c.args.args.now s h.alive
    c.in-Some.copy.now (sym c.of_actor.ensures ∙ ap option_copied c.in-Some.is) c.in_default-channel.is)

pub returns-in_default-channel-clause-stands : goal.returns-in_default-channel-clause-stands
returns-in_default-channel-clause-stands c = λ l end past h s.
    subst (λ (p : Past). Stands l c.args.table.now end p)
    (sym (after_refused past c.args.actor c.args.number (map arg_of c.args.args.now) NotOpen not_queued
    (asleep c.args.classes.now c.args.copies.now past c.args.actor c.args.number c.args.args.now s h.alive
    c.in-Some.copy.now (sym c.of_actor.ensures ∙ ap option_copied c.in-Some.is) c.in_default-channel.is))) h

pub class_at-requires : goal.class_at-requires
class_at-requires c =
    holds_of (λ (x : ActorCopy). x.class < length c.args.classes.now.classes) c.args.copies.now c.args.actor
    c.in-Some.copy.now c.requires.placed (sym c.of_actor.ensures ∙ ap option_copied c.in-Some.is)

pub returns-in_default-called-clause-answer : goal.returns-in_default-called-clause-answer
returns-in_default-called-clause-answer c = λ l end past h s.
    sym (uncalled c.args.classes.now c.args.copies.now past c.args.actor c.args.number c.args.args.now s h.alive
    c.in-Some.copy.now c.in-Some-channel.channel (sym c.of_actor.ensures
    ∙ ap option_copied c.in-Some.is) c.in-Some-channel.is
    (sym (ap (fitting_call AtClient c.args.number (map arg_of c.args.args.now)) c.class_at.ensures.class)
    ∙ sym (c.called.ensures c.args.classes.now.segments)
    ∙ ap (λ o. option_map call_of (option_copied o)) c.in_default-called.is))

pub returns-in_default-called-clause-stands : goal.returns-in_default-called-clause-stands
returns-in_default-called-clause-stands c = λ l end past h s.
    subst (λ (p : Past). Stands l c.args.table.now end p)
    (sym (after_refused past c.args.actor c.args.number (map arg_of c.args.args.now) NotOpen not_queued
    (uncalled c.args.classes.now c.args.copies.now past c.args.actor c.args.number c.args.args.now s h.alive
    c.in-Some.copy.now c.in-Some-channel.channel (sym c.of_actor.ensures
    ∙ ap option_copied c.in-Some.is) c.in-Some-channel.is
    (sym (ap (fitting_call AtClient c.args.number (map arg_of c.args.args.now)) c.class_at.ensures.class)
    ∙ sym (c.called.ensures c.args.classes.now.segments)
    ∙ ap (λ o. option_map call_of (option_copied o)) c.in_default-called.is)))) h

pub returns-then-not-is_owned-clause-answer : goal.returns-then-not-is_owned-clause-answer
returns-then-not-is_owned-clause-answer c = λ l end past h s.
    sym (barred c.args.classes.now c.args.copies.now past c.args.actor c.args.number c.args.args.now s h.alive
    c.in-Some.copy.now c.in-Some-channel.channel (call_of c.in-Some-called.called.now)
    (sym c.of_actor.ensures ∙ ap option_copied c.in-Some.is) c.in-Some-channel.is
    (sym (ap (fitting_call AtClient c.args.number (map arg_of c.args.args.now)) c.class_at.ensures.class)
    ∙ sym (c.called.ensures c.args.classes.now.segments)
    ∙ ap (λ o. option_map call_of (option_copied o)) c.in-Some-called.is)
    (λ role at. sym c.if-not-is_owned.true ∙ c.is_owned.ensures role at))

pub returns-then-not-is_owned-clause-stands : goal.returns-then-not-is_owned-clause-stands
returns-then-not-is_owned-clause-stands c = λ l end past h s.
    subst (λ (p : Past). Stands l c.args.table.now end p)
    (sym (after_refused past c.args.actor c.args.number (map arg_of c.args.args.now) NotOwner not_kept
    (barred c.args.classes.now c.args.copies.now past c.args.actor c.args.number c.args.args.now s h.alive
    c.in-Some.copy.now c.in-Some-channel.channel (call_of c.in-Some-called.called.now)
    (sym c.of_actor.ensures ∙ ap option_copied c.in-Some.is) c.in-Some-channel.is
    (sym (ap (fitting_call AtClient c.args.number (map arg_of c.args.args.now)) c.class_at.ensures.class)
    ∙ sym (c.called.ensures c.args.classes.now.segments)
    ∙ ap (λ o. option_map call_of (option_copied o)) c.in-Some-called.is)
    (λ role at. sym c.if-not-is_owned.true ∙ c.is_owned.ensures role at)))) h

pub send-requires-clause-meant : goal.send-requires-clause-meant
send-requires-clause-meant c =
    let r = c.requires.stands in (
      r.0,
      r.1,
      r.2,
      r.3,
      is_meant c.args.classes.now c.args.copies.now r.2 c.args.actor c.args.number c.args.args.now r.4 r.3.alive
          c.in-Some.copy.now c.in-Some-channel.channel c.in-Some-called.called.now
          (sym c.of_actor.ensures ∙ ap option_copied c.in-Some.is) c.in-Some-channel.is
          (sym (ap (fitting_call AtClient c.args.number (map arg_of c.args.args.now)) c.class_at.ensures.class)
          ∙ sym (c.called.ensures c.args.classes.now.segments)
          ∙ ap (λ o. option_map call_of (option_copied o)) c.in-Some-called.is)
          (λ role at. sym c.if-not-is_owned.false ∙ c.is_owned.ensures role at),
    )

pub send-requires-clause-short : goal.send-requires-clause-short
send-requires-clause-short c =
    short_call c.args.classes.now c.in-Some.copy.now.class c.args.actor c.args.number c.in-Some-called.called.now
    c.args.args.now c.keeps_rules.ensures.rules
    (sym (ap (fitting_call AtClient c.args.number (map arg_of c.args.args.now)) c.class_at.ensures.class)
    ∙ sym (c.called.ensures c.args.classes.now.segments)
    ∙ ap (λ o. option_map call_of (option_copied o)) c.in-Some-called.is)

pub returns-clause-answer : goal.returns-clause-answer
returns-clause-answer c =
    each_ok c.send.result (λ answer says l end past h s.
    says l end past h
    (is_meant c.args.classes.now c.args.copies.now past c.args.actor c.args.number c.args.args.now s h.alive
    c.in-Some.copy.now c.in-Some-channel.channel c.in-Some-called.called.now
    (sym c.of_actor.ensures ∙ ap option_copied c.in-Some.is) c.in-Some-channel.is
    (sym (ap (fitting_call AtClient c.args.number (map arg_of c.args.args.now)) c.class_at.ensures.class)
    ∙ sym (c.called.ensures c.args.classes.now.segments)
    ∙ ap (λ o. option_map call_of (option_copied o)) c.in-Some-called.is)
    (λ role at. sym c.if-not-is_owned.false ∙ c.is_owned.ensures role at)))
    c.send.ensures.answer

pub returns-clause-stands : goal.returns-clause-stands
returns-clause-stands c =
    on_ok c.send.result (λ stands l end past h s.
    stands l end past h
    (is_meant c.args.classes.now c.args.copies.now past c.args.actor c.args.number c.args.args.now s h.alive
    c.in-Some.copy.now c.in-Some-channel.channel c.in-Some-called.called.now
    (sym c.of_actor.ensures ∙ ap option_copied c.in-Some.is) c.in-Some-channel.is
    (sym (ap (fitting_call AtClient c.args.number (map arg_of c.args.args.now)) c.class_at.ensures.class)
    ∙ sym (c.called.ensures c.args.classes.now.segments)
    ∙ ap (λ o. option_map call_of (option_copied o)) c.in-Some-called.is)
    (λ role at. sym c.if-not-is_owned.false ∙ c.is_owned.ensures role at)))
    c.send.ensures.stands
