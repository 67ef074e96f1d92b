use Rattle.std.proofs.Common.{◌≡◌, ◌≢◌, map, None, sym, ◌∙◌, subst, arith}
use Rattle.protocol_model.specs.Side.{AtServer}
use Rattle.protocol_model.specs.declared.CallAnswer.TheVariants.{Queued, NotOpen, NotOwner}
use Rattle.connection_model.specs.Feed.{End, Past}
use Rattle.connection_model.specs.CallAnswers.{call_channel}
use Rattle.class_members.specs.Members.{call_of}
use Rattle.value_codec.specs.Values.{arg_of}
use Rattle.shadow_changes.specs.Samples.{Samples}
use Rattle.server_end.specs.Stands.{StandsEnd}
use Rattle.server_end.proofs.Answers.{on_ok, each_ok}
use Rattle.server_end.proofs.CallAnswers.{not_open, after_refused, opened_by, barred, reliable_answer, reliable_after, loose_answer, loose_after}
use Rattle.server_end.proofs.server_end.ServerEnd.call.Goals as goal

closed : (c : goal.In_default) (end : End) (past : Past) (samples : Samples)
    → StandsEnd c.args.self.now end past samples → call_channel AtServer past c.args.actor ≡ None
closed c end past samples h = sym (c.channel.ensures end past samples h) ∙ c.in_default.is

not_queued : NotOpen ≢ Queued
not_queued e = cc

not_kept : NotOwner ≢ Queued
not_kept e = cc

pub returns-in_default-clause-answer : goal.returns-in_default-clause-answer
returns-in_default-clause-answer c = λ end past samples h.
    sym (not_open past c.args.actor c.args.number _ h.alive (closed c end past samples h.stands))

pub returns-in_default-clause-stands : goal.returns-in_default-clause-stands
returns-in_default-clause-stands c = λ end past samples h.
    subst (λ (p : Past). StandsEnd c.args.self.now end p samples)
    (sym (after_refused past c.args.actor c.args.number _ NotOpen not_queued
    (not_open past c.args.actor c.args.number _ h.alive (closed c end past samples h.stands)))) h.stands

pub returns-then-bars-clause-answer : goal.returns-then-bars-clause-answer
returns-then-bars-clause-answer c = λ end past samples h.
    let channel = sym (c.channel.ensures end past samples h.stands) ∙ c.in-Some.is in
    sym (barred past c.args.actor c.args.number _ c.in-Some.channel _
    (record {
      alive = h.alive;
      channel = channel;
      meant = h.meant
          (opened_by past c.args.actor c.in-Some.channel channel).0;
    })
    (sym (c.bars.ensures end past samples h.stands) ∙ c.if-bars.true))

pub returns-then-bars-clause-stands : goal.returns-then-bars-clause-stands
returns-then-bars-clause-stands c = λ end past samples h.
    let channel = sym (c.channel.ensures end past samples h.stands) ∙ c.in-Some.is in
    subst (λ (p : Past). StandsEnd c.args.self.now end p samples)
    (sym (after_refused past c.args.actor c.args.number _ NotOwner not_kept
    (barred past c.args.actor c.args.number _ c.in-Some.channel _
    (record {
      alive = h.alive;
      channel = channel;
      meant = h.meant
          (opened_by past c.args.actor c.in-Some.channel channel).0;
    })
    (sym (c.bars.ensures end past samples h.stands) ∙ c.if-bars.true)))) h.stands

pub push_call-requires-clause-stands : goal.push_call-requires-clause-stands
push_call-requires-clause-stands c =
    let past : Past = c.requires.1 in
    let h = c.requires.3 in
    let channel = sym (c.channel.ensures c.requires.0 past c.requires.2 h.stands) ∙ c.in-Some.is in (
      c.requires.0,
      past,
      c.requires.2,
      h.stands,
      omega (
        arith,
        (h.stands.sender.low c.args.actor c.in-Some.channel
            (opened_by past c.args.actor c.in-Some.channel channel).1).1,
      ),
    )

pub push_call-requires-clause-few : goal.push_call-requires-clause-few
push_call-requires-clause-few c = c.requires.3.count

pub returns-then-called-clause-answer : goal.returns-then-called-clause-answer
returns-then-called-clause-answer c =
    each_ok c.push_call.result (λ answer says end past samples h.
    let channel = sym (c.channel.ensures end past samples h.stands) ∙ c.in-Some.is in
    says end past samples h.stands
    ∙ sym (reliable_answer past c.args.actor c.args.number _ c.in-Some.channel
    (call_of c.args.called.now) c.in_ok-payload.payload
    (record {
      alive = h.alive;
      channel = channel;
      meant = h.meant
          (opened_by past c.args.actor c.in-Some.channel channel).0;
    })
    (sym (c.bars.ensures end past samples h.stands) ∙ c.if-bars.false) c.if-called.true (sym c.in_ok-payload.ensures)))
    c.push_call.ensures.answer

pub returns-then-called-clause-stands : goal.returns-then-called-clause-stands
returns-then-called-clause-stands c =
    on_ok c.push_call.result (λ stands end past samples h.
    let channel = sym (c.channel.ensures end past samples h.stands) ∙ c.in-Some.is in
    subst (λ (p : Past). StandsEnd c.push_call.new.self end p samples)
    (sym (reliable_after past c.args.actor c.args.number _ c.in-Some.channel
    (call_of c.args.called.now) c.in_ok-payload.payload
    (record {
      alive = h.alive;
      channel = channel;
      meant = h.meant
          (opened_by past c.args.actor c.in-Some.channel channel).0;
    })
    (sym (c.bars.ensures end past samples h.stands) ∙ c.if-bars.false) c.if-called.true (sym c.in_ok-payload.ensures)))
    (stands end past samples c.args.actor c.args.number (call_of c.args.called.now)
    (map arg_of c.args.args.now) h.stands
    (opened_by past c.args.actor c.in-Some.channel channel).0 (opened_by past c.args.actor c.in-Some.channel channel).1
    (sym c.in_ok-payload.ensures)))
    c.push_call.ensures.stands

pub returns-else-called-clause-answer : goal.returns-else-called-clause-answer
returns-else-called-clause-answer c =
    each_ok c.queue_call.result (λ answer says end past samples h.
    let channel = sym (c.channel.ensures end past samples h.stands) ∙ c.in-Some.is in
    says end past samples h.stands
    ∙ sym (loose_answer past c.args.actor c.args.number _ c.in-Some.channel (call_of c.args.called.now)
    (record {
      alive = h.alive;
      channel = channel;
      meant = h.meant
          (opened_by past c.args.actor c.in-Some.channel channel).0;
    })
    (sym (c.bars.ensures end past samples h.stands) ∙ c.if-bars.false) c.if-called.false))
    c.queue_call.ensures.answer

pub returns-else-called-clause-stands : goal.returns-else-called-clause-stands
returns-else-called-clause-stands c =
    on_ok c.queue_call.result (λ stands end past samples h.
    let channel = sym (c.channel.ensures end past samples h.stands) ∙ c.in-Some.is in
    subst (λ (p : Past). StandsEnd c.queue_call.new.self end p samples)
    (sym (loose_after past c.args.actor c.args.number _ c.in-Some.channel (call_of c.args.called.now)
    (record {
      alive = h.alive;
      channel = channel;
      meant = h.meant
          (opened_by past c.args.actor c.in-Some.channel channel).0;
    })
    (sym (c.bars.ensures end past samples h.stands) ∙ c.if-bars.false) c.if-called.false))
    (stands end past samples (call_of c.args.called.now) (map arg_of c.args.args.now) h.stands
    (sym c.in_ok-payload.ensures)))
    c.queue_call.ensures.stands
