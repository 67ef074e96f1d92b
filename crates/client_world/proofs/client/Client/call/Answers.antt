use Rattle.std.proofs.Common.{inl, inr, ◌≡◌, ◌∙◌, map, refl, sym, arith}
use Rattle.protocol_model.specs.Side.{AtClient}
use Rattle.connection_model.specs.CallAnswers.{after_call, answer_of}
use Rattle.connection_model.specs.Feed.{Past}
use Rattle.value_codec.specs.Values.{arg_of}
use Rattle.client_world.specs.Played.{Play}
use Rattle.client_world.proofs.Dying.{dead_answer, dead_call}
use Rattle.client_world.proofs.Playing.{ended_of, not_lost, played, told, goes_on, plays_still, stands_of, plays_called}
use Rattle.client_world.proofs.client.Client.call.Goals as goal

pub returns-then-is_over-clause-plays : goal.returns-then-is_over-clause-plays
returns-then-is_over-clause-plays c = λ past p.
    let s = c.args.self.now in
    plays_still s past _ (dead_call AtClient past c.args.actor c.args.call (map arg_of c.args.args.now)
    (ended_of s past p (sym c.is_over.ensures ∙ c.if-is_over.true))) p

pub returns-then-is_over-clause-answer : goal.returns-then-is_over-clause-answer
returns-then-is_over-clause-answer c = λ past p.
    let s = c.args.self.now in
    dead_answer AtClient past c.args.actor c.args.call (map arg_of c.args.args.now)
    (ended_of s past p (sym c.is_over.ensures ∙ c.if-is_over.true))

pub call-requires-clause-stands : goal.call-requires-clause-stands
call-requires-clause-stands c =
    let p = played _ _ c.self.view_is (sym c.is_over.ensures ∙ c.if-is_over.false) c.requires in
    (_, _, p.0, stands_of _ p.0 p.1 p.2, p.1.copies)

pub call-requires-clause-placed : goal.call-requires-clause-placed
call-requires-clause-placed c =
    let p = played _ _ c.self.view_is (sym c.is_over.ensures ∙ c.if-is_over.false) c.requires in
    (p.1.lives p.2).keeps.placed

pub call-requires-clause-few : goal.call-requires-clause-few
call-requires-clause-few c =
    let p = played _ _ c.self.view_is (sym c.is_over.ensures ∙ c.if-is_over.false) c.requires in
    let count = p.1.count in
    omega (arith, count)

pub returns-in-Ok-clause-after : goal.returns-in-Ok-clause-after
returns-in-Ok-clause-after c = λ lost.
    absurd (not_lost c.args.self.now lost (sym c.is_over.ensures ∙ c.if-is_over.false))

pub returns-in-Ok-clause-plays : goal.returns-in-Ok-clause-plays
returns-in-Ok-clause-plays c =
    let args = map arg_of c.args.args.now in
    goes_on _ _ c.self.view_is (sym c.is_over.ensures ∙ c.if-is_over.false) _
    (λ end past. after_call AtClient past c.args.actor c.args.call args) (λ past p alive.
    plays_called c.all_holds_still.ensures.still _ past (after_call AtClient past c.args.actor c.args.call args) p alive
    (c.sending_changes_no_copy.ensures.call _ _ past c.args.actor c.args.call args p.copies)
    (c.ticks_and_calls_deliver_nothing.ensures.call AtClient past c.args.actor c.args.call args)
    (c.sending_hears_nothing.ensures.call_top past c.args.actor c.args.call args)
    (c.sending_hears_nothing.ensures.call_entries past c.args.actor c.args.call args)
    _ _ (c.in-Ok.ensures.stands _ _ past (stands_of _ past p alive) p.copies) c.call.ensures.count refl)

pub returns-in-Ok-clause-answer : goal.returns-in-Ok-clause-answer
returns-in-Ok-clause-answer c =
    let args = map arg_of c.args.args.now in
    told _ _ c.self.view_is (sym c.is_over.ensures ∙ c.if-is_over.false)
    (λ (x : Play) (past : Past). c.in-Ok.answer ≡ answer_of AtClient past c.args.actor c.args.call args)
    (λ past p alive. c.in-Ok.ensures.answer _ _ past (stands_of _ past p alive) p.copies)

pub returns-in-Ok-clause-ready : goal.returns-in-Ok-clause-ready
returns-in-Ok-clause-ready c = elim c.requires [
  | inl lost ↦ absurd (not_lost c.args.self.now lost (sym c.is_over.ensures ∙ c.if-is_over.false))
  | inr r ↦ inr (_, returns-in-Ok-clause-plays c r.0 r.1)
]
