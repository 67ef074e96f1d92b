use Rattle.std.proofs.Common.{inl, inr, ◌≡◌, ◌∙◌, map, List, sym, ap}
use Rattle.connection_model.specs.Feed.{Past}
use Rattle.connection_model.specs.Verdict.{after_got, verdict_of}
use Rattle.value_codec.specs.declared.handed.Handed.{Handed}
use Rattle.handovers.specs.Handovers.{handover_of}
use Rattle.client_hearing.specs.Keeping.{end_as}
use Rattle.client_world.specs.Played.{Play, end_of, closes, handovers_in}
use Rattle.client_world.proofs.Dying.{got_tells, dead_got, dead_verdict, dead_over}
use Rattle.client_world.proofs.Playing.{ended_of, not_lost, played, told, goes_on, plays_still, plays_got}
use Rattle.client_world.proofs.client.Client.take.Goals as goal

pub returns-then-is_over-clause-plays : goal.returns-then-is_over-clause-plays
returns-then-is_over-clause-plays c = λ past p.
    let s = c.args.self.now in
    plays_still s past _ (dead_got (end_of s) past c.args.bytes.now
    (ended_of s past p (sym c.is_over.ensures ∙ c.if-is_over.true))) p

pub returns-then-is_over-clause-verdict : goal.returns-then-is_over-clause-verdict
returns-then-is_over-clause-verdict c = λ past p.
    let s = c.args.self.now in
    dead_verdict (end_of s) past c.args.bytes.now (ended_of s past p (sym c.is_over.ensures ∙ c.if-is_over.true))

pub returns-then-is_over-clause-handed : goal.returns-then-is_over-clause-handed
returns-then-is_over-clause-handed c = λ past p.
    let s = c.args.self.now in
    ap (λ (calls : List Handed). map (handover_of s.layout) calls) c.new.ensures
    ∙ dead_over (end_of s) past c.args.bytes.now (ended_of s past p (sym c.is_over.ensures ∙ c.if-is_over.true))

pub take-requires : goal.take-requires
take-requires c =
    let p = played _ _ c.self.view_is (sym c.is_over.ensures ∙ c.if-is_over.false) c.requires in
    (c.self.inside.version, p.0, p.1.lives p.2)

pub returns-in-Ok-clause-after : goal.returns-in-Ok-clause-after
returns-in-Ok-clause-after c = λ lost.
    absurd (not_lost c.args.self.now lost (sym c.is_over.ensures ∙ c.if-is_over.false))

pub returns-in-Ok-clause-plays : goal.returns-in-Ok-clause-plays
returns-in-Ok-clause-plays c =
    goes_on _ _ c.self.view_is (sym c.is_over.ensures ∙ c.if-is_over.false) _
    (λ end past. after_got end past c.args.bytes.now) (λ past p alive.
    plays_got _ past _ _ _ _ _ _ _ p
    (c.is_closed-self-inside.ensures ∙ ap closes (c.in-Ok.ensures.verdict c.self.inside.version past (p.lives alive))
    ∙ got_tells (end_as c.self.inside.classes.now c.self.inside.version) past c.args.bytes.now alive)
    (c.in-Ok.ensures.top c.self.inside.version past (p.lives alive))
    (c.in-Ok.ensures.copied c.self.inside.version past (p.lives alive))
    (c.in-Ok.ensures.lives c.self.inside.version past (p.lives alive))
    (c.datagrams_leave_what_may_be_sent.ensures c.self.inside.version
    (end_as c.self.inside.classes.now c.self.inside.version) past c.args.bytes.now (p.may alive))
    c.take.ensures.count)

pub returns-in-Ok-clause-verdict : goal.returns-in-Ok-clause-verdict
returns-in-Ok-clause-verdict c =
    told _ _ c.self.view_is (sym c.is_over.ensures ∙ c.if-is_over.false)
    (λ (x : Play) (past : Past). c.in-Ok.heard.outcome.verdict ≡ verdict_of (end_of x) past c.args.bytes.now)
    (λ past p alive. c.in-Ok.ensures.verdict c.self.inside.version past (p.lives alive))

pub returns-in-Ok-clause-handed : goal.returns-in-Ok-clause-handed
returns-in-Ok-clause-handed c =
    told _ _ c.self.view_is (sym c.is_over.ensures ∙ c.if-is_over.false)
    (λ (x : Play) (past : Past). map (handover_of x.layout) c.in-Ok.heard.outcome.handed
    ≡ handovers_in (end_of x) past c.args.bytes.now)
    (λ past p alive. c.in-Ok.ensures.handed c.self.inside.version past (p.lives alive))

pub returns-in-Ok-clause-ready : goal.returns-in-Ok-clause-ready
returns-in-Ok-clause-ready c = elim c.requires [
  | inl lost ↦ absurd (not_lost c.args.self.now lost (sym c.is_over.ensures ∙ c.if-is_over.false))
  | inr r ↦ inr (_, returns-in-Ok-clause-plays c r.0 r.1)
]
