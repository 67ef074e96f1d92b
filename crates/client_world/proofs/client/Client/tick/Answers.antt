use Rattle.std.proofs.Common.{inl, inr, ◌≡◌, ◌∙◌, [], List, map, sym, ap}
use Rattle.std.specs.Prelude.{not, ◌&&◌}
use Rattle.connection_model.specs.Feed.{Past, has_ended}
use Rattle.connection_model.specs.Pack.{after_tick}
use Rattle.link_end.specs.Answers.{sent_value, new_packets}
use Rattle.link_end.specs.declared.sent.Sent.{Sent}
use Rattle.client_hearing.specs.Keeping.{end_as}
use Rattle.client_world.specs.Played.{Play, end_of}
use Rattle.client_world.proofs.Dying.{dead_tick, dead_sent, dead_stalled, alive_stalled}
use Rattle.client_world.proofs.Playing.{ended_of, not_lost, played, told, goes_on, plays_still, stands_of, plays_ticked}
use Rattle.client_world.proofs.client.Client.tick.Goals as goal

pub returns-then-is_over-clause-plays : goal.returns-then-is_over-clause-plays
returns-then-is_over-clause-plays c = λ past p.
    let s = c.args.self.now in
    plays_still s past _ (dead_tick (end_of s) past (ended_of s past p (sym c.is_over.ensures ∙ c.if-is_over.true))) p

pub returns-then-is_over-clause-sent : goal.returns-then-is_over-clause-sent
returns-then-is_over-clause-sent c = λ past p.
    let s = c.args.self.now in
    ap (λ (sent : List Sent). map sent_value sent) c.new.ensures
    ∙ dead_sent (end_of s) past (ended_of s past p (sym c.is_over.ensures ∙ c.if-is_over.true))

pub returns-then-is_over-clause-stalled : goal.returns-then-is_over-clause-stalled
returns-then-is_over-clause-stalled c = λ past p.
    let s = c.args.self.now in
    dead_stalled (end_of s) past (ended_of s past p (sym c.is_over.ensures ∙ c.if-is_over.true))

pub tick-requires : goal.tick-requires
tick-requires c =
    let p = played _ _ c.self.view_is (sym c.is_over.ensures ∙ c.if-is_over.false) c.requires in
    (_, p.0, stands_of _ p.0 p.1 p.2)

pub returns-in-Ok-clause-after : goal.returns-in-Ok-clause-after
returns-in-Ok-clause-after c = λ lost.
    absurd (not_lost c.args.self.now lost (sym c.is_over.ensures ∙ c.if-is_over.false))

pub returns-in-Ok-clause-plays : goal.returns-in-Ok-clause-plays
returns-in-Ok-clause-plays c =
    let end = end_as c.self.inside.classes.now c.self.inside.version in
    goes_on _ _ c.self.view_is (sym c.is_over.ensures ∙ c.if-is_over.false) _
    (λ end past. after_tick end past []) (λ past p alive.
    let st = stands_of _ past p alive in
    plays_ticked c.all_holds_still.ensures.still _ past (after_tick end past []) p alive
    (c.sending_changes_no_copy.ensures.tick _ _ end past p.copies)
    (c.ticks_and_calls_deliver_nothing.ensures.tick end past [])
    (c.sending_hears_nothing.ensures.tick_top end past st.side alive st.may.opens)
    (c.sending_hears_nothing.ensures.tick_entries end past st.side alive st.may.opens)
    _ _ _ (c.in-Ok.ensures.stalled end past st) (c.in-Ok.ensures.stands end past st) c.in-Ok.ensures.count)

pub returns-in-Ok-clause-sent : goal.returns-in-Ok-clause-sent
returns-in-Ok-clause-sent c =
    told _ _ c.self.view_is (sym c.is_over.ensures ∙ c.if-is_over.false)
    (λ (x : Play) (past : Past). map sent_value c.in-Ok.ticked.sent
    ≡ new_packets (end_of x) past (after_tick (end_of x) past []))
    (λ past p alive. c.in-Ok.ensures.sent _ past (stands_of _ past p alive))

pub returns-in-Ok-clause-stalled : goal.returns-in-Ok-clause-stalled
returns-in-Ok-clause-stalled c =
    told _ _ c.self.view_is (sym c.is_over.ensures ∙ c.if-is_over.false)
    (λ (x : Play) (past : Past). c.in-Ok.ticked.stalled
    ≡ (not (has_ended past) && has_ended (after_tick (end_of x) past [])))
    (λ past p alive. alive_stalled (end_as c.self.inside.classes.now c.self.inside.version) past c.in-Ok.ticked.stalled
    alive (c.in-Ok.ensures.stalled _ past (stands_of _ past p alive)))

pub returns-in-Ok-clause-ready : goal.returns-in-Ok-clause-ready
returns-in-Ok-clause-ready c = elim c.requires [
  | inl lost ↦ absurd (not_lost c.args.self.now lost (sym c.is_over.ensures ∙ c.if-is_over.false))
  | inr r ↦ inr (_, returns-in-Ok-clause-plays c r.0 r.1)
]
