use Rattle.std.proofs.Common.{◌≡◌, ◌⊎◌, ◌∙◌, inl, inr, List, true, false, ap, sym, subst}
use Rattle.std.proofs.lemmas.Bool.{false≢true}
use Rattle.connection_model.specs.Feed.{End, Past}
use Rattle.connection_model.specs.Pack.{after_packing}
use Rattle.shadow_changes.specs.Samples.{Samples}
use Rattle.sender_steps.specs.declared.sight.Seen.{Seen}
use Rattle.sender_steps.specs.Sender.{Sender}
use Rattle.sender_steps.specs.Sights.{sight_value}
use Rattle.sender_steps.specs.Stands.{IsSpent}
use Rattle.sender_turns.specs.Ticking.{InTick}
use Rattle.actor_sender.specs.Serving.{after_serving, CanSend, MayBegin}
use Rattle.actor_sender.proofs.Ends.{packets_are, ended}
use Rattle.actor_sender.proofs.sender.ActorSender.send.Goals as goal

-- a sender that isn't spent may begin
begun : {P : Type 0} → (s : Sender) → IsSpent s ⊎ P → s.spent ≡ false → P
begun s (inl e) not_spent = absurd (false≢true (sym not_spent ∙ e))
begun s (inr h) not_spent = h

pub pack-requires-clause-stands : goal.pack-requires-clause-stands
pack-requires-clause-stands c =
    let r = begun c.args.self.now c.requires (ap (λ (s : Sender). s.spent) (sym c.self.view_is) ∙ c.if-self.false) in (
      r.0,
      r.1,
      r.2,
      subst (λ (xs : List Seen). CanSend c.begin.new.self c.begin.new.link c.begin.new.table c.args.classes.now
          c.args.changes.now xs r.0 r.1 r.2) (sym c.as_slice-2.ensures)
          (c.in_ok-begin.ensures.stands c.args.changes.now r.0 r.1 r.2 r.3),
    )

pub end_tick-requires : goal.end_tick-requires
end_tick-requires c =
    let r = begun c.args.self.now c.requires (ap (λ (s : Sender). s.spent) (sym c.self.view_is) ∙ c.if-self.false) in
    let end : End = r.0 in
    let past : Past = r.1 in
    let samples : Samples = r.2 in
    let can : CanSend c.begin.new.self c.begin.new.link c.begin.new.table c.args.classes.now c.args.changes.now
    c.as_slice-2.result.now end past samples =
    subst (λ (xs : List Seen). CanSend c.begin.new.self c.begin.new.link c.begin.new.table c.args.classes.now
    c.args.changes.now xs end past samples) (sym c.as_slice-2.ensures)
    (c.in_ok-begin.ensures.stands c.args.changes.now end past samples r.3) in
    let packed : InTick c.pack.new.self c.pack.new.link c.pack.new.table end past
    (after_serving end past (sight_value c.args.classes.now c.as_slice-2.result.now)) samples =
    c.in_ok-pack.ensures.stands end past samples can in
    inr (end, past, after_serving end past (sight_value c.args.classes.now c.as_slice-2.result.now), packed.both.link)

pub returns-clause-sent : goal.returns-clause-sent
returns-clause-sent c = λ end past samples h.
    let can : CanSend c.begin.new.self c.begin.new.link c.begin.new.table c.args.classes.now c.args.changes.now
    c.as_slice-2.result.now end past samples =
    subst (λ (xs : List Seen). CanSend c.begin.new.self c.begin.new.link c.begin.new.table c.args.classes.now
    c.args.changes.now xs end past samples) (sym c.as_slice-2.ensures)
    (c.in_ok-begin.ensures.stands c.args.changes.now end past samples h) in
    let packed : InTick c.pack.new.self c.pack.new.link c.pack.new.table end past
    (after_serving end past (sight_value c.args.classes.now c.args.sight.now)) samples =
    subst (λ (xs : List Seen). InTick c.pack.new.self c.pack.new.link c.pack.new.table end past
    (after_serving end past (sight_value c.args.classes.now xs)) samples) c.as_slice-2.ensures
    (c.in_ok-pack.ensures.stands end past samples can) in
    c.in_ok-sent.ensures.sent end past (after_serving end past (sight_value c.args.classes.now c.args.sight.now))
    packed.both.link
    ∙ packets_are end past (sight_value c.args.classes.now c.args.sight.now)
    (after_packing end past (after_serving end past (sight_value c.args.classes.now c.args.sight.now)))

pub returns-clause-stands : goal.returns-clause-stands
returns-clause-stands c = λ end past samples h.
    let can : CanSend c.begin.new.self c.begin.new.link c.begin.new.table c.args.classes.now c.args.changes.now
    c.as_slice-2.result.now end past samples =
    subst (λ (xs : List Seen). CanSend c.begin.new.self c.begin.new.link c.begin.new.table c.args.classes.now
    c.args.changes.now xs end past samples) (sym c.as_slice-2.ensures)
    (c.in_ok-begin.ensures.stands c.args.changes.now end past samples h) in
    let packed : InTick c.pack.new.self c.pack.new.link c.pack.new.table end past
    (after_serving end past (sight_value c.args.classes.now c.args.sight.now)) samples =
    subst (λ (xs : List Seen). InTick c.pack.new.self c.pack.new.link c.pack.new.table end past
    (after_serving end past (sight_value c.args.classes.now xs)) samples) c.as_slice-2.ensures
    (c.in_ok-pack.ensures.stands end past samples can) in
    ended c.pack.new.self c.pack.new.link c.end_tick.new.self c.pack.new.table c.clear_waiting.new.self end past
    (sight_value c.args.classes.now c.args.sight.now) samples packed
    (c.in_ok-sent.ensures.stands end past
    (after_serving end past (sight_value c.args.classes.now c.args.sight.now)) packed.both.link)
    c.clear_waiting.ensures
