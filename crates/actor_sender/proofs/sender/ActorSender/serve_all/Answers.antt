use Rattle.std.proofs.Common.{◌≡◌, ◌+◌, ◌<◌, ◌≤◌, ℕ, List, map, take, length, refl, sym, ap, subst, arith, Some, None}
use Rattle.std.specs.List.{slice_get}
use Rattle.std.proofs.lemmas.Option.{slice_get_past, slice_get_read}
use Rattle.connection_model.specs.Feed.{End, Past}
use Rattle.connection_model.specs.Pack.{Packing}
use Rattle.shadow_changes.specs.Samples.{Samples}
use Rattle.turn_laws.specs.Turns.{after_turns}
use Rattle.sender_steps.proofs.Pairs.{take_whole}
use Rattle.sender_turns.specs.declared.turns.Turn.{Turn}
use Rattle.sender_turns.specs.Ticking.{InTick}
use Rattle.sender_turns.specs.Turning.{turn_entry}
use Rattle.actor_sender.proofs.Turns.{so_far, none_served, there, served, goes_on, stops}
use Rattle.actor_sender.proofs.sender.ActorSender.serve_all.Goals as goal

pub loop-turn-preserved-in_default : goal.loop-turn-preserved-in_default
loop-turn-preserved-in_default c =
    let at : slice_get c.args.turns.now c.loop-turn.turn-index ≡ Some c.turn-item.result =
    slice_get_read c.args.turns.now (length c.args.turns.now) c.loop-turn.turn-index c.turn-item.result refl
    (omega arith) c.turn-item.is in
    let r = c.requires.stands in
    absurd (there c.args.classes.now c.args.changes.now c.args.sight.now c.args.turns.now c.loop-turn.turn-index
    c.args.self.now c.args.link.now c.args.table.now c.loop-turn.self c.loop-turn.link c.loop-turn.table
    c.loop-turn.invariant c.turn-item.result at r.0 r.1 r.2 r.3 r.4 r.5 (slice_get_past c.args.sight.now
    c.turn-item.result.place c.in_default.ensures.lookup.3))

pub serve-requires-clause-stands : goal.serve-requires-clause-stands
serve-requires-clause-stands c =
    let at : slice_get c.args.turns.now c.loop-turn.turn-index ≡ Some c.turn-item.result =
    slice_get_read c.args.turns.now (length c.args.turns.now) c.loop-turn.turn-index c.turn-item.result refl
    (omega arith) c.turn-item.is in
    let r = c.requires.stands in (
      r.0,
      r.1,
      r.2,
      so_far c.args.classes.now c.args.sight.now c.args.turns.now r.0 r.2 r.3 c.loop-turn.turn-index,
      r.4,
      served c.args.classes.now c.args.changes.now c.args.sight.now c.args.turns.now c.loop-turn.turn-index
          c.args.self.now c.args.link.now c.args.table.now c.loop-turn.self c.loop-turn.link c.loop-turn.table
          c.loop-turn.invariant c.turn-item.result at r.0 r.1 r.2 r.3 r.4 r.5 c.in-Some.seen.now
          (slice_get_read c.args.sight.now (length c.args.sight.now)
          c.turn-item.result.place c.in-Some.seen.now refl c.in-Some.ensures.lookup.3.0 c.in-Some.ensures.lookup.1),
    )

pub returns-then-not-branch-clause-stands : goal.returns-then-not-branch-clause-stands
returns-then-not-branch-clause-stands c = λ end before past p samples h.
    let at : slice_get c.args.turns.now c.loop-turn.turn-index ≡ Some c.turn-item.result =
    slice_get_read c.args.turns.now (length c.args.turns.now) c.loop-turn.turn-index c.turn-item.result refl
    (omega arith) c.turn-item.is in
    let is_served = served c.args.classes.now c.args.changes.now c.args.sight.now c.args.turns.now
    c.loop-turn.turn-index c.args.self.now c.args.link.now c.args.table.now c.loop-turn.self c.loop-turn.link
    c.loop-turn.table c.loop-turn.invariant c.turn-item.result at end before past p samples h c.in-Some.seen.now
    (slice_get_read c.args.sight.now (length c.args.sight.now)
    c.turn-item.result.place c.in-Some.seen.now refl c.in-Some.ensures.lookup.3.0 c.in-Some.ensures.lookup.1) in
    let q : Packing = so_far c.args.classes.now c.args.sight.now c.args.turns.now end past p c.loop-turn.turn-index in
    stops c.args.classes.now c.args.changes.now c.args.sight.now c.args.turns.now c.loop-turn.turn-index
    c.args.self.now c.args.link.now c.args.table.now c.loop-turn.self c.loop-turn.link c.loop-turn.table
    c.loop-turn.invariant c.turn-item.result at end before past p samples h c.in-Some.seen.now
    (slice_get_read c.args.sight.now (length c.args.sight.now)
    c.turn-item.result.place c.in-Some.seen.now refl c.in-Some.ensures.lookup.3.0 c.in-Some.ensures.lookup.1)
    c.serve.new.self c.serve.new.link c.serve.new.table c.in_ok-serve.field-0
    (c.in_ok-serve.ensures.room end before past q samples is_served)
    (c.in_ok-serve.ensures.stands end before past q samples is_served) c.in_ok-serve.ensures.others
    c.if-not-branch.true

pub loop-turn-preserved : goal.loop-turn-preserved
loop-turn-preserved c =
    let at : slice_get c.args.turns.now c.loop-turn.turn-index ≡ Some c.turn-item.result =
    slice_get_read c.args.turns.now (length c.args.turns.now) c.loop-turn.turn-index c.turn-item.result refl
    (omega arith) c.turn-item.is in
    record {
      stands = λ end before past p samples h.
          let is_served = served c.args.classes.now c.args.changes.now c.args.sight.now c.args.turns.now
          c.loop-turn.turn-index c.args.self.now c.args.link.now c.args.table.now c.loop-turn.self c.loop-turn.link
          c.loop-turn.table c.loop-turn.invariant c.turn-item.result at end before past p samples h
          c.in-Some.seen.now (slice_get_read c.args.sight.now (length c.args.sight.now)
          c.turn-item.result.place c.in-Some.seen.now refl c.in-Some.ensures.lookup.3.0 c.in-Some.ensures.lookup.1) in
          let q : Packing = so_far c.args.classes.now c.args.sight.now c.args.turns.now end past p
          c.loop-turn.turn-index in
          goes_on c.args.classes.now c.args.changes.now c.args.sight.now c.args.turns.now c.loop-turn.turn-index
          c.args.self.now c.args.link.now c.args.table.now c.loop-turn.self c.loop-turn.link c.loop-turn.table
          c.loop-turn.invariant c.turn-item.result at end before past p samples h c.in-Some.seen.now
          (slice_get_read c.args.sight.now (length c.args.sight.now)
          c.turn-item.result.place c.in-Some.seen.now refl c.in-Some.ensures.lookup.3.0 c.in-Some.ensures.lookup.1)
          c.serve.new.self c.serve.new.link c.serve.new.table c.in_ok-serve.field-0
          (c.in_ok-serve.ensures.room end before past q samples is_served)
          (c.in_ok-serve.ensures.stands end before past q samples is_served) c.in_ok-serve.ensures.others
          c.if-not-branch.false;
      made = omega (arith, c.loop-turn.invariant.made, c.in_ok-serve.ensures.count);
    }

pub returns-clause-stands : goal.returns-clause-stands
returns-clause-stands c = λ end before past p samples h.
    subst (λ (ts : List Turn). InTick c.loop-turn.self c.loop-turn.link c.loop-turn.table end before
    (after_turns end past p (map (turn_entry c.args.classes.now c.args.sight.now) ts)) samples)
    (take_whole c.args.turns.now c.loop-turn.turn-index (omega arith))
    (c.loop-turn.invariant.stands end before past p samples h).stands
