use Rattle.std.proofs.Common.{◌≡◌, ◌∙◌, ◌+◌, ◌<◌, ◌≤◌, ℕ, List, take, length, ap, sym, refl, subst, arith, true, Some}
use Rattle.std.specs.List.{fold, slice_get}
use Rattle.std.proofs.lemmas.List.Sums.{fold_more}
use Rattle.std.proofs.lemmas.Option.{slice_get_read}
use Rattle.protocol_model.specs.Search.{is_among}
use Rattle.protocol_model.specs.Sight.{Seen as SeenSpec}
use Rattle.connection_model.specs.Feed.{Past, seen_in}
use Rattle.connection_model.specs.Pack.{after_close}
use Rattle.connection_laws.specs.Run.{Ascends}
use Rattle.sender_records.specs.declared.actor.ActorRecord.{ActorRecord}
use Rattle.sender_steps.specs.declared.sight.Seen.{Seen}
use Rattle.sender_steps.specs.Stands.{KeepsBoth}
use Rattle.sender_steps.proofs.Live.{ClosedSoFar, tick_now, sight_now, closes_more, closed_all, place_among}
use Rattle.sender_steps.proofs.Pairs.{take_whole}
use Rattle.sender_steps.proofs.closes.close_all.Goals as goal

pub loop-actor-init : goal.loop-actor-init
loop-actor-init c = record {
  stands = λ s past samples b. subst (λ (rs : List (ℕ × ActorRecord)). KeepsBoth
      (record s { records = rs; pending = c.args.pending.now.items }) c.args.table.now past samples) b.records_are
      (subst (λ (ps : List ℕ). KeepsBoth (record s { pending = ps }) c.args.table.now past samples) b.pending_are
      b.both);
  made = omega arith;
  handles = λ a. refl;
  was_open = λ a o. o;
  waiting = refl;
  before = λ i e at lt j a le q. absurd (omega (arith, lt));
}

pub close_one-requires-clause-stands : goal.close_one-requires-clause-stands
close_one-requires-clause-stands c =
    let begun = c.requires.stands.3 in (
      record c.requires.stands.0 { records = c.loop-actor.records.entries; pending = c.loop-actor.pending.items },
      fold after_close c.requires.stands.1 (take c.loop-actor.actor-index c.args.live.now),
      c.requires.stands.2,
      c.loop-actor.invariant.stands c.requires.stands.0 c.requires.stands.1 c.requires.stands.2 begun,
      refl,
    )

pub close_one-requires-clause-few : goal.close_one-requires-clause-few
close_one-requires-clause-few c = omega (arith, c.loop-actor.invariant.made, c.requires.few)

pub loop-actor-preserved : goal.loop-actor-preserved
loop-actor-preserved c =
    let a : ℕ = c.actor-item.result in
    let i : ℕ = c.loop-actor.actor-index in
    let is : slice_get c.args.live.now i ≡ Some a = slice_get_read c.args.live.now (length c.args.live.now) i a refl
    (omega arith) c.actor-item.is in
    let ascends : Ascends 0 c.args.live.now = subst (Ascends 0) c.requires.stands.3.live_are
    c.requires.stands.3.both.sender.ascends in
    let before : (k : ℕ) (e : Seen) → slice_get c.args.sight.now k ≡ Some e → k < c.seek-at.result → e.actor < a =
    c.seek-at.ensures.before (λ k e at lt. c.loop-actor.invariant.before k e at lt i a (omega arith) is) in
    closes_more c.args.records.now.entries c.args.pending.now.items c.args.table.now c.args.live.now c.args.classes.now
    c.args.sight.now c.args.tick i c.loop-actor.at
    c.loop-actor.records.entries c.loop-actor.pending.items c.loop-actor.table c.loop-actor.invariant
    a c.seek-at.result c.close_one.new.records.entries c.close_one.new.pending.items c.close_one.new.table is ascends
    (λ p. fold_more after_close p c.args.live.now i a (omega arith)
    ∙ ap (after_close (fold after_close p (take i c.args.live.now))) (sym c.actor-item.is))
    before c.in_ok-close_one.ensures.count c.in_ok-close_one.ensures.handles c.in_ok-close_one.ensures.was_open
    c.in_ok-close_one.ensures.waiting
    (λ s past samples b. c.in_ok-close_one.ensures.keeps (record s {
      records = c.loop-actor.records.entries;
      pending =
          c.loop-actor.pending.items;
    })
    (fold after_close past (take i c.args.live.now)) samples (c.loop-actor.invariant.stands s past samples b) refl refl
    (subst (λ (ls : List ℕ). is_among a ls ≡ true) (sym b.live_are) (place_among c.args.live.now i a is))
    (tick_now c.args.records.now.entries c.args.pending.now.items c.args.table.now c.args.live.now c.args.classes.now
    c.args.sight.now c.args.tick i c.loop-actor.at
    c.loop-actor.records.entries c.loop-actor.pending.items c.loop-actor.table c.loop-actor.invariant s past samples b)
    (c.entry_at-seen.ensures before c.seek-at.ensures.there b.ascends c.args.classes.now
    ∙ ap (λ (sg : List SeenSpec). seen_in sg a) (sym (sight_now c.args.records.now.entries c.args.pending.now.items
    c.args.table.now c.args.live.now c.args.classes.now c.args.sight.now c.args.tick i c.loop-actor.at
    c.loop-actor.records.entries c.loop-actor.pending.items c.loop-actor.table c.loop-actor.invariant s past samples
    b))))

pub returns-clause-handles : goal.returns-clause-handles
returns-clause-handles c = c.loop-actor.invariant.handles

pub returns-clause-was_open : goal.returns-clause-was_open
returns-clause-was_open c = c.loop-actor.invariant.was_open

pub returns-clause-waiting : goal.returns-clause-waiting
returns-clause-waiting c = c.loop-actor.invariant.waiting

pub returns-clause-count : goal.returns-clause-count
returns-clause-count c = omega (arith, c.loop-actor.invariant.made)

pub returns-clause-keeps : goal.returns-clause-keeps
returns-clause-keeps c = λ s past samples b.
    subst (λ (p : Past). KeepsBoth (record s {
      records = c.loop-actor.records.entries;
      pending =
          c.loop-actor.pending.items;
    }) c.loop-actor.table p samples)
    (ap (fold after_close past) (take_whole c.args.live.now c.loop-actor.actor-index (omega arith))
    ∙ closed_all s past samples c.args.live.now c.args.table.now b.both b.live_are)
    (c.loop-actor.invariant.stands s past samples b)
