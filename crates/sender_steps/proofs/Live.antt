-- The closes of the live actors, one by one.
use Rattle.std.proofs.Common.{◌≡◌, ◌∙◌, ◌⊎◌, inl, inr, ℕ, zero, suc, ◌+◌, ◌<◌, ◌≤◌, ◌==◌, List, [], ◌∷◌, take, length, Bool, true, false, cond, ◌||◌, nat_lt, ap, sym, refl, subst, arith, Option, Some, None, option_map}
use Rattle.std.specs.List.{fold, slice_get}
use Rattle.std.specs.Option.{option_copied}
use Rattle.std.proofs.lemmas.Bool.{cases_eq, eq-eqb}
use Rattle.protocol_model.specs.Payload.{Message, Closes, Gone}
use Rattle.protocol_model.specs.Search.{is_among}
use Rattle.protocol_model.specs.Sight.{Seen}
use Rattle.connection_model.specs.Feed.{Past, tick_count, sight_of, seen_in}
use Rattle.connection_model.specs.Bunches.{after_making, room}
use Rattle.connection_model.specs.Pack.{after_close, after_closes, made_if_room}
use Rattle.connection_model.specs.State.{state_of, index_of, is_closed, is_open}
use Rattle.connection_laws.specs.Run.{Ascends}
use Rattle.class_layout.specs.Tables.{Layout}
use Rattle.channel_table.specs.Channels.{Channels}
use Rattle.shadow_changes.specs.Samples.{Samples}
use Rattle.sender_laws.proofs.Makes.{sight_under}
use Rattle.sender_records.specs.declared.actor.ActorRecord.{ActorRecord}
use Rattle.sender_records.specs.Life.{state_value}
use Rattle.sender_steps.specs.declared.closing.Close.{Close}
use Rattle.sender_steps.specs.declared.closing.Close.TheVariants as close
use Rattle.sender_steps.specs.declared.sight.Seen.{Seen as SeenValue}
use Rattle.sender_steps.specs.Closing.{close_called, after_called, IsTicked}
use Rattle.sender_steps.specs.Sender.{Sender, record_in}
use Rattle.sender_steps.specs.Sights.{sight_value}
use Rattle.sender_steps.specs.Stands.{KeepsBoth}
use Rattle.sender_steps.proofs.Folds.{called_is, closes_live}
use Rattle.sender_steps.proofs.Showing.{above_low}

-- ---- the sight stays

room_sight : (past : Past) (o : Option ℕ) (m : Message) → sight_of (made_if_room past o m) ≡ sight_of past
room_sight past None m = refl
room_sight past (Some ch) m = by (nat_lt 0 (room past ch))
  where
    by : (b : Bool) → sight_of (cond b (after_making past ch m) past) ≡ sight_of past
    by true = sight_under [] past ch m
    by false = refl

called_sight : (past : Past) (a : ℕ) (c : Option Close) → sight_of (after_called past a c) ≡ sight_of past
called_sight past a None = refl
called_sight past a (Some close.Plain) = room_sight past (index_of past a) (Closes a false)
called_sight past a (Some close.Dormant) = room_sight past (index_of past a) (Closes a true)
called_sight past a (Some close.Gone) = room_sight past (Some 0) (Gone a)

closes_sight : (xs : List ℕ) (past : Past) → sight_of (fold after_close past xs) ≡ sight_of past
closes_sight [] past = refl
closes_sight (a ∷ xs) past =
    closes_sight xs (after_close past a)
    ∙ ap (λ (p : Past). sight_of p) (called_is past a) ∙ called_sight past a
    (close_called past a (seen_in (sight_of past) a))

-- ---- places of ascending actors

pub place_among : (ns : List ℕ) (i a : ℕ) → slice_get ns i ≡ Some a → is_among a ns ≡ true
place_among [] i a at = absurd (let no : (let o : Option ℕ = None in o) ≡ Some a = at in cc)
place_among (n ∷ ns) zero a at =
    let same : n ≡ a = cc in
    ap (λ (m : ℕ). (n == m) || is_among m ns) (sym same) ∙ ap (λ (b : Bool). b || is_among n ns) (eq-eqb n n refl)
place_among (n ∷ ns) (suc i) a at = any (n == a) (place_among ns i a at)
  where
    any : (b : Bool) → is_among a ns ≡ true → (b || is_among a ns) ≡ true
    any true e = refl
    any false e = e

place_above : (ns : List ℕ) (low i j a b : ℕ) → Ascends low ns → slice_get ns i ≡ Some a → slice_get ns j ≡ Some b
    → i < j → a < b
place_above [] low i j a b h p q lt = absurd (let no : (let o : Option ℕ = None in o) ≡ Some a = p in cc)
place_above (n ∷ ns) low zero zero a b h p q lt = absurd (omega (arith, lt))
place_above (n ∷ ns) low zero (suc j) a b h p q lt =
    let same : n ≡ a = cc in
    subst (λ (m : ℕ). m < b) same (above_low ns n b h.1 (place_among ns j b q))
place_above (n ∷ ns) low (suc i) zero a b h p q lt = absurd (omega (arith, lt))
place_above (n ∷ ns) low (suc i) (suc j) a b h p q lt = place_above ns n i j a b h.1 p q (omega (arith, lt))

-- ---- actor by actor

-- the first so many were closed; entries before the place `at` are of actors below those to come
pub record ClosedSoFar (start : List (ℕ × ActorRecord)) (first : List ℕ) (t0 : Channels) (live : List ℕ)
    (layout : Layout) (sight : List SeenValue) (tick count at : ℕ)
    (records : List (ℕ × ActorRecord)) (pending : List ℕ) (t : Channels) : Type 0 where
  pub stands : (s : Sender) (past : Past) (samples : Samples)
      → IsTicked s t0 past samples start first live layout sight tick
      → KeepsBoth (record s { records = records; pending = pending }) t
      (fold after_close past (take count live)) samples
  pub made : t.made.count ≤ t0.made.count + count
  pub handles : (a : ℕ) → (record_in records a).handles ≡ (record_in start a).handles
  pub was_open : (a : ℕ) → is_open (state_value (record_in records a).life.state) ≡ true
      → is_open (state_value (record_in start a).life.state) ≡ true
  pub waiting : t.waiting ≡ t0.waiting
  pub before : (i : ℕ) (e : SeenValue) → slice_get sight i ≡ Some e → i < at → (j a : ℕ) → count ≤ j
      → slice_get live j ≡ Some a → e.actor < a

module _ (start : List (ℕ × ActorRecord)) (first : List ℕ) (t0 : Channels) (live : List ℕ) (layout : Layout)
    (sight : List SeenValue) (tick count at : ℕ)
    (records : List (ℕ × ActorRecord)) (pending : List ℕ) (t : Channels)
    (h : ClosedSoFar start first t0 live layout sight tick count at records pending t) where
  -- the tick and the sight are those of the past so far
  pub tick_now : (s : Sender) (past : Past) (samples : Samples)
      → IsTicked s t0 past samples start first live layout sight tick
      → tick ≡ tick_count (fold after_close past (take count live))
  tick_now s past samples b = b.tick_is ∙ sym b.both.sender.ticks ∙ (h.stands s past samples b).sender.ticks

  pub sight_now : (s : Sender) (past : Past) (samples : Samples)
      → IsTicked s t0 past samples start first live layout sight tick
      → sight_of (fold after_close past (take count live)) ≡ sight_value layout sight
  sight_now s past samples b = closes_sight (take count live) past ∙ b.sight_is

  pub closes_more : (a place : ℕ) (records' : List (ℕ × ActorRecord)) (pending' : List ℕ) (t' : Channels)
      → slice_get live count ≡ Some a → Ascends 0 live
      → ((p : Past) → fold after_close p (take (count + 1) live) ≡ after_close (fold after_close p (take count live)) a)
      → ((i : ℕ) (e : SeenValue) → slice_get sight i ≡ Some e → i < place → e.actor < a)
      → t'.made.count ≤ t.made.count + 1
      → ((b : ℕ) → (record_in records' b).handles ≡ (record_in records b).handles)
      → ((b : ℕ) → is_open (state_value (record_in records' b).life.state) ≡ true
      → is_open (state_value (record_in records b).life.state) ≡ true)
      → t'.waiting ≡ t.waiting
      → ((s : Sender) (past : Past) (samples : Samples) → IsTicked s t0 past samples start first live layout sight tick
      → KeepsBoth (record s { records = records'; pending = pending' }) t'
      (after_close (fold after_close past (take count live)) a) samples)
      → ClosedSoFar start first t0 live layout sight tick (count + 1) place records' pending' t'
  closes_more a place records' pending' t' is ascends folded before made handles was_open waiting stands = record {
    stands = λ s past samples b. subst (λ (p : Past). KeepsBoth
        (record s { records = records'; pending = pending' }) t' p samples) (sym (folded past))
        (stands s past samples b);
    made = omega (arith, made, h.made);
    handles = λ b. handles b ∙ h.handles b;
    was_open = λ b o. h.was_open b (was_open b o);
    waiting = waiting ∙ h.waiting;
    before = λ i e there lt j b le q. omega (
      arith,
      before i e there lt,
      place_above live 0 count j a b ascends is q
          (omega (arith, le)),
    );
  }

-- all were
pub closed_all : (s : Sender) (past : Past) (samples : Samples) (live : List ℕ) (t : Channels)
    → KeepsBoth s t past samples → s.live ≡ live
    → fold after_close past live ≡ after_closes past
closed_all s past samples live t both e =
    ap (fold after_close past) (sym e)
    ∙ closes_live past s.live both.sender.ascends
    (λ a closed. both.sender.live a (ap is_closed (both.sender.each a).life.state ∙ closed)) both.sender.opened
