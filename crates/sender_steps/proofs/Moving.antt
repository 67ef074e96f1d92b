-- A sender and its channels after a whole move.
use Rattle.std.proofs.Common.{◌≡◌, ◌≢◌, ◌⊎◌, inl, inr, ◌∙◌, ℕ, zero, suc, ◌<◌, ◌≤◌, List, [], ◌∷◌, map, Bool, true, false, cond, nat_lt, ◌==◌, ◌&&◌, ◌||◌, ap, sym, refl, subst, arith, length, Option, Some, is_some}
use Rattle.std.specs.List.{slice_get, list_any, filter}
use Rattle.std.proofs.lemmas.Bool.{and_parts, cases_lt, eqb-true, false≢true}
use Rattle.std.proofs.lemmas.Bool.Decides.{nat_tests}
use Rattle.protocol_model.specs.Side.{AtServer}
use Rattle.protocol_model.specs.Value.{Class}
use Rattle.protocol_model.specs.Search.{is_among}
use Rattle.change_model.specs.Changes.{Sample}
use Rattle.connection_model.specs.Feed.{Past}
use Rattle.connection_model.specs.Fates.{high_of}
use Rattle.connection_model.specs.State.{ActorState, Closed, Opening, Opened, Closing, Asleep, is_open, is_closed, index_of, last_mark, state_of}
use Rattle.channel_laws.specs.Moves.{IsMove}
use Rattle.connection_laws.proofs.ActorMarks.{Grows, index_kept}
use Rattle.channel_table.specs.Channels.{Channels}
use Rattle.channel_table.specs.Keeps.{Keeps as KeepsTable}
use Rattle.channel_table.specs.Stands.{Stands as StandsTable, waiting_call}
use Rattle.channel_table.specs.Holders.{Bound, channel_bound, IsPaired}
use Rattle.shadow_changes.specs.Samples.{Samples, samples_of}
use Rattle.sender_laws.specs.Acts.{MovesTo}
use Rattle.sender_laws.specs.States.{is_pending}
use Rattle.sender_laws.proofs.Views.{class_alike, ticks_alike, mark_alike, count_alike}
use Rattle.sender_laws.proofs.Arriving.{state_stays}
use Rattle.sender_laws.proofs.Fated.{moved_grows, high_moved}
use Rattle.sender_records.specs.declared.actor.ActorRecord.{ActorRecord}
use Rattle.sender_records.specs.declared.life.Life.{Life}
use Rattle.sender_records.specs.Life.{KeepsLife, state_value}
use Rattle.sender_records.specs.Service.{KeepsService}
use Rattle.sender_records.specs.Handles.{HandlesKept, KeepsHandles, handle_in, is_moved}
use Rattle.sender_records.specs.Actors.{KeepsActor}
use Rattle.sender_steps.specs.declared.sent.UpdateSent.{UpdateSent}
use Rattle.sender_steps.specs.Sender.{Sender, record_in, packet_in}
use Rattle.sender_steps.specs.Hearing.{Hearing, IsGrown}
use Rattle.sender_steps.specs.Stands.{Keeps, StandsBoth, is_update_sent}
use Rattle.sender_steps.proofs.KnownMade.{known_sent, makes_done}
use Rattle.sender_steps.proofs.News.{move_is, waiting_same}
use Rattle.sender_steps.proofs.AfterMove.{Told, told_keeps, later_apart}

-- an update of the actor that wasn't told went above the move
beyond : (to n a : ℕ) (updates : List UpdateSent) → ((i : ℕ) (u : UpdateSent) → slice_get updates i ≡ Some u
    → u.packet ≤ to → u.actor ≢ a)
    → list_any (is_update_sent n a) updates ≡ true → to < n
beyond to n a [] h e = absurd (false≢true e)
beyond to n a (u ∷ updates) h e = by (u.packet == n) (u.actor == a) refl refl e
    (beyond to n a updates (λ i v at. h (suc i) v at))
  where
    here : (u.packet == n) ≡ true → (u.actor == a) ≡ true → to < n
    here p q = elim (cases_lt to n) [
      | inl lt ↦ lt
      | inr le ↦ absurd (h zero u refl (omega (arith, le, eqb-true u.packet n p)) (eqb-true u.actor a q))
    ]

    by : (x y : Bool) → (u.packet == n) ≡ x → (u.actor == a) ≡ y
        → ((x && y) || list_any (is_update_sent n a) updates) ≡ true
        → (list_any (is_update_sent n a) updates ≡ true → to < n) → to < n
    by true true p q e more = here p q
    by true false p q e more = more e
    by false y p q e more = more e

-- an update above the move is still under way
still_sent : (to n a : ℕ) (updates : List UpdateSent) → to < n → list_any (is_update_sent n a) updates ≡ true
    → list_any (is_update_sent n a) (filter (λ (u : UpdateSent). nat_lt to u.packet) updates) ≡ true
still_sent to n a [] lt e = e
still_sent to n a (u ∷ updates) lt e = by (nat_lt to u.packet) (is_update_sent n a u) refl refl e
    (still_sent to n a updates lt)
  where
    kept : List UpdateSent
    kept = filter (λ (u : UpdateSent). nat_lt to u.packet) updates

    above : (to n : ℕ) → to < n → nat_lt to n ≡ true
    above to n lt = grind (arith, nat_tests)

    by : (b t : Bool) → nat_lt to u.packet ≡ b → is_update_sent n a u ≡ t
        → (t || list_any (is_update_sent n a) updates) ≡ true
        → (list_any (is_update_sent n a) updates ≡ true → list_any (is_update_sent n a) kept ≡ true)
        → list_any (is_update_sent n a) (cond b (u ∷ kept) kept) ≡ true
    by true true p q e more = ap (λ (t : Bool). t || list_any (is_update_sent n a) kept) q
    by true false p q e more = ap (λ (t : Bool). t || list_any (is_update_sent n a) kept) q ∙ more e
    by false true p q e more =
        absurd (false≢true (sym p ∙ above to u.packet (subst (λ (k : ℕ). to < k)
        (sym (eqb-true u.packet n (and_parts (u.packet == n) (u.actor == a) q).0)) lt)))
    by false false p q e more = more e

never : (b : Bool) → (b ≡ true → false ≡ true) → b ≡ false
never true h = absurd (false≢true (h refl))
never false h = refl

-- what is under way was so before
pending_kept : (past later : Past) → Grows past later → (a : ℕ) → last_mark later a ≡ last_mark past a
    → is_pending (state_of later a) ≡ true → is_pending (state_of past a) ≡ true
pending_kept past later g a mark e = by (is_pending (state_of past a)) refl
  where
    by : (b : Bool) → is_pending (state_of past a) ≡ b → b ≡ true
    by true q = refl
    by false q = absurd (false≢true (sym (ap is_pending (state_stays past later a g mark q) ∙ q) ∙ e))

-- on a closed channel nothing is under way
closed_rests : (x : ActorState) → is_closed x ≡ true → is_pending x ≡ false
closed_rests Closed e = refl
closed_rests Opening e = absurd (false≢true e)
closed_rests Opened e = absurd (false≢true e)
closed_rests Closing e = absurd (false≢true e)
closed_rests Asleep e = absurd (false≢true e)

-- what the two loops of a move tell of records and channels
pub record MovesAll (from to : ℕ) (s : Sender) (told heard : List (ℕ × ActorRecord))
    (t moved after : Channels) : Type 0 where
  pub life : (a : ℕ) → (record_in told a).life ≡ (record_in s.records a).life
  pub service : (a : ℕ) → (record_in told a).service ≡ (record_in s.records a).service
  pub tells : (past later : Past) (samples : List Sample) (a : ℕ) → MovesTo from to past later
      → KeepsHandles past samples a (record_in s.records a).handles
      → KeepsHandles later samples a (record_in told a).handles
      ⊎ ((record_in told a ≡ record_in s.records a) × ((i : ℕ) (u : UpdateSent) → slice_get s.updates i ≡ Some u
      → u.packet ≤ to → u.actor ≢ a))
  pub packets : (a h : ℕ) → packet_in told a h ≡ packet_in s.records a h
  pub services : (a : ℕ) → (record_in heard a).service ≡ (record_in told a).service
  pub handles : (a : ℕ) → (record_in heard a).handles ≡ (record_in told a).handles
  pub same_open : (a : ℕ) → is_open (state_value (record_in heard a).life.state) ≡ is_open
      (state_value (record_in told a).life.state)
  pub waits : after.waiting ≡ moved.waiting
  pub hears : (past later : Past) → IsGrown past later → Hearing past later s.pending told moved
      → Hearing past later [] heard after
  pub keeps : (past later : Past) → KeepsTable t AtServer past → IsMove from to past later
      → KeepsTable moved AtServer later
  pub bound : moved.bound ≡ t.bound
  pub waiting : moved.waiting ≡ t.waiting

module _ (from to : ℕ) (s : Sender) (told heard : List (ℕ × ActorRecord)) (t moved after : Channels)
    (all : MovesAll from to s told heard t moved after)
    (past later : Past) (samples : Samples) (both : StandsBoth s t past samples) (is : IsMove from to past later) where
  m : MovesTo from to past later
  m = move_is from to past later is

  kept : (a : ℕ) → KeepsActor past (samples_of samples a) a (record_in s.records a)
  kept = both.sender.each

  index_held : (a : ℕ) → (record_in told a).life.index ≡ index_of past a
  index_held a = ap (λ (l : Life). l.index) (all.life a) ∙ (kept a).life.index

  begins : Hearing past later s.pending told moved
  begins = record {
    each = λ a. inr (
      subst (KeepsLife past a) (sym (all.life a)) (kept a).life,
      λ p. both.sender.pending a (ap (λ (l : Life). is_pending (state_value l.state)) (sym (all.life a)) ∙ p),
    );
    table = all.keeps past later both.table.bunches is;
    bound = λ a. ap (λ (b : Bound). channel_bound b a) all.bound ∙ both.table.bound a ∙ sym (index_held a);
    paired = subst IsPaired (sym all.bound) both.table.paired;
  }

  ended : Hearing past later [] heard after
  ended = all.hears past later (record { done = m.done; grows = moved_grows from to past later m }) begins

  was_open : (a : ℕ) → is_open (state_value (record_in heard a).life.state) ≡ true
      → is_open (state_value (record_in s.records a).life.state) ≡ true
  was_open a o = ap (λ (l : Life). is_open (state_value l.state)) (sym (all.life a)) ∙ sym (all.same_open a) ∙ o

  packet_same : (a h : ℕ) → packet_in heard a h ≡ packet_in s.records a h
  packet_same a h = ap (λ (k : HandlesKept). (handle_in k.handles h).packet) (all.handles a) ∙ all.packets a h

  untold : (a : ℕ) → is_open (state_value (record_in s.records a).life.state) ≡ true
      → ((i : ℕ) (u : UpdateSent) → slice_get s.updates i ≡ Some u → u.packet ≤ to → u.actor ≢ a)
      → (h : ℕ) → is_moved from to (packet_in heard a h) ≡ false
  untold a o none h = ap (is_moved from to) (packet_same a h) ∙ later_apart from to (packet_in s.records a h)
      (λ lt. beyond to (packet_in s.records a h) a s.updates none
      (both.sender.under_way a h o (subst (λ (n : ℕ). n < packet_in s.records a h) (sym m.high) lt)))

  handles_told : (a : ℕ) → is_open (state_value (record_in s.records a).life.state) ≡ true
      → KeepsHandles later (samples_of samples a) a (record_in told a).handles
      ⊎ ((record_in told a ≡ record_in s.records a) × ((i : ℕ) (u : UpdateSent) → slice_get s.updates i ≡ Some u
      → u.packet ≤ to → u.actor ≢ a))
      → KeepsHandles later (samples_of samples a) a (record_in heard a).handles
      ⊎ (KeepsHandles past (samples_of samples a) a (record_in heard a).handles
      × ((h : ℕ) → is_moved from to (packet_in heard a h) ≡ false))
  handles_told a o (inl k) = inl (subst (KeepsHandles later (samples_of samples a) a) (sym (all.handles a)) k)
  handles_told a o (inr q) = inr (
    subst (KeepsHandles past (samples_of samples a) a) (sym (all.handles a ∙ ap (λ (r : ActorRecord). r.handles) q.0))
        ((kept a).handles o),
    untold a o q.1,
  )

  told_is : (a : ℕ) → Told from to past later (samples_of samples a) a (record_in heard a)
  told_is a = record {
    life = elim (ended.each a) [
      | inl k ↦ inl k
      | inr q ↦ inr (q.0, never (is_pending (state_value (record_in heard a).life.state)) q.1)
    ];
    service = subst (KeepsService past a) (sym (all.services a ∙ all.service a)) (kept a).service;
    handles = λ o. handles_told a (was_open a o) (all.tells past later (samples_of samples a) a m
        ((kept a).handles (was_open a o)));
  }

  each_later : (a : ℕ) → KeepsActor later (samples_of samples a) a (record_in heard a)
  each_later a = told_keeps from to past later (samples_of samples a) a (record_in heard a) m (told_is a)

  -- what is under way on an actor is on it still
  still_pending : (a : ℕ) → is_pending (state_value (record_in heard a).life.state) ≡ true → is_among a s.pending ≡ true
  still_pending a e = both.sender.pending a (ap is_pending (kept a).life.state
      ∙ pending_kept past later (moved_grows from to past later m) a (mark_alike past later m.done a)
      (ap is_pending (sym (each_later a).life.state) ∙ e))

  abbrev pub left : List UpdateSent
  left = filter (λ (u : UpdateSent). nat_lt to u.packet) s.updates

  under_later : (a h : ℕ) → is_open (state_value (record_in heard a).life.state) ≡ true
      → high_of later < packet_in heard a h
      → list_any (is_update_sent (packet_in heard a h) a) left ≡ true
  under_later a h o lt =
      let e : packet_in heard a h ≡ packet_in s.records a h = packet_same a h in
      still_sent to (packet_in heard a h) a s.updates (subst (λ (n : ℕ). n < packet_in heard a h)
      (high_moved from to past later m) lt)
      (ap (λ (n : ℕ). list_any (is_update_sent n a) s.updates) e
      ∙ both.sender.under_way a h (was_open a o) (omega (
        arith,
        subst
            (λ (n : ℕ). high_of later < n) e lt,
        high_moved from to past later m,
        m.high,
        m.above,
      )))

  -- whose channel was closed has a closed one
  still_live : (a : ℕ) → is_closed (state_value (record_in heard a).life.state) ≡ false → is_among a s.live ≡ true
  still_live a e = both.sender.live a (by (is_closed (state_value (record_in s.records a).life.state)) refl)
    where
      by : (b : Bool) → is_closed (state_value (record_in s.records a).life.state) ≡ b → b ≡ false
      by false q = refl
      by true q =
          let closed : is_closed (state_of past a) ≡ true = ap is_closed (sym (kept a).life.state) ∙ q in
          sym (ap is_closed (state_stays past later a (moved_grows from to past later m)
          (mark_alike past later m.done a) (closed_rests (state_of past a) closed)) ∙ closed)
          ∙ ap is_closed (sym (each_later a).life.state) ∙ e

  sender_later : Keeps (record s { records = heard; updates = left }) later samples
  sender_later = record {
    each = each_later;
    under_way = under_later;
    pending = still_pending;
    live = still_live;
    opened = λ a e. ap (λ (o : Option Class). is_some o) (class_alike past later m.done a) ∙ both.sender.opened a e;
    ascends = both.sender.ascends;
    low = λ a ch e. both.sender.low a ch (index_kept past later (moved_grows from to past later m) a ch
        (mark_alike past later m.done a) e);
    below = λ ch le. count_alike past later m.done ch ∙ both.sender.below ch le;
    opens = λ i o at. record {
      made = omega (
        arith,
        (both.sender.opens i o at).made,
        count_alike past later m.done
            o.channel,
      );
      places = (both.sender.opens i o at).places;
    };
    known = known_sent past later s.known s.opens (makes_done past later m.done) (moved_grows from to past later m)
        both.sender.known;
    ticks = both.sender.ticks ∙ sym (ap length (ticks_alike past later m.done));
    kept = both.sender.kept;
  }

  table_later : StandsTable after AtServer later
  table_later = record {
    bunches = ended.table;
    bound = λ a. ended.bound a ∙ (each_later a).life.index;
    paired = ended.paired;
    waiting = all.waits ∙ all.waiting ∙ both.table.waiting ∙ ap (map waiting_call)
        (sym (waiting_same past later is.rest));
  }

  pub both_later : StandsBoth (record s { records = heard; updates = left }) after later samples
  both_later = record { sender = sender_later; table = table_later }
