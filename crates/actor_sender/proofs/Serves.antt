-- The turn of one actor: its open, or its update.
use Rattle.std.proofs.Common.{◌≡◌, ◌≢◌, ◌⊎◌, ◌∙◌, inl, inr, ℕ, ◌+◌, ◌<◌, ◌≤◌, ◌==◌, List, [], ◌∷◌, ◌++◌, length, Bool, true, false, not, cond, ◌&&◌, ◌||◌, nat_lt, ap, sym, refl, subst, arith, Option, Some, None}
use Rattle.std.specs.List.{list_any, slice_get, AllByRecursion}
use Rattle.std.proofs.lemmas.Bool.{cases_eq, cond_both, false≢true, ne_eqb}
use Rattle.std.proofs.lemmas.List.Folds.{list_any-append}
use Rattle.protocol_model.specs.Limits.{channels_one}
use Rattle.protocol_model.specs.Payload.{Message, Updates}
use Rattle.protocol_model.specs.Packet.{Bunch, channel_limit}
use Rattle.protocol_model.specs.Search.{is_among, greatest_of}
use Rattle.protocol_model.specs.Side.{AtServer}
use Rattle.protocol_model.specs.Sight.{Seen}
use Rattle.protocol_model.specs.Value.{Pair}
use Rattle.connection_model.specs.Carry.{due_pairs}
use Rattle.connection_model.specs.Feed.{End, Past, Sent, Item, Loose, tick_count}
use Rattle.connection_model.specs.Fates.{last_sent, high_of}
use Rattle.connection_model.specs.Bunches.{made_count}
use Rattle.connection_model.specs.Exports.{is_known}
use Rattle.connection_model.specs.Items.{is_update_of, loose_item, loose_bunch, update_message, update_pairs, wants_open, open_message}
use Rattle.connection_model.specs.Pack.{Packing, has_room, fits_current, items_with, after_offer, after_open, after_update}
use Rattle.connection_model.specs.State.{ActorState, Mark, state_of, state_at, is_open, is_opened, is_closed, holds_index, index_at, index_of, free_index, was_opened, last_mark, Closed, Opening, Opened, Closing, Asleep}
use Rattle.connection_laws.proofs.ActorMarks.{index_same, same_grows}
use Rattle.packing_laws.specs.Sendings.{sent_all}
use Rattle.packing_laws.proofs.Packings.{sent_all-cons, last_sent_all, high_all, ticks_all, offer_past}
use Rattle.class_layout.specs.Tables.{Layout}
use Rattle.link_end.specs.Link.{Link}
use Rattle.link_end.specs.Packs.{sent_now}
use Rattle.channel_table.specs.Channels.{Channels}
use Rattle.bunch_packing.specs.Both.{PacksBoth}
use Rattle.shadow_changes.specs.Samples.{Shadows, Samples, samples_of}
use Rattle.sender_laws.specs.Items.{CarriesAwaited}
use Rattle.sender_laws.specs.States.{is_pending}
use Rattle.sender_laws.proofs.Sends.{arrivals_begun, arrivals_sent}
use Rattle.sender_records.specs.declared.actor.ActorRecord.{ActorRecord}
use Rattle.sender_records.specs.Actors.{KeepsActor}
use Rattle.sender_records.specs.Handles.{handle_in}
use Rattle.sender_records.specs.Life.{state_value}
use Rattle.sender_records.proofs.Frames.{actor_begun, actor_sent}
use Rattle.turn_laws.specs.Turns.{after_turn}
use Rattle.turn_laws.proofs.Untouched.{update_past}
use Rattle.sender_steps.specs.declared.sight.Seen.{Seen as SeenValue}
use Rattle.sender_steps.specs.declared.sent.OpenSent.{OpenSent}
use Rattle.sender_steps.specs.declared.sent.UpdateSent.{UpdateSent}
use Rattle.sender_steps.specs.Sender.{Sender, record_in, record_at, state_kept, packet_in}
use Rattle.sender_steps.specs.Sights.{seen_value}
use Rattle.sender_steps.specs.Stands.{Keeps, KnowsMade, AreOpensMade, AreLow, is_update_sent}
use Rattle.sender_steps.proofs.KnownMade.{known_sent}
use Rattle.sender_turns.specs.Ticking.{InTick, IsOpening, after_opening}
use Rattle.sender_turns.specs.Updating.{AreNoted, IsUpdating, note_of}
use Rattle.actor_sender.specs.Serving.{IsServed}
use Rattle.actor_sender.proofs.Begins.{index_now, state_now, least_limit}

-- ---- an unreliable message goes into a packet

-- what goes on with a packet that begins, and with the item in it, goes on with an offer of the item
module _ (P : Past → Type 0) (item : Item) (begun : (n t : ℕ) (past : Past) → P past → P (Sent n t [] ∷ past))
    (more : (n t : ℕ) (items : List Item) (past : Past) → high_of past < n → P (Sent n t items ∷ past)
    → P (Sent n t (items ++ item ∷ []) ∷ past)) where
  into : (past : Past) → high_of past ≤ last_sent past → (packets : List (List Item)) (items : List Item)
      → P (Sent (last_sent (sent_all past packets) + 1) (tick_count (sent_all past packets)) items
      ∷ sent_all past packets)
      → P (sent_all past ((items ++ item ∷ []) ∷ packets))
  into past high packets items h =
      subst P (sym (sent_all-cons past (items ++ item ∷ []) packets))
      (more (last_sent (sent_all past packets) + 1) (tick_count (sent_all past packets)) items (sent_all past packets)
      (omega (arith, high, high_all past packets, last_sent_all past packets)) h)

  with_item : (past : Past) → high_of past ≤ last_sent past → (packets : List (List Item)) (b : Bool)
      → P (sent_all past packets) → P (sent_all past (items_with packets b item))
  with_item past high [] true h = into past high [] []
      (begun (last_sent (sent_all past []) + 1) (tick_count (sent_all past [])) (sent_all past []) h)
  with_item past high [] false h = into past high [] []
      (begun (last_sent (sent_all past []) + 1) (tick_count (sent_all past [])) (sent_all past []) h)
  with_item past high (items ∷ packets) true h =
      into past high packets items (subst P (sent_all-cons past items packets) h)
  with_item past high (items ∷ packets) false h =
      into past high (items ∷ packets) []
      (begun (last_sent (sent_all past (items ∷ packets)) + 1) (tick_count (sent_all past (items ∷ packets)))
      (sent_all past (items ∷ packets)) h)

  pub offer_keeps : (end : End) (p : Packing) → high_of p.past ≤ last_sent p.past → P (sent_now p)
      → P (sent_now (after_offer end p item))
  offer_keeps end p high h =
      cond_both p.full p (cond (has_room end p item) went (record p { full = true })) (λ (q : Packing). P (sent_now q))
      (λ e. h)
      (λ e. cond_both (has_room end p item) went (record p { full = true }) (λ (q : Packing). P (sent_now q))
      (λ r. with_item p.past high p.packets (fits_current end p.past p.packets item) h) (λ r. h))
    where
      went : Packing
      went = record p { packets = items_with p.packets (fits_current end p.past p.packets item) item }

-- what is kept beside the records and the updates under way
record KeepsRest (s : Sender) (past : Past) : Type 0 where
  pub opened : (a : ℕ) → is_among a s.live ≡ true → was_opened past a ≡ true
  pub known : KnowsMade past s.known s.opens
  pub opens : AreOpensMade past s.known s.opens
  pub low : AreLow past
  pub below : (ch : ℕ) → channels_one ≤ ch → made_count past ch ≡ 0
  pub ticks : s.ticks ≡ tick_count past

rest_begun : (s : Sender) (n t : ℕ) (past : Past) → KeepsRest s past → KeepsRest s (Sent n t [] ∷ past)
rest_begun s n t past k = record {
  opened = k.opened;
  known = known_sent past (Sent n t [] ∷ past) s.known s.opens refl
      (same_grows past (Sent n t [] ∷ past) (arrivals_begun n t past)) k.known;
  opens = λ i o at. record { made = (k.opens i o at).made; places = (k.opens i o at).places };
  low = λ a ch e. k.low a ch (sym (index_same past (Sent n t [] ∷ past) (arrivals_begun n t past) a refl) ∙ e);
  below = k.below;
  ticks = k.ticks;
}

rest_loose : (s : Sender) (m : Message) (b : Bunch) (n t : ℕ) (items : List Item) (past : Past) → high_of past < n
    → KeepsRest s (Sent n t items ∷ past) → KeepsRest s (Sent n t (items ++ Loose m b ∷ []) ∷ past)
rest_loose s m b n t items past new k = record {
  opened = k.opened;
  known = known_sent (Sent n t items ∷ past) (Sent n t (items ++ Loose m b ∷ []) ∷ past) s.known s.opens refl
      (same_grows (Sent n t items ∷ past) (Sent n t (items ++ Loose m b ∷ []) ∷ past)
      (arrivals_sent n t items (Loose m b) past new tt)) k.known;
  opens = λ i o at. record { made = (k.opens i o at).made; places = (k.opens i o at).places };
  low = λ a ch e. k.low a ch (sym (index_same (Sent n t items ∷ past) (Sent n t (items ++ Loose m b ∷ []) ∷ past)
      (arrivals_sent n t items (Loose m b) past new tt) a refl) ∙ e);
  below = k.below;
  ticks = k.ticks;
}

-- ---- which turn it is

-- an actor that is opened holds an index
opened_index : (past : Past) (a : ℕ) → is_opened (state_of past a) ≡ true → (ch : ℕ) × (index_of past a ≡ Some ch)
opened_index past a e = by (last_mark past a) refl
  where
    holds : (x : ActorState) → is_opened x ≡ true → holds_index x ≡ true
    holds Opened e = refl
    holds Closed e = absurd (false≢true e)
    holds Opening e = absurd (false≢true e)
    holds Closing e = absurd (false≢true e)
    holds Asleep e = absurd (false≢true e)

    by : (o : Option Mark) → last_mark past a ≡ o → (ch : ℕ) × (index_of past a ≡ Some ch)
    by None q = absurd (false≢true (sym (ap (λ (o : Option Mark). is_opened (state_at past o)) q) ∙ e))
    by (Some mark) q = (
      mark.channel,
      ap (λ (b : Bool). index_at b (last_mark past a)) (holds (state_of past a) e) ∙ ap (index_at true) q,
    )

pair_of : (w o n : Bool) → w ≡ false → (w || (o && n)) ≡ true → (o ≡ true) × (n ≡ true)
pair_of false true true e h = (refl, refl)
pair_of false true false e h = absurd (false≢true h)
pair_of false false n e h = absurd (false≢true h)
pair_of true o n e h = absurd (false≢true (sym e))

module _ (layout : Layout) (changes : Shadows) (e : SeenValue) (opens : Bool) (s : Sender) (l : Link) (t : Channels)
    (end : End) (before now : Past) (p : Packing) (samples : Samples)
    (h : IsServed layout changes e opens s l t end before now p samples) where
  abbrev seen : Seen
  seen = seen_value layout e

  ticks_now : s.ticks ≡ tick_count p.past
  ticks_now = h.stands.sender.ticks ∙ ticks_all p.past p.packets

  -- its open
  pub opening : opens ≡ true → IsOpening layout changes e s l t end before p samples s.ticks
  opening is = record {
    stands = h.stands;
    is_ready = h.is_ready;
    ticks = ticks_now;
    wants = h.turn.wants ∙ sym h.turn.opens_is ∙ is;
    unserved = h.turn.unserved;
    shown = h.turn.shown;
    entry = h.turn.entry;
    noted = h.noted;
  }

  pub turn_opens : opens ≡ true → after_turn end now p seen ≡ after_opening layout end p e
  turn_opens is =
      ap (λ (b : Bool). cond b p (cond (wants_open now seen)
      (after_open end p (free_index p.past) (open_message p.past seen))
      (after_update end p seen (index_of now e.actor) (due_pairs now seen)))) h.is_ready
      ∙ ap (λ (b : Bool). cond b (after_open end p (free_index p.past) (open_message p.past seen))
      (after_update end p seen (index_of now e.actor) (due_pairs now seen))) (sym h.turn.opens_is ∙ is)

  -- its update
  module _ (is : opens ≡ false) where
    due_there : (is_opened (state_of now e.actor) ≡ true) × (nat_lt 0 (length (due_pairs now seen)) ≡ true)
    due_there = pair_of (wants_open now seen) (is_opened (state_of now e.actor))
        (nat_lt 0 (length (due_pairs now seen)))
        (sym h.turn.opens_is ∙ is) h.turn.has

    pub held : (ch : ℕ) × (index_of now e.actor ≡ Some ch)
    held = opened_index now e.actor due_there.0

    abbrev pub channel : ℕ
    channel = held.0

    index_then : index_of now e.actor ≡ Some channel
    index_then = held.1

    pub updating : IsUpdating layout e (record_at s e.actor) l t end before now p channel (samples_of samples e.actor)
        s.ticks
    updating = record {
      both = h.stands.both;
      is_ready = h.is_ready;
      keeps = h.stands.sender.each e.actor;
      ticks = ticks_now;
      index = h.turn.index ∙ index_then;
      low = (
          let q = (h.stands.sender.low e.actor channel
          (index_now l t end before p h.stands.both e.actor ∙ h.turn.index ∙ index_then)).1 in
          omega (arith, q, least_limit end.version));
      compared = h.turn.compared due_there.0;
      some = due_there.1;
      unserved = h.turn.unserved;
      shown = h.turn.shown;
      class = h.turn.entry.class;
      sampled = h.turn.entry.sampled;
      fit = h.turn.entry.fit;
    }

    pub turn_updates : after_turn end now p seen ≡ after_update end p seen (Some channel) (due_pairs now seen)
    turn_updates =
        ap (λ (b : Bool). cond b p (cond (wants_open now seen)
        (after_open end p (free_index p.past) (open_message p.past seen))
        (after_update end p seen (index_of now e.actor) (due_pairs now seen)))) h.is_ready
        ∙ ap (λ (b : Bool). cond b (after_open end p (free_index p.past) (open_message p.past seen))
        (after_update end p seen (index_of now e.actor) (due_pairs now seen))) (sym h.turn.opens_is ∙ is)
        ∙ ap (λ (o : Option ℕ). after_update end p seen o (due_pairs now seen)) index_then

    abbrev with : Packing
    with = after_update end p seen (Some channel) (due_pairs now seen)

    -- what goes on with any unreliable message of the actor goes on with the update
    update_keeps : (P : Past → Type 0) → ((n t : ℕ) (past : Past) → P past → P (Sent n t [] ∷ past))
        → ((pairs : List Pair) (b : Bunch) (n t : ℕ) (items : List Item) (past : Past) → high_of past < n
        → P (Sent n t items ∷ past) → P (Sent n t (items ++ Loose (Updates e.actor seen.class pairs) b ∷ []) ∷ past))
        → P (sent_now p) → P (sent_now with)
    update_keeps P begun more k = by (due_pairs now seen)
      where
        by : (due : List Pair) → P (sent_now (after_update end p seen (Some channel) due))
        by [] = k
        by (pair ∷ due) =
            offer_keeps P (loose_item (update_message seen (update_pairs seen (pair ∷ due))) channel) begun
            (more (update_pairs seen (pair ∷ due))
            (loose_bunch channel (update_message seen (update_pairs seen (pair ∷ due)))))
            end p h.stands.both.link.high k

    -- the sender and the channels after it
    module _ (later : Link) (records : List (ℕ × ActorRecord)) (updates : List UpdateSent)
        (packs : PacksBoth later t end AtServer before with)
        (keeps : KeepsActor (sent_now with) (samples_of samples e.actor) e.actor (record_in records e.actor))
        (notes : updates ≡ s.updates ++ note_of e.actor with)
        (noted : AreNoted e.actor (note_of e.actor with) (record_at s e.actor).handles
        (record_in records e.actor).handles)
        (others : (a : ℕ) → e.actor ≢ a → record_in records a ≡ record_in s.records a) where
      other_keeps : (a : ℕ) → e.actor ≢ a
          → KeepsActor (sent_now with) (samples_of samples a) a (record_in s.records a)
      other_keeps a ne =
          update_keeps (λ (past : Past). KeepsActor past (samples_of samples a) a (record_in s.records a))
          (λ n t past k. actor_begun n t past (samples_of samples a) a (record_in s.records a) k)
          (λ pairs b n t items past new k. actor_sent n t items (Loose (Updates e.actor seen.class pairs) b) past
          (samples_of samples a) a (record_in s.records a) new tt (ne_eqb e.actor a ne) k)
          (h.stands.sender.each a)

      rest : KeepsRest s (sent_now with)
      rest =
          update_keeps (KeepsRest s) (λ n t past k. rest_begun s n t past k)
          (λ pairs b n t items past new k. rest_loose s (Updates e.actor seen.class pairs) b n t items past new k)
          (record {
            opened = h.stands.sender.opened;
            known = h.stands.sender.known;
            opens = h.stands.sender.opens;
            low = h.stands.sender.low;
            below = h.stands.sender.below;
            ticks = h.stands.sender.ticks;
          })

      past_same : with.past ≡ p.past
      past_same = update_past end p seen (Some channel) (due_pairs now seen)

      high_same : high_of (sent_now with) ≡ high_of (sent_now p)
      high_same = high_all with.past with.packets ∙ ap (λ (x : Past). high_of x) past_same
          ∙ sym (high_all p.past p.packets)

      each : (a : ℕ) → KeepsActor (sent_now with) (samples_of samples a) a (record_in records a)
      each a = elim (cases_eq e.actor a) [
        | inl q ↦ subst (λ (x : ℕ). KeepsActor (sent_now with) (samples_of samples x) x (record_in records x)) q keeps
        | inr ne ↦ subst (KeepsActor (sent_now with) (samples_of samples a) a) (sym (others a ne)) (other_keeps a ne)
      ]

      -- each state stays
      state_same : (a : ℕ) → state_value (record_in records a).life.state ≡ state_kept s a
      state_same a =
          (each a).life.state
          ∙ state_now later t end before with packs a
          ∙ ap (λ (x : Past). state_of x a) past_same
          ∙ sym (state_now l t end before p h.stands.both a)
          ∙ sym (h.stands.sender.each a).life.state

      any_left : (x y : Bool) → x ≡ true → (x || y) ≡ true
      any_left true y e = refl
      any_left false y e = absurd (false≢true e)

      any_right : (x y : Bool) → y ≡ true → (x || y) ≡ true
      any_right true y e = refl
      any_right false y e = e

      told : (n a : ℕ) → list_any (is_update_sent n a) updates
          ≡ (list_any (is_update_sent n a) s.updates || list_any (is_update_sent n a) (note_of e.actor with))
      told n a =
          ap (list_any (is_update_sent n a)) notes
          ∙ list_any-append (is_update_sent n a) s.updates (note_of e.actor with)

      before_told : (a n k : ℕ) → is_open (state_value (record_in records a).life.state) ≡ true
          → high_of (sent_now with) < k → k ≡ packet_in s.records a n
          → list_any (is_update_sent k a) updates ≡ true
      before_told a n k o lt same =
          told k a ∙ any_left (list_any (is_update_sent k a) s.updates)
          (list_any (is_update_sent k a) (note_of e.actor with))
          (ap (λ (x : ℕ). list_any (is_update_sent x a) s.updates) same
          ∙ h.stands.sender.under_way a n (sym (ap is_open (state_same a)) ∙ o)
          (omega (arith, lt, same, high_same)))

      under_way : (a n : ℕ) → is_open (state_value (record_in records a).life.state) ≡ true
          → high_of (sent_now with) < packet_in records a n
          → list_any (is_update_sent (packet_in records a n) a) updates ≡ true
      under_way a n o lt = elim (cases_eq e.actor a) [
        | inr ne ↦ before_told a n (packet_in records a n) o lt
            (ap (λ (r : ActorRecord). (handle_in r.handles.handles n).packet)
            (others a ne))
        | inl q ↦ elim (noted n) [
          | inl in_notes ↦ subst (λ (x : ℕ). list_any (is_update_sent (packet_in records x n) x) updates ≡ true) q
              (told (packet_in records e.actor n) e.actor
              ∙ any_right (list_any (is_update_sent (packet_in records e.actor n) e.actor) s.updates)
              (list_any (is_update_sent (packet_in records e.actor n) e.actor) (note_of e.actor with)) in_notes)
          | inr same ↦ before_told a n (packet_in records a n) o lt
              (subst (λ (x : ℕ). packet_in records x n ≡ packet_in s.records x n) q same)
        ]
      ]

      pub updated : InTick (record s { records = records; updates = updates }) later t end before with samples
      updated = record {
        sender = record {
          each = each;
          under_way = under_way;
          pending = λ a o. h.stands.sender.pending a (sym (ap is_pending (state_same a)) ∙ o);
          live = λ a o. h.stands.sender.live a (sym (ap is_closed (state_same a)) ∙ o);
          opened = rest.opened;
          ascends = h.stands.sender.ascends;
          known = rest.known;
          opens = rest.opens;
          low = rest.low;
          below = rest.below;
          ticks = rest.ticks;
          kept = h.stands.sender.kept;
        };
        both = packs;
        bound = record {
          index = λ a.
              h.stands.bound.index a ∙ index_now l t end before p h.stands.both a
              ∙ ap (λ (x : Past). index_of x a) (sym past_same)
              ∙ sym (index_now later t end before with packs a);
          paired = h.stands.bound.paired;
        };
        known = λ g. ap (λ (x : Past). is_known x g) past_same ∙ h.stands.known g;
        waiting = h.stands.waiting;
      }
