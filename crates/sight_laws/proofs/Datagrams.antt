-- A datagram is heard the same, and leaves the pasts the same but for their sights.
use Rattle.std.proofs.Common.{◌≡◌, ℕ, List, [], ◌∷◌, map, Bool, true, false, not, cond, ◌&&◌, ◌||◌, ◌==◌, nat_lt, nat_le, slice_get, refl, sym, ap, ◌∙◌, subst, length, Option, Some, None, Result, Ok, Err, ℤ, is_some, is_none, find, filter, fold, option_map, unwrap_or}
use Rattle.std.specs.Prelude.{unsigned_abs, option_and_then, if◌then◌else◌}
use Rattle.std.specs.Bool.{then_some}
use Rattle.std.specs.List.{filter_map}
use Rattle.std.proofs.Math.Path.{fun_ext}
use Rattle.protocol_model.specs.Limits.{held_limit, copy_limit}
use Rattle.protocol_model.specs.Side.{Side, AtServer, AtClient}
use Rattle.protocol_model.specs.Value.{Class, Table, Segment, goes_up, goes_down}
use Rattle.protocol_model.specs.Reading.{Fault, Reading, ◌>>=◌, give, bit_at}
use Rattle.protocol_model.specs.Packet.{Bunch, Packet}
use Rattle.protocol_model.specs.PacketReading.{packet_of}
use Rattle.protocol_model.specs.Payload.{Message, Opens, Closes, Updates, Gone, actor_of}
use Rattle.protocol_model.specs.Search.{greatest_of, ascending_numbers}
use Rattle.protocol_model.specs.Sight.{Seen}
use Rattle.protocol_model.specs.declared.Why.{Why}
use Rattle.protocol_model.specs.declared.Cause.{Cause}
use Rattle.protocol_model.specs.declared.Cause.TheVariants.{BadChannel, BadPart, UnknownGuid}
use Rattle.protocol_model.specs.declared.PartWhy.{PartWhy}
use Rattle.protocol_model.specs.declared.Verdict.{Verdict}
use Rattle.protocol_model.specs.declared.Verdict.TheVariants.{Old, Dead}
use Rattle.connection_model.specs.Feed.{End, Past, Deed, Ticked, Made, Waits, Sent, Took, Ended, Ending, ByCause, Entry, Told, Acked, Heard, Delivered, has_ended, tick_in, seen_in}
use Rattle.connection_model.specs.Fates.{top_of, number_near, is_new}
use Rattle.connection_model.specs.State.{opened_class, is_index}
use Rattle.connection_model.specs.Items.{kept_flush}
use Rattle.connection_model.specs.Copies.{delivered_of, copy_class, has_copy, copy_channel, actor_opened, copied_actors, copy_on, is_on}
use Rattle.connection_model.specs.Names.{names_of, names_with, class_named}
use Rattle.connection_model.specs.Windows.{Received, received_on, held_count, offer_of, number_as, Offer, Repeat, Ready, Held, ready_bunches, applied_of, kept_of, part_fault, joined_bits, first_of, ends_payload}
use Rattle.connection_model.specs.PayloadReading.{PayloadReading, field, unless, number_at, actor_at, end_at, exports_at, values_at, some_values_at, is_elsewhere, is_other_class, class_or, call_at_end, server_call_at, client_payload_at, payload_at}
use Rattle.connection_model.specs.Verdict.{is_misplaced, lacks_copy, holds_now, delivery_of, payload_cause, payload_result, bunch_result, with_handed, with_told, Progress, bunches_result, overrun_cause, reliable_result, bunch_heard, ack_cause, entry_result, after_entries, entries_in, after_packet, verdict_after, verdict_on, verdict_of, after_reading, after_got}
use Rattle.connection_laws.proofs.Moves.{told_ignored, handed_ignored}
use Rattle.sight_laws.specs.Differing.{but_sights, relevance_in, SameButSights}
use Rattle.sight_laws.proofs.Unsighted.{ended_same, taken_same, entries_same, moved_same, sent_same, delivered_same, class_same, indexes_same}

-- ---- readings

-- readings that go on the same way are the same
bind_same : {Why A B : Type 0} (read : Reading Why A) (f g : A → Reading Why B)
    → ((a : A) (bits : List Bool) → f a bits ≡ g a bits) → (bits : List Bool)
    → (read >>= f) bits ≡ (read >>= g) bits
bind_same {Why} {A} {B} read f g h bits = by (read bits)
  where
    goes : (A → Reading Why B) → Result (A × List Bool) (Fault Why) → Result (B × List Bool) (Fault Why)
    goes f r = elim r [ Ok got ↦ f got.0 got.1 | Err fault ↦ Err fault ]

    by : (r : Result (A × List Bool) (Fault Why)) → goes f r ≡ goes g r
    by (Ok got) = h got.0 got.1
    by (Err fault) = refl

-- a payload at the client, by what is told of names and copies
abbrev client_by : Table → Bunch → List Segment → (channel : ℕ → Option ℕ) → (class_of : ℕ → Option Class)
    → (has : ℕ → Bool) → List ℕ → (on : ℕ → Option ℕ) → PayloadReading Message
client_by table first names channel class_of has copied on =
    cond (first.channel == 0) gone (cond first.closes close (cond first.opens opened plain))
  where
    gone : PayloadReading Message
    gone = do
      _ ← field number_at (λ n. n == 1)
      actor ← actor_at
      _ ← unless (has actor && is_none (channel actor)) (UnknownGuid actor)
      _ ← end_at
      give (Gone actor)

    close : PayloadReading Message
    close = do
      _ ← end_at
      give (Closes (unwrap_or (on first.channel) 0) first.sleeps)

    opened : PayloadReading Message
    opened = do
      exports ← exports_at first.exports names
      actor ← actor_at
      _ ← unless (not (is_elsewhere first.channel (channel actor))) (Cause.Clash actor)
      _ ← unless (has actor || nat_lt (length copied) copy_limit) Cause.ActorsFull
      guid ← number_at
      class ← class_or (UnknownGuid guid) (class_named table (fold names_with names exports) guid)
      _ ← unless (not (is_other_class class (class_of actor))) (Cause.Clash actor)
      values ← values_at class
      _ ← end_at
      give (Opens exports actor class values)

    called : PayloadReading Message
    called = do
      actor ← actor_at
      class ← class_or (UnknownGuid actor) (class_of actor)
      call_at_end class actor goes_down first.reliable

    updated : PayloadReading Message
    updated = do
      class ← class_or (BadChannel first.channel) (option_and_then class_of (on first.channel))
      values ← some_values_at class
      _ ← end_at
      give (Updates (unwrap_or (on first.channel) 0) class values)

    plain : PayloadReading Message
    plain = do
      is_call ← field bit_at (λ is_call. is_call || not first.reliable)
      if is_call then called else updated

-- ---- what is asked of a past

module _ (past other : Past) (e : but_sights other ≡ but_sights past) where
  server_same : (first : Bunch) (bits : List Bool) → server_call_at other first bits ≡ server_call_at past first bits
  server_same first bits =
      bind_same (field bit_at (λ is_call. is_call && not (first.channel == 0)))
      (λ c. actor_at >>= (λ actor. class_or (UnknownGuid actor) (opened_class other actor) >>=
      (λ class. call_at_end class actor goes_up first.reliable)))
      (λ c. actor_at >>= (λ actor. class_or (UnknownGuid actor) (opened_class past actor) >>=
      (λ class. call_at_end class actor goes_up first.reliable)))
      (λ c bits. bind_same actor_at
      (λ actor. class_or (UnknownGuid actor) (opened_class other actor) >>=
      (λ class. call_at_end class actor goes_up first.reliable))
      (λ actor. class_or (UnknownGuid actor) (opened_class past actor) >>=
      (λ class. call_at_end class actor goes_up first.reliable))
      (λ actor bits. ap (λ (o : Option Class).
      (class_or (UnknownGuid actor) o >>= (λ class. call_at_end class actor goes_up first.reliable)) bits)
      (class_same past other e actor)) bits) bits

  -- what is told of copies
  names_same : names_of other ≡ names_of past
  names_same = rw (delivered_same past other e) refl

  channel_fun : copy_channel other ≡ copy_channel past
  channel_fun = fun_ext (λ a. rw (delivered_same past other e) refl)

  class_fun : copy_class other ≡ copy_class past
  class_fun = fun_ext (λ a. rw (delivered_same past other e) refl)

  has_fun : has_copy other ≡ has_copy past
  has_fun = fun_ext (λ a. rw (delivered_same past other e) refl)

  copied_same : copied_actors other ≡ copied_actors past
  copied_same =
      ap (λ (p : ℕ → Bool). filter p (ascending_numbers (filter_map actor_opened (delivered_of other)))) has_fun
      ∙ ap (λ ds. filter (has_copy past) (ascending_numbers (filter_map actor_opened ds))) (delivered_same past other e)

  on_fun : copy_on other ≡ copy_on past
  on_fun = fun_ext (λ ch. ap (λ (f : ℕ → Option ℕ). find (λ a. is_on ch (f a)) (copied_actors other)) channel_fun
      ∙ ap (λ (l : List ℕ). find (λ a. is_on ch (copy_channel past a)) l) copied_same)

  client_same : (table : Table) (first : Bunch) (bits : List Bool)
      → client_payload_at table other first bits ≡ client_payload_at table past first bits
  client_same table first bits =
      ap (λ names. client_by table first names (copy_channel other) (copy_class other) (has_copy other)
      (copied_actors other) (copy_on other) bits) names_same
      ∙ ap (λ f. client_by table first (names_of past) f (copy_class other) (has_copy other) (copied_actors other)
      (copy_on other) bits) channel_fun
      ∙ ap (λ f. client_by table first (names_of past) (copy_channel past) f (has_copy other) (copied_actors other)
      (copy_on other) bits) class_fun
      ∙ ap (λ f. client_by table first (names_of past) (copy_channel past) (copy_class past) f (copied_actors other)
      (copy_on other) bits) has_fun
      ∙ ap (λ l. client_by table first (names_of past) (copy_channel past) (copy_class past) (has_copy past) l
      (copy_on other) bits) copied_same
      ∙ ap (λ f. client_by table first (names_of past) (copy_channel past) (copy_class past) (has_copy past)
      (copied_actors past) f bits) on_fun

  payload_same : (end : End) (first : Bunch) (bits : List Bool) → payload_at end other first bits
      ≡ payload_at end past first bits
  payload_same end first bits = by end.side
    where
      at : Past → Side → Result (Message × List Bool) (Fault (Option Cause))
      at p side = read side bits
        where
          read : Side → PayloadReading Message
          read side = elim side [ AtServer ↦ server_call_at p first | AtClient ↦ client_payload_at end.table p first ]

      by : (side : Side) → at other side ≡ at past side
      by AtServer = server_same first bits
      by AtClient = client_same end.table first bits

  holds_same : (side : Side) (a ch : ℕ) → holds_now side other a ch ≡ holds_now side past a ch
  holds_same AtServer a ch = ap (is_index ch) (indexes_same past other e a)
  holds_same AtClient a ch = rw (delivered_same past other e) refl

  lacks_same : (side : Side) (kept : List Bunch) (b : Bunch) → lacks_copy side other kept b
      ≡ lacks_copy side past kept b
  lacks_same AtServer kept b = refl
  lacks_same AtClient kept b =
      ap (λ (f : ℕ → Option ℕ). not (b.channel == 0) &&
      (cond b.opens (is_some (f b.channel))
      (is_none (f b.channel) && not (b.reliable && nat_lt 0 (length kept))))) on_fun

  top_same : top_of other ≡ top_of past
  top_same = ap greatest_of (taken_same past other e)

  pub new_same : (n : ℕ) → is_new other n ≡ is_new past n
  new_same n = rw top_same refl

  pub near_same : (n : ℕ) → number_near other n ≡ number_near past n
  near_same n = rw top_same refl

  pub received_same : (ch : ℕ) → received_on other ch ≡ received_on past ch
  received_same ch = rw (entries_same past other e) refl

  pub held_same : held_count other ≡ held_count past
  held_same = rw (entries_same past other e) refl

  result_same : (end : End) (first : Bunch) (bits : List Bool)
      → payload_result end other first bits ≡ payload_result end past first bits
  result_same end first bits =
      ap (λ (r : Result (Message × List Bool) (Fault (Option Cause))). told r other) (payload_same end first bits)
      ∙ by (payload_at end past first bits)
    where
      told : Result (Message × List Bool) (Fault (Option Cause)) → Past → Result (Option Delivered) Cause
      told r p = elim r [
        | Ok got ↦ Ok (Some (delivery_of end p first got.0))
        | Err fault ↦ Err (payload_cause first.channel (length bits) fault)
      ]

      by : (r : Result (Message × List Bool) (Fault (Option Cause))) → told r other ≡ told r past
      by (Ok got) = ap (λ (b : Bool). Ok
          (Some (record { channel = first.channel; reliable = first.reliable; held = b; message = got.0 })))
          (holds_same end.side (actor_of got.0) first.channel)
      by (Err fault) = refl

  pub bunch_same : (end : End) (kept : List Bunch) (b : Bunch) → bunch_result end other kept b
      ≡ bunch_result end past kept b
  bunch_same end kept b =
      ap (λ (l : Bool). cond l (Err (BadChannel b.channel)) (joined other (part_fault kept b b.part)))
      (lacks_same end.side kept b)
      ∙ ap (λ (r : Result (Option Delivered) Cause). cond (lacks_copy end.side past kept b)
      (Err (BadChannel b.channel)) r) (by (part_fault kept b b.part))
    where
      kept_before : List Bunch
      kept_before = cond b.reliable kept []

      joined : Past → Option PartWhy → Result (Option Delivered) Cause
      joined p why = elim why [
        | Some why ↦ Err (BadPart b.channel why)
        | None ↦ cond (ends_payload b) (payload_result end p (first_of kept_before b) (joined_bits kept_before b))
            (Ok None)
      ]

      by : (why : Option PartWhy) → joined other why ≡ joined past why
      by (Some why) = refl
      by None = ap (λ (r : Result (Option Delivered) Cause). cond (ends_payload b) r (Ok None))
          (result_same end (first_of kept_before b) (joined_bits kept_before b))

  overrun_same : (ch : ℕ) → overrun_cause other ch ≡ overrun_cause past ch
  overrun_same ch = ap (λ (k : ℕ). then_some (nat_le held_limit k) (Cause.Overrun ch)) held_same

  ack_same : (entry : Entry) → ack_cause other entry ≡ ack_cause past entry
  ack_same entry = rw (sent_same past other e, moved_same past other e) refl

-- ---- the packet under way

handed_done : (d : Delivered) (past : Past) → but_sights (with_handed d past) ≡ with_handed d (but_sights past)
handed_done d [] = refl
handed_done d (Ticked t s ∷ past) = refl
handed_done d (Made c n m i ∷ past) = refl
handed_done d (Waits m ∷ past) = refl
handed_done d (Sent n t items ∷ past) = refl
handed_done d (Took n es ds ∷ past) = refl
handed_done d (Ended g ∷ past) = refl

told_done : (entry : Entry) (past : Past) → but_sights (with_told entry past) ≡ with_told entry (but_sights past)
told_done entry [] = refl
told_done entry (Ticked t s ∷ past) = refl
told_done entry (Made c n m i ∷ past) = refl
told_done entry (Waits m ∷ past) = refl
told_done entry (Sent n t items ∷ past) = refl
told_done entry (Took n es ds ∷ past) = refl
told_done entry (Ended g ∷ past) = refl

handed_flush : (d : Delivered) (past : Past) (a : ℕ) → kept_flush (with_handed d past) a ≡ kept_flush past a
handed_flush d [] a = refl
handed_flush d (Ticked t s ∷ past) a = refl
handed_flush d (Made c n m i ∷ past) a = refl
handed_flush d (Waits m ∷ past) a = refl
handed_flush d (Sent n t items ∷ past) a = refl
handed_flush d (Took n es ds ∷ past) a = refl
handed_flush d (Ended g ∷ past) a = refl

told_flush : (entry : Entry) (past : Past) (a : ℕ) → kept_flush (with_told entry past) a ≡ kept_flush past a
told_flush entry [] a = refl
told_flush entry (Ticked t s ∷ past) a = refl
told_flush entry (Made c n m i ∷ past) a = refl
told_flush entry (Waits m ∷ past) a = refl
told_flush entry (Sent n t items ∷ past) a = refl
told_flush entry (Took n es ds ∷ past) a = refl
told_flush entry (Ended g ∷ past) a = refl

abbrev owned_in : ℕ → List (List Seen) → Bool
owned_in a sights =
    unwrap_or (option_map (λ (seen : Seen). seen.owns) (seen_in (unwrap_or (slice_get sights 0) []) a)) false

abbrev sight_told : Deed → Option (List Seen)
sight_told deed = option_map (λ (tick : ℕ × List Seen). tick.1) (tick_in deed)

handed_same : (d : Delivered) (past other : Past) → SameButSights past other
    → SameButSights (with_handed d past) (with_handed d other)
handed_same d past other h = record {
  done = handed_done d other ∙ ap (with_handed d) h.done ∙ sym (handed_done d past);
  relevance = λ a. ap (map (relevance_in a)) (handed_ignored tick_in (λ n es d ds. refl) d other) ∙ h.relevance a
      ∙ sym (ap (map (relevance_in a)) (handed_ignored tick_in (λ n es d ds. refl) d past));
  flush = λ a. handed_flush d other a ∙ h.flush a ∙ sym (handed_flush d past a);
  owned = λ a. ap (owned_in a) (handed_ignored sight_told (λ n es d ds. refl) d other) ∙ h.owned a
      ∙ sym (ap (owned_in a) (handed_ignored sight_told (λ n es d ds. refl) d past));
}

told_same : (entry : Entry) (past other : Past) → SameButSights past other
    → SameButSights (with_told entry past) (with_told entry other)
told_same entry past other h = record {
  done = told_done entry other ∙ ap (with_told entry) h.done ∙ sym (told_done entry past);
  relevance = λ a. ap (map (relevance_in a)) (told_ignored tick_in (λ n e es ds. refl) entry other) ∙ h.relevance a
      ∙ sym (ap (map (relevance_in a)) (told_ignored tick_in (λ n e es ds. refl) entry past));
  flush = λ a. told_flush entry other a ∙ h.flush a ∙ sym (told_flush entry past a);
  owned = λ a. ap (owned_in a) (told_ignored sight_told (λ n e es ds. refl) entry other) ∙ h.owned a
      ∙ sym (ap (owned_in a) (told_ignored sight_told (λ n e es ds. refl) entry past));
}

-- one more deed that is no tick and makes no bunch
ended_more : (past other : Past) (ending : Ending) → SameButSights past other
    → SameButSights (Ended ending ∷ past) (Ended ending ∷ other)
ended_more past other ending h = record {
  done = ap (λ (p : Past). Ended ending ∷ p) h.done;
  relevance = h.relevance;
  flush = h.flush;
  owned = h.owned;
}

took_more : (past other : Past) (n : ℕ) → SameButSights past other
    → SameButSights (Took n [] [] ∷ past) (Took n [] [] ∷ other)
took_more past other n h = record {
  done = ap (λ (p : Past). Took n [] [] ∷ p) h.done;
  relevance = h.relevance;
  flush = h.flush;
  owned = h.owned;
}

-- ---- entries

-- what came of an entry is the same
record GoesSame (one other : Progress) : Type 0 where
  pub past : SameButSights one.past other.past
  pub cause : other.cause ≡ one.cause

bunches_same : (end : End) (past other : Past) (kept bunches : List Bunch) → SameButSights past other
    → GoesSame (bunches_result end past kept bunches) (bunches_result end other kept bunches)
bunches_same end past other kept [] h = record { past = h; cause = refl }
bunches_same end past other kept (b ∷ bunches) h =
    subst (λ (r : Result (Option Delivered) Cause). GoesSame (bunches_result end past kept (b ∷ bunches))
    (goes other r))
    (sym (bunch_same past other h.done end kept b))
    (by (bunch_result end past kept b) (bunches_same end past other (b ∷ kept) bunches h)
    (λ d. bunches_same end (with_handed d past) (with_handed d other) [] bunches (handed_same d past other h)))
  where
    goes : Past → Result (Option Delivered) Cause → Progress
    goes p r = elim r [
      | Err cause ↦ record { past = p; cause = Some cause }
      | Ok None ↦ bunches_result end p (b ∷ kept) bunches
      | Ok (Some d) ↦ bunches_result end (with_handed d p) [] bunches
    ]

    by : (r : Result (Option Delivered) Cause)
        → GoesSame (bunches_result end past (b ∷ kept) bunches) (bunches_result end other (b ∷ kept) bunches)
        → ((d : Delivered) → GoesSame (bunches_result end (with_handed d past) [] bunches)
        (bunches_result end (with_handed d other) [] bunches))
        → GoesSame (goes past r) (goes other r)
    by (Err cause) one more = record { past = h; cause = refl }
    by (Ok None) one more = one
    by (Ok (Some d)) one more = more d

reliable_same : (end : End) (past other : Past) (b : Bunch) (got : List Received) (offer : Offer)
    → SameButSights past other
    → GoesSame (reliable_result end past b got offer) (reliable_result end other b got offer)
reliable_same end past other b got Repeat h = record { past = h; cause = refl }
reliable_same end past other b got (Held n) h = record { past = h; cause = overrun_same past other h.done b.channel }
reliable_same end past other b got Ready h =
    bunches_same end past other (kept_of (applied_of got)) (ready_bunches got b) h

heard_same : (end : End) (past other : Past) (b : Bunch) → SameButSights past other
    → GoesSame (bunch_heard end past b) (bunch_heard end other b)
heard_same end past other b h =
    subst (λ (got : List Received). GoesSame (bunch_heard end past b) (hears other got))
    (sym (received_same past other h.done b.channel))
    (by (received_on past b.channel) (is_misplaced end.side b) b.reliable)
  where
    hears_by : Past → List Received → Bool → Bool → Progress
    hears_by p got misplaced reliable =
        cond misplaced (record { past = p; cause = Some (BadChannel b.channel) })
        (cond reliable (reliable_result end p b got (offer_of got (number_as got b)))
        (bunches_result end p (kept_of (applied_of got)) (b ∷ [])))

    hears : Past → List Received → Progress
    hears p got = hears_by p got (is_misplaced end.side b) b.reliable

    by : (got : List Received) (m r : Bool) → GoesSame (hears_by past got m r) (hears_by other got m r)
    by got true r = record { past = h; cause = refl }
    by got false true = reliable_same end past other b got (offer_of got (number_as got b)) h
    by got false false = bunches_same end past other (kept_of (applied_of got)) (b ∷ []) h

entry_same : (end : End) (past other : Past) (entry : Entry) → SameButSights past other
    → GoesSame (entry_result end past entry) (entry_result end other entry)
entry_same end past other (Heard b) h = heard_same end past other b h
entry_same end past other (Told head) h = record { past = h; cause = ack_same past other h.done (Told head) }
entry_same end past other (Acked n) h = record { past = h; cause = ack_same past other h.done (Acked n) }

entries_go : (end : End) (past other : Past) (entries : List Entry) → SameButSights past other
    → SameButSights (after_entries end past entries) (after_entries end other entries)
entries_go end past other [] h = h
entries_go end past other (entry ∷ more) h =
    by (entry_result end past entry) (entry_result end other entry) (entry_same end past other entry h)
    (λ one two s. entries_go end (with_told entry one) (with_told entry two) more (told_same entry one two s))
  where
    goes : Progress → Past
    goes progress = elim progress.cause [
      | None ↦ after_entries end (with_told entry progress.past) more
      | Some cause ↦ Ended (ByCause cause) ∷ progress.past
    ]

    by_cause : (one two : Past) (c : Option Cause) → SameButSights one two
        → SameButSights (after_entries end (with_told entry one) more) (after_entries end (with_told entry two) more)
        → SameButSights (goes (record { past = one; cause = c })) (goes (record { past = two; cause = c }))
    by_cause one two None s next = next
    by_cause one two (Some cause) s next = ended_more one two (ByCause cause) s

    by : (one two : Progress) → GoesSame one two
        → ((p q : Past) → SameButSights p q
        → SameButSights (after_entries end (with_told entry p) more) (after_entries end (with_told entry q) more))
        → SameButSights (goes one) (goes two)
    by one two g next =
        subst (λ (c : Option Cause). SameButSights (goes one) (goes (record { past = two.past; cause = c })))
        (sym g.cause)
        (by_cause one.past two.past one.cause g.past (next one.past two.past g.past))

-- ---- datagrams

packet_same : (end : End) (past other : Past) (p : Packet) → SameButSights past other
    → SameButSights (after_packet end past p) (after_packet end other p)
packet_same end past other p h =
    subst (λ (n : ℤ). SameButSights (after_packet end past p)
    (after_entries end (Took (unsigned_abs n) [] [] ∷ other) (entries_in end.version p)))
    (sym (near_same past other h.done p.number))
    (entries_go end (Took (unsigned_abs (number_near past p.number)) [] [] ∷ past)
    (Took (unsigned_abs (number_near past p.number)) [] [] ∷ other) (entries_in end.version p)
    (took_more past other (unsigned_abs (number_near past p.number)) h))

reading_same : (end : End) (past other : Past) (r : Result Packet (ℕ × Why)) → SameButSights past other
    → SameButSights (after_reading end past r) (after_reading end other r)
reading_same end past other (Err bad) h = h
reading_same end past other (Ok p) h =
    subst (λ (b : Bool). SameButSights (after_reading end past (Ok p)) (cond b (after_packet end other p) other))
    (sym (new_same past other h.done p.number)) (by (is_new past p.number))
  where
    by : (b : Bool) → SameButSights (cond b (after_packet end past p) past) (cond b (after_packet end other p) other)
    by true = packet_same end past other p h
    by false = h

-- a datagram keeps pasts the same but for their sights
pub got_keeps : (end : End) (past other : Past) (bytes : List ℕ) → SameButSights past other
    → SameButSights (after_got end past bytes) (after_got end other bytes)
got_keeps end past other bytes h =
    subst (λ (b : Bool). SameButSights (after_got end past bytes)
    (cond b other (after_reading end other (packet_of end.version bytes))))
    (sym (ended_same past other h.done)) (by (has_ended past))
  where
    by : (b : Bool) → SameButSights (cond b past (after_reading end past (packet_of end.version bytes)))
        (cond b other (after_reading end other (packet_of end.version bytes)))
    by true = h
    by false = reading_same end past other (packet_of end.version bytes) h

-- its verdict is that of the deeds without their sights
verdict_own : (past : Past) (n : ℕ) → verdict_after (but_sights past) n ≡ verdict_after past n
verdict_own [] n = refl
verdict_own (Ticked t s ∷ past) n = refl
verdict_own (Made c k m i ∷ past) n = refl
verdict_own (Waits m ∷ past) n = refl
verdict_own (Sent k t items ∷ past) n = refl
verdict_own (Took k es ds ∷ past) n = refl
verdict_own (Ended (ByCause cause) ∷ past) n = refl
verdict_own (Ended Ending.ByStall ∷ past) n = refl

on_same : (end : End) (past other : Past) (r : Result Packet (ℕ × Why)) → SameButSights past other
    → verdict_on end other r ≡ verdict_on end past r
on_same end past other (Err bad) h = refl
on_same end past other (Ok p) h =
    ap (λ (b : Bool). cond b (verdict_after (after_packet end other p) (unsigned_abs (number_near other p.number)))
    (Old (number_near other p.number) (top_of other))) (new_same past other h.done p.number)
    ∙ ap (λ (z : ℤ). cond (is_new past p.number) (verdict_after (after_packet end other p) (unsigned_abs z))
    (Old z (top_of other))) (near_same past other h.done p.number)
    ∙ ap (λ (k : ℕ). cond (is_new past p.number) (verdict_after (after_packet end other p) n)
    (Old (number_near past p.number) k)) (top_same past other h.done)
    ∙ ap (λ (v : Verdict). cond (is_new past p.number) v (Old (number_near past p.number) (top_of past)))
    (sym (verdict_own (after_packet end other p) n)
    ∙ ap (λ (l : Past). verdict_after l n) (packet_same end past other p h).done
    ∙ verdict_own (after_packet end past p) n)
  where
    n : ℕ
    n = unsigned_abs (number_near past p.number)

-- and the same
pub verdict_same : (end : End) (past other : Past) (bytes : List ℕ) → SameButSights past other
    → verdict_of end other bytes ≡ verdict_of end past bytes
verdict_same end past other bytes h =
    ap (λ (b : Bool). cond b Dead (verdict_on end other (packet_of end.version bytes))) (ended_same past other h.done)
    ∙ ap (λ (v : Verdict). cond (has_ended past) Dead v) (on_same end past other (packet_of end.version bytes) h)
