-- What packets that hold no update leave of the turns.
use Rattle.std.proofs.Common.{◌≡◌, ◌∙◌, inl, inr, ℕ, ◌+◌, ◌-◌, ◌*◌, ◌<◌, List, [], ◌∷◌, ◌++◌, length, min, Bool, true, false, cond, ◌&&◌, ◌||◌, nat_lt, ap, sym, refl, subst, ℤ, pos, Option, Some, None, unwrap_or}
use Rattle.std.specs.Bool.{then_some}
use Rattle.std.specs.List.{slice_get, filter_map, cons_option}
use Rattle.std.proofs.lemmas.Bool.{cases_eq, eq-eqb, ne_eqb}
use Rattle.std.proofs.lemmas.Option.{slice_get_within}
use Rattle.protocol_model.specs.Search.{newest_of, oldest_of, or_else, items_since}
use Rattle.protocol_model.specs.Sight.{Seen}
use Rattle.protocol_model.specs.Value.{Pair, value_among}
use Rattle.change_model.specs.Changes.{Sample, value_count}
use Rattle.connection_model.specs.Feed.{Past, Ticked, Made, Waits, Sent, Took, Ended, tick_in, ticks_of, tick_count, is_relevant_in}
use Rattle.connection_model.specs.State.{state_of, is_opened}
use Rattle.connection_model.specs.Carry.{Carry, carry_in, carry_of, update_carry, open_values, open_values_in, is_open_of, due_pairs}
use Rattle.connection_model.specs.Items.{last_service, first_sight, shown_in, score_of, wants_open}
use Rattle.connection_laws.specs.Run.{Ascends}
use Rattle.packing_laws.specs.Sendings.{AreSendings}
use Rattle.packing_laws.proofs.Sendings.{sent_ignored, moved_behind, state_behind, index_behind}
use Rattle.class_layout.specs.Tables.{Layout}
use Rattle.shadow_changes.specs.Samples.{Shadows, Samples, samples_of}
use Rattle.sender_laws.specs.Acts.{are_sent}
use Rattle.sender_laws.specs.Items.{has_update}
use Rattle.sender_laws.specs.Values.{place_of, value_now}
use Rattle.sender_laws.proofs.Makes.{no_update, flush_sent, sight_sent}
use Rattle.sender_laws.proofs.Opens.{values_missed}
use Rattle.sender_records.specs.declared.actor.ActorRecord.{ActorRecord}
use Rattle.sender_records.specs.Handles.{Agrees}
use Rattle.sight_laws.specs.Sights.{AscendsFrom}
use Rattle.turn_laws.proofs.Untouched.{Untouched, wants_stays, due_stays}
use Rattle.sender_steps.specs.declared.sight.Seen.{Seen as SeenValue}
use Rattle.sender_turns.specs.declared.turns.Turn.{Turn}
use Rattle.sender_steps.specs.Sender.{record_in}
use Rattle.sender_steps.specs.Sights.{seen_value, sight_value, actors_in}
use Rattle.sender_steps.specs.Stands.{Agrees as AgreesWith}
use Rattle.sender_turns.specs.Turning.{turn_in, turned, AreCompared, AreReady, BeforeTurns}
use Rattle.sender_steps.proofs.Showing.{entry_relevant}
use Rattle.sender_turns.proofs.Finding.{was_shown}

-- ---- one actor

module _ (past sent : Past) (s : AreSendings past sent) where
  sendings_sent : are_sent sent ≡ true
  sendings_sent = by sent s
    where
      by : (sent : Past) → AreSendings past sent → are_sent sent ≡ true
      by [] s = refl
      by (Sent n t items ∷ sent) s = by sent s.2
      by (Ticked t sight ∷ sent) s = absurd s
      by (Made c n m i ∷ sent) s = absurd s
      by (Waits m ∷ sent) s = absurd s
      by (Took n es ds ∷ sent) s = absurd s
      by (Ended g ∷ sent) s = absurd s

service_behind : (past sent : Past) → AreSendings past sent → (a : ℕ) → has_update a sent ≡ false
    → last_service (sent ++ past) a ≡ last_service past a
service_behind past [] s a none = refl
service_behind past (Sent n t items ∷ sent) s a none =
    let q = no_update n t items sent a none in
    ap (λ (b : Bool). cond b (Some t) (last_service (sent ++ past) a)) q.0 ∙ service_behind past sent s.2 a q.1
service_behind past (Ticked t sight ∷ sent) s a none = absurd s
service_behind past (Made c n m i ∷ sent) s a none = absurd s
service_behind past (Waits m ∷ sent) s a none = absurd s
service_behind past (Took n es ds ∷ sent) s a none = absurd s
service_behind past (Ended g ∷ sent) s a none = absurd s

since_behind : (past sent : Past) → AreSendings past sent → (a h : ℕ) → has_update a sent ≡ false
    → filter_map (update_carry a h) (items_since (is_open_of a) (sent ++ past))
    ≡ filter_map (update_carry a h) (items_since (is_open_of a) past)
since_behind past [] s a h none = refl
since_behind past (Sent n t items ∷ sent) s a h none =
    let q = no_update n t items sent a none in
    ap (λ (vs : List ℤ). cons_option (carry_in (Some n) (slice_get vs 0))
    (filter_map (update_carry a h) (items_since (is_open_of a) (sent ++ past))))
    (values_missed a h items q.0)
    ∙ since_behind past sent s.2 a h q.1
since_behind past (Ticked t sight ∷ sent) s a h none = absurd s
since_behind past (Made c n m i ∷ sent) s a h none = absurd s
since_behind past (Waits m ∷ sent) s a h none = absurd s
since_behind past (Took n es ds ∷ sent) s a h none = absurd s
since_behind past (Ended g ∷ sent) s a h none = absurd s

carry_behind : (past sent : Past) → AreSendings past sent → (a h : ℕ) → has_update a sent ≡ false
    → carry_of (sent ++ past) a h ≡ carry_of past a h
carry_behind past sent s a h none =
    ap (λ (cs : List Carry). or_else (slice_get cs 0) (carry_in None (value_among (open_values (sent ++ past) a) h)))
    (since_behind past sent s a h none)
    ∙ ap (λ (vs : List (List Pair)). or_else (newest_of (update_carry a h) (items_since (is_open_of a) past))
    (carry_in None (value_among (unwrap_or (slice_get vs 0) []) h)))
    (sent_ignored (open_values_in a) (λ n t items. refl) past sent s)

-- what is asked of the actor before a turn stays
untouched_behind : (past sent : Past) → AreSendings past sent → (a : ℕ) → has_update a sent ≡ false
    → Untouched past (sent ++ past) a
untouched_behind past sent s a none = record {
  state = state_behind past sent s a;
  index = index_behind past sent s a;
  flush = flush_sent sent past (sendings_sent past sent s) a;
  carry = λ h. carry_behind past sent s a h none;
  moved = moved_behind past sent s;
}

ticks_behind : (past sent : Past) → AreSendings past sent → ticks_of (sent ++ past) ≡ ticks_of past
ticks_behind past sent s = sent_ignored tick_in (λ n t items. refl) past sent s

score_behind : (past sent : Past) → AreSendings past sent → (seen : Seen) → has_update seen.actor sent ≡ false
    → score_of (sent ++ past) seen ≡ score_of past seen
score_behind past sent s seen none =
    ap (λ (o : Option ℕ). seen.class.priority * min (tick_count (sent ++ past) - unwrap_or o
    (first_sight (sent ++ past) seen.actor - 1)) 65535)
    (service_behind past sent s seen.actor none)
    ∙ ap (λ (ts : List (ℕ × List Seen)). seen.class.priority
    * min (length ts - unwrap_or (last_service past seen.actor) (unwrap_or (oldest_of (shown_in seen.actor) ts) 1 - 1))
    65535)
    (ticks_behind past sent s)

-- ---- the turns

same_turn : (make : ℕ → Bool → Turn) (r w x o p n m : Bool) (i j : ℕ) → w ≡ x → o ≡ p → n ≡ m → i ≡ j
    → then_some (r && (w || (o && n))) (make i w) ≡ then_some (r && (x || (p && m))) (make j x)
same_turn make r w x o p n m i j e f g h =
    ap (λ (b : Bool). then_some (r && (b || (o && n))) (make i b)) e
    ∙ ap (λ (b : Bool). then_some (r && (x || (b && n))) (make i x)) f
    ∙ ap (λ (b : Bool). then_some (r && (x || (p && b))) (make i x)) g
    ∙ ap (λ (k : ℕ). then_some (r && (x || (p && m))) (make k x)) h

turn_behind : (layout : Layout) (past sent : Past) → AreSendings past sent → ((a : ℕ) → has_update a sent ≡ false)
    → (place : ℕ) (x : SeenValue) → turn_in layout (sent ++ past) place x ≡ turn_in layout past place x
turn_behind layout past sent s none place x =
    let seen = seen_value layout x in
    let still = untouched_behind past sent s x.actor (none x.actor) in
    same_turn (λ (score : ℕ) (opens : Bool). record { score = score; actor = x.actor; place = place; opens = opens })
    x.relevant (wants_open (sent ++ past) seen) (wants_open past seen)
    (is_opened (state_of (sent ++ past) x.actor)) (is_opened (state_of past x.actor))
    (nat_lt 0 (length (due_pairs (sent ++ past) seen))) (nat_lt 0 (length (due_pairs past seen)))
    (score_of (sent ++ past) seen) (score_of past seen)
    (wants_stays past (sent ++ past) seen still) (ap is_opened still.state)
    (ap (λ (ps : List Pair). nat_lt 0 (length ps)) (due_stays past (sent ++ past) seen still))
    (score_behind past sent s seen (none x.actor))

pub turned_behind : (layout : Layout) (past sent : Past) → AreSendings past sent → ((a : ℕ) → has_update a sent ≡ false)
    → (place : ℕ) (sight : List SeenValue) → turned layout (sent ++ past) place sight ≡ turned layout past place sight
turned_behind layout past sent s none place [] = refl
turned_behind layout past sent s none place (x ∷ sight) =
    ap (λ (o : Option Turn). cons_option o (turned layout (sent ++ past) (place + 1) sight))
    (turn_behind layout past sent s none place x)
    ∙ ap (cons_option (turn_in layout past place x)) (turned_behind layout past sent s none (place + 1) sight)

pub compared_behind : (layout : Layout) (past sent : Past) (samples : Samples) (records : List (ℕ × ActorRecord))
    (sight : List SeenValue) → AreSendings past sent → ((a : ℕ) → has_update a sent ≡ false)
    → AreCompared layout (sent ++ past) samples records sight → AreCompared layout past samples records sight
compared_behind layout past sent samples records sight s none h i x at relevant opened =
    let still = untouched_behind past sent s x.actor (none x.actor) in
    let k = h i x at relevant (ap is_opened still.state ∙ opened) in
    record {
      due = sym (due_stays past (sent ++ past) (seen_value layout x) still) ∙ k.due;
      room = k.room;
      current =
          k.current;
    }

-- ---- values of the newest sample

-- a handle's value stands somewhere in the list
record Stands (pairs : List Pair) (h : ℕ) (v : ℤ) : Type 0 where
  pub before : List Pair
  pub after : List Pair
  pub is : pairs ≡ before ++ record { handle = h; value = v } ∷ after

stands_in : (pairs : List Pair) (h : ℕ) (v : ℤ) → value_among pairs h ≡ Some v → Stands pairs h v
stands_in [] h v e = absurd (let no : (let o : Option ℤ = None in o) ≡ Some v = e in cc)
stands_in (p ∷ pairs) h v e = elim (cases_eq p.handle h) [
  | inl same ↦ (let value : p.value ≡ v = some_once (sym (ap
      (λ (b : Bool). cond b (Some p.value) (value_among pairs h)) (eq-eqb p.handle h same)) ∙ e) in
      record {
        before = [];
        after = pairs;
        is = ap (λ (k : ℕ). record { handle = k; value = p.value } ∷ pairs) same
            ∙ ap (λ (z : ℤ). record { handle = h; value = z } ∷ pairs) value;
      })
  | inr ne ↦ (let k = stands_in pairs h v (sym (ap (λ (b : Bool). cond b (Some p.value) (value_among pairs h))
      (ne_eqb p.handle h ne)) ∙ e) in
      record { before = p ∷ k.before; after = k.after; is = ap (λ (ps : List Pair). p ∷ ps) k.is })
]
  where
    some_once : {x : ℤ} → Some x ≡ Some v → x ≡ v
    some_once q = cc

agreed : (samples : List Sample) (h : ℕ) (v : ℤ) (s : Sample) → newest_of (λ (s : Sample). Some s) samples ≡ Some s
    → slice_get s.values (place_of h) ≡ Some v
    → (place_of h < value_count samples) × (value_now samples (place_of h) ≡ Some v)
agreed [] h v s e at = absurd (let no : (let o : Option Sample = None in o) ≡ Some s = e in cc)
agreed (x ∷ samples) h v s e at =
    let same : s ≡ x = cc in
    let at_x : slice_get x.values (place_of h) ≡ Some v = subst
    (λ (y : Sample). slice_get y.values (place_of h) ≡ Some v) same at in (
      slice_get_within x.values (place_of h) v at_x,
      ap (λ (o : Option ℤ). let r : Option ℤ =
          Some (unwrap_or o (pos 0)) in r) at_x,
    )

pub values_agree : (samples : Samples) (seen : Seen) → AgreesWith samples seen
    → Agrees (samples_of samples seen.actor) seen.values
values_agree samples seen agrees h v e ne =
    let k = stands_in seen.values h v e in
    let q = agrees (record { handle = h; value = v }) k.before k.after k.is ne in
    agreed (samples_of samples seen.actor) h v q.0 q.1 q.2

-- ---- what stands before the turns

pub actors_ascend : (layout : Layout) (sight : List SeenValue) (low : ℕ) → AscendsFrom low (sight_value layout sight)
    → Ascends low (actors_in sight)
actors_ascend layout [] low h = tt
actors_ascend layout (s ∷ sight) low h = (h.0, actors_ascend layout sight s.actor h.2)

pub all_ready : (layout : Layout) (changes : Shadows) (sent now : Past) (samples : Samples) (tick : ℕ)
    (records : List (ℕ × ActorRecord)) (sight : List SeenValue)
    → BeforeTurns layout changes sent now samples tick records sight
    → AreReady layout changes (sent ++ now) samples tick records sight
all_ready layout changes sent now samples tick records sight t = record {
  keeps = t.keeps;
  ascends = ascends;
  each = λ i s at. record {
    keeps = t.keeps s.actor;
    noted = t.noted;
    ticks = t.ticks ∙ sym (ap length (ticks_behind now sent t.sendings));
    class = t.classes i s at;
    shown = λ relevant. was_shown (sent ++ now) s.actor (record_in records s.actor).service ((t.keeps s.actor).service)
        (ap (λ (seen : List Seen). is_relevant_in seen s.actor)
        (sight_sent sent now (sendings_sent now sent t.sendings) ∙ t.seen)
        ∙ entry_relevant layout sight 0 i s ascends at ∙ relevant);
    values = λ relevant opened. (let q = t.values i s at relevant
        (ap is_opened (sym (state_behind now sent t.sendings s.actor)) ∙ opened) in
        (q.0, values_agree samples (seen_value layout s) q.1));
    before = λ opened. t.before s.actor (ap is_opened (sym (state_behind now sent t.sendings s.actor)) ∙ opened);
  };
}
  where
    ascends : Ascends 0 (actors_in sight)
    ascends = actors_ascend layout sight 0 t.ascends
