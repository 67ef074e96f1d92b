-- What packets that are sent behind a past leave as it was.
use Rattle.std.proofs.Common.{◌≡◌, ℕ, zero, suc, ◌+◌, ◌-◌, ◌*◌, ◌%◌, ◌<◌, ◌≤◌, nat_le, List, [], ◌∷◌, ◌++◌, map, length, Bool, true, false, not, ◌&&◌, ◌==◌, refl, sym, ap, ◌∙◌, subst, arith, Option, Some, None, if◌then◌else◌}
use Rattle.std.specs.List.{filter_map, flat_map, cons_option, list_any, slice_get, sum_by, range_with_len, fold}
use Rattle.std.specs.Bool.{then_some}
use Rattle.std.proofs.lemmas.Bool.{ne_eqb, lt-ltb}
use Rattle.protocol_model.specs.declared.Version.{Version}
use Rattle.protocol_model.specs.declared.Version.TheVariants.{One, Two}
use Rattle.protocol_model.specs.declared.Fate.TheVariants.{Open}
use Rattle.protocol_model.specs.Packet.{Head}
use Rattle.protocol_model.specs.Bits.{number_of}
use Rattle.protocol_model.specs.Search.{greatest_of, is_among, least_from, ascending_numbers}
use Rattle.connection_model.specs.Feed.{Past, Deed, Sent, Ticked, Made, Waits, Took, Ended, Item}
use Rattle.connection_model.specs.Fates.{entries_in, moved_by, moved_of, high_of, taken_in, taken_of, top_of, top_when, fate_of, head_of}
use Rattle.connection_model.specs.Bunches.{made_on, made_count, channel_in, channels_of, is_carried_as, carrier_in, carrier_of, option_fate, shows_arrival, shows_need, has_arrived, is_due, span, span_sum, room}
use Rattle.connection_model.specs.State.{mark_in, last_mark, state_of, index_of, holds, opened_in, opened_actors, is_held, free_index}
use Rattle.connection_laws.proofs.Searches.{newest_hit, newest_miss}
use Rattle.connection_laws.proofs.Spans.{span_like}
use Rattle.connection_laws.proofs.ActorMarks.{SameArrivals, state_same, index_same}
use Rattle.packing_laws.specs.Sendings.{AreSendings}

-- ---- what sees no packet sent

pub sent_ignored : {B : Type 0} (f : Deed → Option B) → ((n t : ℕ) (items : List Item) → f (Sent n t items) ≡ None)
    → (past sent : Past) → AreSendings past sent → filter_map f (sent ++ past) ≡ filter_map f past
sent_ignored f h past [] s = refl
sent_ignored f h past (Sent n t items ∷ sent) s = ap (λ o. cons_option o (filter_map f (sent ++ past)))
    (h n t items) ∙ sent_ignored f h past sent s.2
sent_ignored f h past (Ticked t sight ∷ sent) s = absurd s
sent_ignored f h past (Made c n m i ∷ sent) s = absurd s
sent_ignored f h past (Waits m ∷ sent) s = absurd s
sent_ignored f h past (Took n es ds ∷ sent) s = absurd s
sent_ignored f h past (Ended g ∷ sent) s = absurd s

pub sent_ignored_all : {B : Type 0} (f : Deed → List B) → ((n t : ℕ) (items : List Item) → f (Sent n t items) ≡ [])
    → (past sent : Past) → AreSendings past sent → flat_map f (sent ++ past) ≡ flat_map f past
sent_ignored_all f h past [] s = refl
sent_ignored_all f h past (Sent n t items ∷ sent) s = ap (λ o. o ++ flat_map f (sent ++ past)) (h n t items)
    ∙ sent_ignored_all f h past sent s.2
sent_ignored_all f h past (Ticked t sight ∷ sent) s = absurd s
sent_ignored_all f h past (Made c n m i ∷ sent) s = absurd s
sent_ignored_all f h past (Waits m ∷ sent) s = absurd s
sent_ignored_all f h past (Took n es ds ∷ sent) s = absurd s
sent_ignored_all f h past (Ended g ∷ sent) s = absurd s

pub moved_behind : (past sent : Past) → AreSendings past sent → moved_of (sent ++ past) ≡ moved_of past
moved_behind past sent s = ap moved_by (sent_ignored_all entries_in (λ n t items. refl) past sent s)

pub high_behind : (past sent : Past) → AreSendings past sent → high_of (sent ++ past) ≡ high_of past
high_behind past sent s = ap greatest_of (moved_behind past sent s)

pub taken_behind : (past sent : Past) → AreSendings past sent → taken_of (sent ++ past) ≡ taken_of past
taken_behind past sent s = sent_ignored taken_in (λ n t items. refl) past sent s

pub top_behind : (past sent : Past) → AreSendings past sent → top_of (sent ++ past) ≡ top_of past
top_behind past sent s = ap greatest_of (taken_behind past sent s)

pub made_count_behind : (past sent : Past) → AreSendings past sent → (ch : ℕ)
    → made_count (sent ++ past) ch ≡ made_count past ch
made_count_behind past sent s ch = ap greatest_of (sent_ignored (made_on ch) (λ n t items. refl) past sent s)

pub channels_behind : (past sent : Past) → AreSendings past sent → channels_of (sent ++ past) ≡ channels_of past
channels_behind past sent s = ap ascending_numbers (sent_ignored channel_in (λ n t items. refl) past sent s)

pub mark_behind : (past sent : Past) → AreSendings past sent → (a : ℕ) → last_mark (sent ++ past) a ≡ last_mark past a
mark_behind past sent s a = ap (λ ms. slice_get ms 0) (sent_ignored (mark_in a) (λ n t items. refl) past sent s)

pub opened_behind : (past sent : Past) → AreSendings past sent → opened_actors (sent ++ past) ≡ opened_actors past
opened_behind past sent s = ap ascending_numbers (sent_ignored opened_in (λ n t items. refl) past sent s)

-- ---- one packet

-- a packet above each that moved is open
pub open_above : (past : Past) (k : ℕ) → high_of past < k → fate_of past k ≡ Open
open_above past k lt = (let e = lt-ltb (high_of past) k lt in rw e refl)

-- the bunches that it carries aren't due any more, and haven't arrived
pub carried_fate : (past : Past) (number t : ℕ) (items : List Item) (ch n : ℕ) → high_of past < number
    → list_any (is_carried_as ch n) items ≡ true
    → option_fate (Sent number t items ∷ past) (carrier_of (Sent number t items ∷ past) ch n) ≡ Some Open
carried_fate past number t items ch n lt e =
    ap (option_fate (Sent number t items ∷ past)) (newest_hit (carrier_in ch n) (Sent number t items) past number
    (ap (λ (b : Bool). then_some b number) e))
    ∙ ap (λ f. Some f) (open_above past number lt)

other_fate : (past : Past) (number t : ℕ) (items : List Item) (ch n : ℕ) → list_any (is_carried_as ch n) items ≡ false
    → option_fate (Sent number t items ∷ past) (carrier_of (Sent number t items ∷ past) ch n) ≡ option_fate past
    (carrier_of past ch n)
other_fate past number t items ch n e =
    ap (option_fate (Sent number t items ∷ past)) (newest_miss (carrier_in ch n) (Sent number t items) past (ap (λ
    (b : Bool). then_some b number) e))
    ∙ by (carrier_of past ch n)
  where
    by : (o : Option ℕ) → option_fate (Sent number t items ∷ past) o ≡ option_fate past o
    by None = refl
    by (Some k) = refl

pub arrived_sent : (past : Past) (number t : ℕ) (items : List Item) (ch n : ℕ) → high_of past < number
    → (list_any (is_carried_as ch n) items ≡ true → has_arrived past ch n ≡ false)
    → has_arrived (Sent number t items ∷ past) ch n ≡ has_arrived past ch n
arrived_sent past number t items ch n lt h = by (list_any (is_carried_as ch n) items) refl
  where
    by : (b : Bool) → list_any (is_carried_as ch n) items ≡ b
        → has_arrived (Sent number t items ∷ past) ch n ≡ has_arrived past ch n
    by true e = ap shows_arrival (carried_fate past number t items ch n lt e) ∙ sym (h e)
    by false e = ap shows_arrival (other_fate past number t items ch n e)

pub due_sent : (past : Past) (number t : ℕ) (items : List Item) (ch n : ℕ) → high_of past < number
    → is_due (Sent number t items ∷ past) ch n ≡ (if list_any
    (is_carried_as ch n) items then false else is_due past ch n)
due_sent past number t items ch n lt = by (list_any (is_carried_as ch n) items) refl
  where
    by : (b : Bool) → list_any (is_carried_as ch n) items ≡ b
        → is_due (Sent number t items ∷ past) ch n ≡ (if b then false else is_due past ch n)
    by true e = ap shows_need (carried_fate past number t items ch n lt e)
    by false e = ap shows_need (other_fate past number t items ch n e)

-- ---- several packets

pub arrived_behind : (past sent : Past) → AreSendings past sent → (ch n : ℕ)
    → has_arrived (sent ++ past) ch n ≡ has_arrived past ch n
arrived_behind past [] s ch n = refl
arrived_behind past (Sent number t items ∷ sent) s ch n =
    let lt : high_of (sent ++ past) < number = subst (λ (k : ℕ). k < number) (sym (high_behind past sent s.2)) s.0 in
    let before = arrived_behind past sent s.2 ch n in
    arrived_sent (sent ++ past) number t items ch n lt (λ e. before ∙ s.1 ch n e) ∙ before
arrived_behind past (Ticked t sight ∷ sent) s ch n = absurd s
arrived_behind past (Made c k m i ∷ sent) s ch n = absurd s
arrived_behind past (Waits m ∷ sent) s ch n = absurd s
arrived_behind past (Took k es ds ∷ sent) s ch n = absurd s
arrived_behind past (Ended g ∷ sent) s ch n = absurd s

-- what the past tells of places is told the same behind it
module _ (past later : Past) (arrived : SameArrivals past later) (count : (ch : ℕ)
    → made_count later ch ≡ made_count past ch) (channels : channels_of later ≡ channels_of past) where
  pub span_same : (ch : ℕ) → span later ch ≡ span past ch
  span_same ch = span_like past later ch (count ch) (λ n. arrived ch n)

  sum_same : (f g : ℕ → ℕ) (ns : List ℕ) (a : ℕ) → ((n : ℕ) → f n ≡ g n)
      → fold (λ a n. a + f n) a ns ≡ fold (λ a n. a + g n) a ns
  sum_same f g [] a h = refl
  sum_same f g (n ∷ ns) a h = ap (λ (k : ℕ). fold (λ a n. a + f n) (a + k) ns) (h n) ∙ sum_same f g ns (a + g n) h

  pub span_sum_same : span_sum later ≡ span_sum past
  span_sum_same = ap (sum_by (span later)) channels ∙ sum_same (span later) (span past) (channels_of past) 0 span_same

  pub room_same : (ch : ℕ) → room later ch ≡ room past ch
  room_same ch = rw (span_same ch, span_sum_same) refl

  pub held_same : opened_actors later ≡ opened_actors past → ((a : ℕ) → last_mark later a ≡ last_mark past a)
      → (ch : ℕ) → is_held later ch ≡ is_held past ch
  held_same opened marks ch = ap (list_any (λ a. holds later a ch)) opened ∙ any_same (opened_actors past)
    where
      any_same : (actors : List ℕ) → list_any (λ a. holds later a ch) actors ≡ list_any (λ a. holds past a ch) actors
      any_same [] = refl
      any_same (a ∷ actors) = rw (index_same past later arrived a (marks a), any_same actors) refl

  least_same : (p q : ℕ → Bool) → ((n : ℕ) → p n ≡ q n) → (k i : ℕ) → least_from p k i ≡ least_from q k i
  least_same p q h zero i = refl
  least_same p q h (suc k) i = rw (h i, least_same p q h k (i + 1)) refl

  pub free_index_same : opened_actors later ≡ opened_actors past → ((a : ℕ)
      → last_mark later a ≡ last_mark past a) → free_index later ≡ free_index past
  free_index_same opened marks =
      ap (λ (cs : List ℕ). least_from (λ ch. not (is_held later ch) && span later ch == 0) (length cs) 1) channels
      ∙ least_same (λ ch. not (is_held later ch) && span later ch == 0) (λ ch. not
      (is_held past ch) && span past ch == 0) each (length (channels_of past)) 1
    where
      each : (ch : ℕ) → (not (is_held later ch) && span later ch == 0) ≡ (not (is_held past ch) && span past ch == 0)
      each ch = rw (held_same opened marks ch, span_same ch) refl

module _ (past sent : Past) (s : AreSendings past sent) where
  pub span_behind : (ch : ℕ) → span (sent ++ past) ch ≡ span past ch
  span_behind ch = span_same past (sent ++ past) (arrived_behind past sent s) (made_count_behind past sent s)
      (channels_behind past sent s) ch

  pub span_sum_behind : span_sum (sent ++ past) ≡ span_sum past
  span_sum_behind = span_sum_same past (sent ++ past) (arrived_behind past sent s) (made_count_behind past sent s)
      (channels_behind past sent s)

  pub room_behind : (ch : ℕ) → room (sent ++ past) ch ≡ room past ch
  room_behind ch = room_same past (sent ++ past) (arrived_behind past sent s) (made_count_behind past sent s)
      (channels_behind past sent s) ch

  pub state_behind : (a : ℕ) → state_of (sent ++ past) a ≡ state_of past a
  state_behind a = state_same past (sent ++ past) (arrived_behind past sent s) a (mark_behind past sent s a)

  pub index_behind : (a : ℕ) → index_of (sent ++ past) a ≡ index_of past a
  index_behind a = index_same past (sent ++ past) (arrived_behind past sent s) a (mark_behind past sent s a)

  pub held_behind : (ch : ℕ) → is_held (sent ++ past) ch ≡ is_held past ch
  held_behind ch = held_same past (sent ++ past) (arrived_behind past sent s) (made_count_behind past sent s)
      (channels_behind past sent s) (opened_behind past sent s) (mark_behind past sent s) ch

  pub free_index_behind : free_index (sent ++ past) ≡ free_index past
  free_index_behind = free_index_same past (sent ++ past) (arrived_behind past sent s)
      (made_count_behind past sent s) (channels_behind past sent s) (opened_behind past sent s)
      (mark_behind past sent s)

-- ---- the head

-- what a packet told that had moved is told the same behind packets sent since
pub top_when_behind : (past sent : Past) → AreSendings past sent → (n : ℕ) → n ≤ high_of past
    → top_when (sent ++ past) n ≡ top_when past n
top_when_behind past [] s n le = refl
top_when_behind past (Sent number t items ∷ sent) s n le =
    ap (λ (b : Bool). if b then top_of (sent ++ past) else top_when (sent ++ past) n) (ne_eqb number n (λ e. absurd
    (omega (arith, s.0))))
    ∙ top_when_behind past sent s.2 n le
top_when_behind past (Ticked t sight ∷ sent) s n le = absurd s
top_when_behind past (Made c k m i ∷ sent) s n le = absurd s
top_when_behind past (Waits m ∷ sent) s n le = absurd s
top_when_behind past (Took k es ds ∷ sent) s n le = absurd s
top_when_behind past (Ended g ∷ sent) s n le = absurd s

-- a head, by the numbers taken and the base of its history
abbrev head_by : (taken : List ℕ) (base : ℕ) → Head
head_by taken base =
    record {
      top = greatest_of taken % 16384;
      words = map (λ w. number_of (map (λ i. is_among (greatest_of taken - 32 * w - i) taken) (range_with_len 0 32)))
          (range_with_len 0 (least_from (λ w. nat_le (greatest_of taken - base) (32 * w)) 7 1));
    }

pub head_same : (v : Version) (past later : Past) → taken_of later ≡ taken_of past
    → top_when later (high_of later) ≡ top_when past (high_of past)
    → head_of v later ≡ head_of v past
head_same One past later t b = refl
head_same Two past later t b = ap (λ (ns : List ℕ). head_by ns (top_when later (high_of later))) t
    ∙ ap (head_by (taken_of past)) b

pub head_behind : (v : Version) (past sent : Past) → AreSendings past sent → head_of v (sent ++ past) ≡ head_of v past
head_behind v past sent s =
    head_same v past (sent ++ past) (taken_behind past sent s)
    (ap (top_when (sent ++ past)) (high_behind past sent s)
    ∙ top_when_behind past sent s (high_of past) (omega arith))
