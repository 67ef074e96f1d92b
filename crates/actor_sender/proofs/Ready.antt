-- From what is packed before the first turn to the turns.
use Rattle.std.proofs.Common.{◌≡◌, ◌≢◌, ◌∙◌, ℕ, zero, suc, ◌+◌, ◌*◌, ◌<◌, ◌≤◌, List, [], ◌∷◌, ◌++◌, map, length, Bool, true, false, not, cond, ◌&&◌, ◌||◌, ap, sym, refl, subst, arith, Option, Some, None, option_map, inl, inr}
use Rattle.std.specs.List.{list_any, slice_get, slice_index_or, filter, All, AllByRecursion}
use Rattle.std.proofs.lemmas.Bool.{cases_Bool, cond_both, false≢true}
use Rattle.std.proofs.lemmas.List.{length-map}
use Rattle.std.proofs.lemmas.List.Elements.{All-get_or}
use Rattle.std.proofs.lemmas.Option.{get_or_from_slice_get, slice_get-map, slice_get_within}
use Rattle.protocol_model.specs.Search.{insert_in_order, in_order}
use Rattle.protocol_model.specs.Side.{AtServer}
use Rattle.protocol_model.specs.Sight.{Seen}
use Rattle.connection_model.specs.Feed.{End, Past, Sent, Item, tick_count, sight_of, is_relevant_in, seen_in}
use Rattle.connection_model.specs.Fates.{last_sent, high_of}
use Rattle.connection_model.specs.Items.{is_update_of, is_quiet, goes_before, score_of, wants_open}
use Rattle.connection_model.specs.Pack.{Packing}
use Rattle.connection_model.specs.State.{state_of, is_open, is_opened, is_closed, index_of, ActorState, Closed, Opening, Opened, Closing, Asleep}
use Rattle.connection_laws.specs.Run.{Ascends}
use Rattle.connection_laws.proofs.ActorsShown.{all_mapped, all_filtered}
use Rattle.packing_laws.specs.Sendings.{AreSendings, CarryUnarrived, sent_all}
use Rattle.packing_laws.proofs.Packings.{last_sent_all, sent_all-cons, ticks_all, unseen_all}
use Rattle.class_layout.specs.Tables.{Layout}
use Rattle.link_end.specs.Link.{Link}
use Rattle.link_end.specs.Packs.{sent_now}
use Rattle.channel_table.specs.Channels.{Channels}
use Rattle.shadow_changes.specs.Samples.{Shadows, Samples, samples_of}
use Rattle.sender_laws.specs.Items.{has_update}
use Rattle.sender_laws.specs.States.{is_pending}
use Rattle.sender_records.specs.declared.actor.ActorRecord.{ActorRecord}
use Rattle.sender_records.specs.declared.life.Life.{Life}
use Rattle.sender_records.specs.declared.service.Service.{Service}
use Rattle.sender_records.specs.Life.{state_value}
use Rattle.sight_laws.specs.Sights.{AscendsFrom, IsSight}
use Rattle.sight_laws.proofs.Scoring.{all_weaken, above_all, get_of_all}
use Rattle.turn_laws.specs.Turns.{closed_up, has_turn, scored_turns, turns_of}
use Rattle.turn_laws.proofs.Sorting.{ApartBy, apart_in_order}
use Rattle.turn_laws.proofs.Stepping.{closed_sight}
use Rattle.sender_steps.specs.declared.sight.Seen.{Seen as SeenValue}
use Rattle.sender_steps.specs.Sender.{Sender, record_in, record_at, state_kept, packet_in}
use Rattle.sender_steps.specs.Sights.{seen_value, sight_value, actors_in}
use Rattle.sender_steps.specs.Stands.{Keeps, AreKept, is_update_sent}
use Rattle.sender_steps.proofs.Showing.{entry_seen, entry_relevant}
use Rattle.sender_turns.specs.declared.turns.Turn.{Turn}
use Rattle.sender_turns.specs.Ticking.{InTick, IsUnserved, CanOpen}
use Rattle.sender_turns.specs.Turning.{no_entry, turn_entry, IsTurn, AreCompared, BeforeTurns}
use Rattle.sender_turns.proofs.Finding.{was_shown}
use Rattle.sender_turns.proofs.Unserved.{actors_ascend, values_agree}
use Rattle.actor_sender.specs.Given.{IsEntryGiven, AreValues}
use Rattle.actor_sender.specs.Serving.{IsFed, AreEarlier, IsServable, IsNext, AreNext}
use Rattle.actor_sender.proofs.Begins.{state_now}
use Rattle.actor_sender.proofs.Same.{ticks_closed, quiet_shut, quiet_waits}

-- ---- packets so far

first : (x y : Bool) → (x || y) ≡ false → x ≡ false
first false y e = refl
first true y e = absurd (false≢true (sym e))

second : (x y : Bool) → (x || y) ≡ false → y ≡ false
second false y e = e
second true y e = absurd (false≢true (sym e))

-- the packets as they are sent behind the past; they hold no update of an actor that isn't served
pub record SentWith (past : Past) (packets : List (List Item)) : Type 0 where
  pub sent : Past
  pub is : sent_all past packets ≡ sent ++ past
  pub sendings : AreSendings past sent
  pub unsent : (a : ℕ) → IsUnserved a packets → has_update a sent ≡ false

sent_with : (past : Past) (packets : List (List Item)) → high_of past ≤ last_sent past → CarryUnarrived past packets
    → SentWith past packets
sent_with past [] high carry = record { sent = []; is = refl; sendings = tt; unsent = λ a none. refl }
sent_with past (items ∷ packets) high carry =
    let before : SentWith past packets = sent_with past packets high carry.1 in
    let number : ℕ = last_sent (sent_all past packets) + 1 in
    record {
      sent = Sent number (tick_count (sent_all past packets)) items ∷ before.sent;
      is = sent_all-cons past items packets
          ∙ ap (λ (l : Past). Sent number (tick_count (sent_all past packets)) items ∷ l) before.is;
      sendings = (omega (arith, high, last_sent_all past packets), carry.0, before.sendings);
      unsent = λ a none.
          ap (λ (b : Bool). b || has_update a before.sent)
          (first (list_any (is_update_of a) items) (list_any (list_any (is_update_of a)) packets) none)
          ∙ before.unsent a (second (list_any (is_update_of a) items) (list_any (list_any (is_update_of a)) packets)
          none);
    }

-- ---- entries of a sight

pub entry_in : (layout : Layout) (sight : List SeenValue) (low i : ℕ) (s : SeenValue)
    → AscendsFrom low (sight_value layout sight) → slice_get sight i ≡ Some s
    → (low < s.actor) × ((s.destroyed && s.relevant) ≡ false)
entry_in layout [] low i s h at = absurd (let no : (let o : Option SeenValue = None in o) ≡ Some s = at in cc)
entry_in layout (x ∷ sight) low zero s h at =
    let same : x ≡ s = cc in
    subst (λ (y : SeenValue). (low < y.actor) × ((y.destroyed && y.relevant) ≡ false)) same (h.0, h.1)
entry_in layout (x ∷ sight) low (suc i) s h at =
    let r = entry_in layout sight x.actor i s h.2 at in (omega (arith, h.0, r.0), r.1)

alive : (d r : Bool) → (d && r) ≡ false → r ≡ true → d ≡ false
alive true true e f = absurd (false≢true (sym e))
alive true false e f = absurd (false≢true f)
alive false r e f = refl

pub entry_at : (layout : Layout) (sight : List SeenValue) (n : ℕ) (x : SeenValue) → slice_get sight n ≡ Some x
    → slice_index_or (sight_value layout sight) n no_entry ≡ seen_value layout x
entry_at layout [] n x e = absurd (let no : (let o : Option SeenValue = None in o) ≡ Some x = e in cc)
entry_at layout (y ∷ sight) zero x e = (let same : y ≡ x = cc in ap (seen_value layout) same)
entry_at layout (y ∷ sight) (suc n) x e = entry_at layout sight n x e

-- an entry that has something to send can be sent
module _ (layout : Layout) (changes : Shadows) (sight : List SeenValue) (end : End) (past : Past) (samples : Samples)
    (fed : IsFed layout changes sight end past samples) where
  abbrev now : Past
  now = closed_up past (sight_value layout sight)

  ascends : Ascends 0 (actors_in sight)
  ascends = actors_ascend layout sight 0 fed.is_sight

  pub values_of : (i : ℕ) (s : SeenValue) → slice_get sight i ≡ Some s → s.relevant ≡ true
      → has_turn now (seen_value layout s) ≡ true → AreValues layout samples s
  values_of i s at relevant has =
      (fed.entries i s at).values relevant (elim (cases_Bool (is_quiet past (seen_value layout s))) [
        | inl q ↦ absurd (false≢true (sym (quiet_waits past (sight_value layout sight) (seen_value layout s)
            (entry_seen layout sight 0 i s ascends at)
            (alive s.destroyed s.relevant (entry_in layout sight 0 i s fed.is_sight at).1 relevant) q) ∙ has))
        | inr q ↦ q
      ])

  pub can_open : (i : ℕ) (s : SeenValue) → slice_get sight i ≡ Some s → s.relevant ≡ true
      → has_turn now (seen_value layout s) ≡ true → CanOpen layout samples s
  can_open i s at relevant has =
      let v : AreValues layout samples s = values_of i s at relevant has in
      record {
        actor = (entry_in layout sight 0 i s fed.is_sight at).0;
        class = (fed.entries i s at).class;
        few = v.few;
        fit = v.fit;
        sampled = (v.apart, values_agree samples (seen_value layout s) v.agrees);
      }

  -- one that is opened is not quiet either
  opened_values : (i : ℕ) (s : SeenValue) → slice_get sight i ≡ Some s → s.relevant ≡ true
      → is_opened (state_of now s.actor) ≡ true → is_quiet past (seen_value layout s) ≡ false
  opened_values i s at relevant opened = elim (cases_Bool (is_quiet past (seen_value layout s))) [
    | inl q ↦ absurd (false≢true (sym (
        quiet_shut past (sight_value layout sight) (seen_value layout s)
        (entry_seen layout sight 0 i s ascends at)
        (alive s.destroyed s.relevant (entry_in layout sight 0 i s fed.is_sight at).1 relevant) q) ∙ opened))
    | inr q ↦ q
  ]

  -- ---- before the first turn

  module _ (s : Sender) (l : Link) (t : Channels) (p : Packing) (h : InTick s l t end past p samples)
      (at_now : p.past ≡ now) (earlier : AreEarlier s past) (none : (a : ℕ) → IsUnserved a p.packets) where
    pub behind_now : SentWith p.past p.packets
    behind_now = sent_with p.past p.packets h.both.link.high h.both.unarrived

    abbrev pub sent : Past
    sent = behind_now.sent

    pub sent_is : sent_now p ≡ sent ++ now
    sent_is =
        behind_now.is
        ∙ ap (λ (x : Past). sent ++ x) at_now

    state_is : (a : ℕ) → state_value (record_at s a).life.state ≡ state_of now a
    state_is a =
        (h.sender.each a).life.state ∙ state_now l t end past p h.both a ∙ ap (λ (x : Past). state_of x a) at_now

    opened_open : (x : ActorState) → is_opened x ≡ true → is_open x ≡ true
    opened_open Opened e = refl
    opened_open Closed e = absurd (false≢true e)
    opened_open Opening e = absurd (false≢true e)
    opened_open Closing e = absurd (false≢true e)
    opened_open Asleep e = absurd (false≢true e)

    pub before_turns : BeforeTurns layout changes sent now samples s.ticks s.records sight
    before_turns = record {
      keeps = subst (λ (x : Past). AreKept x samples s.records) sent_is h.sender.each;
      sendings = subst (λ (x : Past). AreSendings x sent) at_now
          behind_now.sendings;
      unserved = λ a. behind_now.unsent a (none a);
      noted = fed.noted;
      ticks = h.sender.ticks ∙ ticks_all p.past p.packets ∙ ap (λ (x : Past). tick_count x) at_now;
      seen = closed_sight past (sight_value layout sight);
      ascends = fed.is_sight;
      classes = λ i e at. (fed.entries i e at).class;
      values = λ i e at relevant opened. (
          let v = (fed.entries i e at).values relevant (opened_values i e at relevant opened) in (v.apart, v.agrees));
      before = λ a opened. (
          let still : is_open (state_kept s a) ≡ true =
          opened_open (state_kept s a) (ap is_opened (state_is a) ∙ opened) in
          omega (
            arith,
            earlier a still,
            h.sender.ticks,
            ticks_all p.past p.packets,
            ap (λ (x : Past). tick_count x) at_now,
            ticks_closed past (sight_value layout sight),
          ));
    }

    -- a turn that was found can be served
    module _ (records : List (ℕ × ActorRecord)) (service : (a : ℕ) → (record_in records a).service
        ≡ (record_in s.records a).service) (compared : AreCompared layout now samples records sight) where
      pub servable : (turn : Turn) (is : IsTurn layout now sight turn)
          → IsServable layout now p samples (record s { records = records }) turn.opens is.entry
      servable turn is = record {
        has = is.has;
        opens_is = is.opens;
        wants = ap (λ (x : Past). wants_open x (seen_value layout is.entry)) at_now;
        index = ap (λ (x : Past). index_of x is.entry.actor) at_now;
        unserved = none is.entry.actor;
        shown = subst (λ (x : Service). 1 ≤ x.relevant_at) (sym (service is.entry.actor))
            (was_shown (sent_now p) is.entry.actor (record_at s is.entry.actor).service
            (h.sender.each is.entry.actor).service
            (ap (λ (ss : List Seen). is_relevant_in ss is.entry.actor)
            (unseen_all sight_of (λ before items. refl) p.past p.packets
            ∙ ap (λ (x : Past). sight_of x) at_now ∙ closed_sight past (sight_value layout sight))
            ∙ entry_relevant layout sight 0 turn.place is.entry ascends is.place ∙ is.relevant));
        compared = λ opened. compared turn.place is.entry is.place is.relevant opened;
        entry = can_open turn.place is.entry is.place is.relevant is.has;
      }

-- ---- each actor has one turn

sight_apart : (low : ℕ) (sight : List Seen) → AscendsFrom low sight → ApartBy (λ (s : Seen). s.actor) sight
sight_apart low [] h = tt
sight_apart low (seen ∷ sight) h = (
  all_weaken (λ (s : Seen). seen.actor < s.actor) (λ (s : Seen). s.actor ≡ seen.actor → ⊥)
      (λ s lt q. absurd (omega (arith, lt, q))) sight (above_all seen.actor sight h.2),
  sight_apart seen.actor sight h.2,
)

apart_filtered : {A : Type 0} (key : A → ℕ) (test : A → Bool) (xs : List A) → ApartBy key xs
    → ApartBy key (filter test xs)
apart_filtered key test [] h = tt
apart_filtered {A} key test (x ∷ xs) h =
    cond_both (test x) (x ∷ filter test xs) (filter test xs) (ApartBy key)
    (λ e. (all_filtered (λ (y : A). key y ≡ key x → ⊥) test xs h.0, apart_filtered key test xs h.1))
    (λ e. apart_filtered key test xs h.1)

apart_mapped : {A B : Type 0} (f : A → B) (key : B → ℕ) (xs : List A) → ApartBy (λ (x : A). key (f x)) xs
    → ApartBy key (map f xs)
apart_mapped f key [] h = tt
apart_mapped {A} {B} f key (x ∷ xs) h =
    (all_mapped (λ (y : B). key y ≡ key (f x) → ⊥) f xs h.0, apart_mapped f key xs h.1)

turns_apart : (now : Past) → IsSight (sight_of now) → ApartBy (λ (s : Seen). s.actor) (turns_of now)
turns_apart now order =
    apart_mapped (λ (scored : ℕ × Seen). scored.1) (λ (s : Seen). s.actor) (in_order goes_before (scored_turns now))
    (apart_in_order (λ (scored : ℕ × Seen). scored.1.actor) goes_before (scored_turns now)
    (apart_mapped (λ (seen : Seen). (score_of now seen, seen)) (λ (scored : ℕ × Seen). scored.1.actor)
    (filter (λ (seen : Seen). seen.relevant && has_turn now seen) (sight_of now))
    (apart_filtered (λ (s : Seen). s.actor) (λ (seen : Seen). seen.relevant && has_turn now seen) (sight_of now)
    (sight_apart 0 (sight_of now) order))))

apart_places : {A : Type 0} (key : A → ℕ) (xs : List A) → ApartBy key xs → (i j : ℕ) (x y : A) → i < j
    → slice_get xs i ≡ Some x → slice_get xs j ≡ Some y → key x ≢ key y
apart_places {A} key [] h i j x y lt at_x at_y =
    absurd (let no : (let o : Option A = None in o) ≡ Some x = at_x in cc)
apart_places {A} key (z ∷ xs) h zero zero x y lt at_x at_y = absurd (omega (arith, lt))
apart_places {A} key (z ∷ xs) h zero (suc j) x y lt at_x at_y =
    let same : z ≡ x = cc in
    λ e. get_of_all (λ (w : A). key w ≡ key z → ⊥) xs h.0 j y at_y (sym e ∙ ap key (sym same))
apart_places {A} key (z ∷ xs) h (suc i) zero x y lt at_x at_y = absurd (omega (arith, lt))
apart_places {A} key (z ∷ xs) h (suc i) (suc j) x y lt at_x at_y =
    apart_places key xs h.1 i j x y (omega (arith, lt)) at_x at_y

pub turn_at : (P : Turn → Type 0) (turns : List Turn) → All P turns → (i : ℕ) (t : Turn)
    → slice_get turns i ≡ Some t → P t
turn_at P turns all i t at =
    subst P (get_or_from_slice_get turns i t t at) (All-get_or P turns i t (slice_get_within turns i t at) all)

actor_is : (layout : Layout) (now : Past) (sight : List SeenValue) (t : Turn) → IsTurn layout now sight t
    → (turn_entry layout sight t).actor ≡ t.actor
actor_is layout now sight t is =
    ap (λ (s : Seen). s.actor) (entry_at layout sight t.place is.entry is.place) ∙ sym is.actor

pub actors_apart : (layout : Layout) (now : Past) (sight : List SeenValue) (turns : List Turn)
    → IsSight (sight_of now) → All (IsTurn layout now sight) turns
    → map (turn_entry layout sight) turns ≡ turns_of now → (i j : ℕ) (t u : Turn) → i < j
    → slice_get turns i ≡ Some t → slice_get turns j ≡ Some u → t.actor ≢ u.actor
actors_apart layout now sight turns order all are i j t u lt at_t at_u e =
    apart_places (λ (s : Seen). s.actor) (turns_of now) (turns_apart now order) i j (turn_entry layout sight t)
    (turn_entry layout sight u) lt (place i t at_t) (place j u at_u)
    (actor_is layout now sight t (turn_at (IsTurn layout now sight) turns all i t at_t) ∙ e
    ∙ sym (actor_is layout now sight u (turn_at (IsTurn layout now sight) turns all j u at_u)))
  where
    place : (n : ℕ) (x : Turn) → slice_get turns n ≡ Some x
        → slice_get (turns_of now) n ≡ Some (turn_entry layout sight x)
    place n x at =
        ap (λ (ss : List Seen). slice_get ss n) (sym are)
        ∙ slice_get-map (turn_entry layout sight) turns n
        ∙ ap (option_map (turn_entry layout sight)) at

-- ---- there are no more turns than entries

length_inserted : {A : Type 0} (before : A → A → Bool) (x : A) (ys : List A)
    → length (insert_in_order before x ys) ≡ length ys + 1
length_inserted before x [] = refl
length_inserted {A} before x (y ∷ ys) =
    by (before y x) (omega (arith, length_inserted before x ys)) (omega arith)
  where
    by : (b : Bool) → length (y ∷ insert_in_order before x ys) ≡ length (y ∷ ys) + 1
        → length (x ∷ y ∷ ys) ≡ length (y ∷ ys) + 1
        → length (cond b (y ∷ insert_in_order before x ys) (x ∷ y ∷ ys)) ≡ length (y ∷ ys) + 1
    by true e f = e
    by false e f = f

length_ordered : {A : Type 0} (before : A → A → Bool) (xs : List A) → length (in_order before xs) ≡ length xs
length_ordered before [] = refl
length_ordered before (x ∷ xs) =
    omega (arith, length_inserted before x (in_order before xs), length_ordered before xs)

pub length_filtered : {A : Type 0} (test : A → Bool) (xs : List A) → length (filter test xs) ≤ length xs
length_filtered test [] = omega arith
length_filtered {A} test (x ∷ xs) =
    by (test x) (omega (arith, length_filtered test xs)) (omega (arith, length_filtered test xs))
  where
    by : (b : Bool) → length (x ∷ filter test xs) ≤ length (x ∷ xs) → length (filter test xs) ≤ length (x ∷ xs)
        → length (cond b (x ∷ filter test xs) (filter test xs)) ≤ length (x ∷ xs)
    by true e f = e
    by false e f = f

pub few_turns : (layout : Layout) (now : Past) (sight : List SeenValue) (turns : List Turn)
    → sight_of now ≡ sight_value layout sight → map (turn_entry layout sight) turns ≡ turns_of now
    → length turns ≤ length sight
few_turns layout now sight turns seen are =
    let having : List Seen = filter (λ (seen : Seen). seen.relevant && has_turn now seen) (sight_of now) in
    let scored : Seen → ℕ × Seen = λ (seen : Seen). (score_of now seen, seen) in
    let own : ℕ × Seen → Seen = λ (x : ℕ × Seen). x.1 in
    let same : length (map (turn_entry layout sight) turns) ≡ length (turns_of now) = ap length are in
    let ordered : length (turns_of now) ≡ length (in_order goes_before (scored_turns now)) =
    length-map (in_order goes_before (scored_turns now)) own in
    let before : length (scored_turns now) ≡ length having = length-map having scored in
    let seen_all : length (sight_of now) ≡ length (sight_value layout sight) = ap length seen in
    omega (
      arith,
      length-map turns (turn_entry layout sight),
      same,
      ordered,
      length_ordered goes_before (scored_turns now),
      before,
      length_filtered (λ (seen : Seen). seen.relevant && has_turn now seen) (sight_of now),
      seen_all,
      length-map sight (seen_value layout),
    )

-- ---- a sender whose actors were compared

pub compared_keeps : (s : Sender) (past : Past) (samples : Samples) (records : List (ℕ × ActorRecord))
    → Keeps s past samples → AreKept past samples records
    → ((a : ℕ) → (record_in records a).life ≡ (record_in s.records a).life)
    → ((a h : ℕ) → packet_in records a h ≡ packet_in s.records a h)
    → Keeps (record s { records = records }) past samples
compared_keeps s past samples records k each life packets = record {
  each = each;
  under_way = λ a h o lt.
      ap (λ (n : ℕ). list_any (is_update_sent n a) s.updates) (packets a h)
      ∙ k.under_way a h (sym (ap (λ (x : Life). is_open (state_value x.state)) (life a)) ∙ o)
      (subst (λ (n : ℕ). high_of past < n) (packets a h) lt);
  pending = λ a o. k.pending a (sym (ap (λ (x : Life). is_pending
      (state_value x.state)) (life a)) ∙ o);
  live = λ a o. k.live a (sym (ap (λ (x : Life). is_closed (state_value x.state)) (life a)) ∙ o);
  opened = k.opened;
  ascends = k.ascends;
  known = k.known;
  opens = k.opens;
  low = k.low;
  below = k.below;
  ticks = k.ticks;
  kept = k.kept;
}
