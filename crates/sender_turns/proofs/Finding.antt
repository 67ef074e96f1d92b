-- The turns of a sight, found entry by entry.
use Rattle.std.proofs.Common.{◌≡◌, ◌≢◌, ◌∙◌, inl, inr, ℕ, zero, suc, ◌+◌, ◌<◌, ◌≤◌, ◌==◌, List, [], ◌∷◌, ◌++◌, map, take, length, Bool, true, false, not, cond, ◌&&◌, ◌||◌, nat_lt, ap, sym, refl, subst, arith, Option, Some, None}
use Rattle.std.specs.Bool.{then_some}
use Rattle.std.specs.List.{slice_get, slice_index_or, cons_option, filter, All}
use Rattle.std.specs.List.Sorted.{IsPermutation, IsSortedBy}
use Rattle.std.specs.Cmp.{IsStrictWeakOrder}
use Rattle.std.proofs.lemmas.Bool.{cases_eq, eq-eqb, false≢true}
use Rattle.std.proofs.lemmas.List.Sorted.{All-permutation}
use Rattle.protocol_model.specs.Search.{is_among}
use Rattle.protocol_model.specs.Sight.{Seen}
use Rattle.protocol_model.specs.Value.{Pair}
use Rattle.connection_model.specs.Feed.{Past, Ticked, Made, Waits, Sent, Took, Ended, tick_count, sight_of, is_relevant_in}
use Rattle.connection_model.specs.State.{ActorState, Closed, Opening, Opened, Closing, Asleep, state_of, is_opened, is_closed, is_asleep}
use Rattle.connection_model.specs.Carry.{due_pairs}
use Rattle.connection_model.specs.Items.{score_of, goes_before, wants_open, is_quiet}
use Rattle.connection_model.specs.Pack.{idle_ticks}
use Rattle.connection_laws.specs.Run.{Ascends}
use Rattle.class_layout.specs.Tables.{Layout}
use Rattle.shadow_changes.specs.Samples.{Shadows, Samples, samples_of}
use Rattle.sender_records.specs.declared.actor.ActorRecord.{ActorRecord}
use Rattle.sender_records.specs.declared.life.Life.{Life}
use Rattle.sender_records.specs.declared.service.Service.{Service}
use Rattle.sender_records.specs.Handles.{HandlesKept, handle_in}
use Rattle.sender_records.specs.Service.{KeepsService}
use Rattle.sender_records.specs.Actors.{KeepsActor}
use Rattle.sender_laws.proofs.Ticks.{idle_shown}
use Rattle.sight_laws.specs.Sights.{IsSight}
use Rattle.turn_laws.specs.Turns.{has_turn, turns_of}
use Rattle.turn_laws.proofs.Serving.{before_orders, sorted_turns}
use Rattle.sender_steps.specs.declared.sight.Seen.{Seen as SeenValue}
use Rattle.sender_turns.specs.declared.turns.Turn.{Turn}
use Rattle.sender_steps.specs.Sender.{record_in, packet_in}
use Rattle.sender_steps.specs.Sights.{seen_value, sight_value, actors_in}
use Rattle.sender_steps.specs.Stands.{AreKept}
use Rattle.sender_turns.specs.Turning.{goes_first, marked_pairs, turn_in, turned, no_entry, turn_entry, IsTurn, IsCompared, IsReady, HasTurned, AreReady}
use Rattle.sender_steps.proofs.Records.{everywhere}
use Rattle.sender_steps.proofs.Showing.{apart_before, among_more}

-- ---- one entry

-- the turn of an entry, to be opened or not
abbrev pub turn_as : Layout → Past → (place : ℕ) → SeenValue → (opens : Bool) → Turn
turn_as layout past place s opens =
    record { score = score_of past (seen_value layout s); actor = s.actor; place = place; opens = opens }

awake : (x : ActorState) (q : Bool) → is_opened x ≡ true → (is_closed x || (is_asleep x && q)) ≡ false
awake Opened q e = refl
awake Closed q e = absurd (false≢true e)
awake Opening q e = absurd (false≢true e)
awake Closing q e = absurd (false≢true e)
awake Asleep q e = absurd (false≢true e)

turn_by : (make : Bool → Turn) (r w o n m : Bool) → r ≡ true → w ≡ false → o ≡ true → n ≡ m
    → then_some (r && (w || (o && n))) (make w) ≡ then_some m (make false)
turn_by make true false true n m r w o e = ap (λ (b : Bool). then_some b (make false)) e
turn_by make true false false n m r w o e = absurd (false≢true o)
turn_by make true true o' n m r w o e = absurd (false≢true (sym w))
turn_by make false w' o' n m r w o e = absurd (false≢true r)

-- an actor that is opened has its turn where a handle is marked
pub opened_turn : (layout : Layout) (past : Past) (place : ℕ) (s : SeenValue) (t : HandlesKept) → s.relevant ≡ true
    → is_opened (state_of past s.actor) ≡ true → due_pairs past (seen_value layout s) ≡ marked_pairs t
    (seen_value layout s)
    → turn_in layout past place s
    ≡ then_some (nat_lt 0 (length (marked_pairs t (seen_value layout s)))) (turn_as layout past place s false)
opened_turn layout past place s t relevant opened due =
    turn_by (turn_as layout past place s) s.relevant (wants_open past (seen_value layout s))
    (is_opened (state_of past s.actor))
    (nat_lt 0 (length (due_pairs past (seen_value layout s))))
    (nat_lt 0 (length (marked_pairs t (seen_value layout s))))
    relevant (awake (state_of past s.actor) (not (is_quiet past (seen_value layout s))) opened) opened
    (ap (λ (ps : List Pair). nat_lt 0 (length ps)) due)

unopened_by : (make : Bool → Turn) (r w o n : Bool) → r ≡ true → o ≡ false
    → then_some (r && (w || (o && n))) (make w) ≡ then_some w (make true)
unopened_by make true true o' n r o = refl
unopened_by make true false false n r o = refl
unopened_by make true false true n r o = absurd (false≢true (sym o))
unopened_by make false w o' n r o = absurd (false≢true r)

-- one that isn't has its turn where it wants an open
pub unopened_turn : (layout : Layout) (past : Past) (place : ℕ) (s : SeenValue) → s.relevant ≡ true
    → is_opened (state_of past s.actor) ≡ false
    → turn_in layout past place s ≡ then_some (wants_open past (seen_value layout s)) (turn_as layout past place s true)
unopened_turn layout past place s relevant not_opened =
    unopened_by (turn_as layout past place s) s.relevant (wants_open past (seen_value layout s))
    (is_opened (state_of past s.actor))
    (nat_lt 0 (length (due_pairs past (seen_value layout s)))) relevant not_opened

-- ---- whom the last sight shows

-- an actor that the last sight shows as relevant has no idle ticks, and there was a tick
shown_now : (past : Past) (a : ℕ) → is_relevant_in (sight_of past) a ≡ true
    → (idle_ticks past a ≡ 0) × (1 ≤ tick_count past)
shown_now [] a e = absurd (false≢true e)
shown_now (Ticked t sight ∷ past) a e = (idle_shown past t sight a e, omega arith)
shown_now (Made c n m i ∷ past) a e = shown_now past a e
shown_now (Waits m ∷ past) a e = shown_now past a e
shown_now (Sent n t items ∷ past) a e = shown_now past a e
shown_now (Took n es ds ∷ past) a e = shown_now past a e
shown_now (Ended g ∷ past) a e = shown_now past a e

pub was_shown : (past : Past) (a : ℕ) (service : Service) → KeepsService past a service
    → is_relevant_in (sight_of past) a ≡ true
    → 1 ≤ service.relevant_at
was_shown past a service k e = (let q = shown_now past a e in omega (arith, k.relevant, q.0, q.1))

-- ---- entry by entry

cons_append : {A : Type 0} (o : Option A) (xs ys : List A) → cons_option o (xs ++ ys) ≡ cons_option o xs ++ ys
cons_append None xs ys = refl
cons_append (Some x) xs ys = refl

turned_more : (layout : Layout) (past : Past) (n : ℕ) (sight : List SeenValue) (count : ℕ) (s : SeenValue)
    → slice_get sight count ≡ Some s
    → turned layout past n (take (count + 1) sight)
    ≡ turned layout past n (take count sight) ++ cons_option (turn_in layout past (n + count) s) []
turned_more layout past n [] count s at = absurd (let no : (let o : Option SeenValue = None in o) ≡ Some s = at in cc)
turned_more layout past n (x ∷ sight) zero s at =
    let same : x ≡ s = cc in
    let here : n ≡ n + 0 = omega arith in
    ap (λ (y : SeenValue). cons_option (turn_in layout past n y) []) same
    ∙ ap (λ (k : ℕ). cons_option (turn_in layout past k s) []) here
turned_more layout past n (x ∷ sight) (suc count) s at =
    let up : suc count + 1 ≡ suc (count + 1) = omega arith in
    let over : n + 1 + count ≡ n + suc count = omega arith in
    rw up (ap (cons_option (turn_in layout past n x)) (turned_more layout past (n + 1) sight count s at)
    ∙ cons_append (turn_in layout past n x) (turned layout past (n + 1) (take count sight))
    (cons_option (turn_in layout past (n + 1 + count) s) [])
    ∙ ap (λ (k : ℕ). cons_option (turn_in layout past n x) (turned layout past (n + 1) (take count sight))
    ++ cons_option (turn_in layout past k s) []) over)

-- the first so many entries had their turn
pub record TurnedSoFar (layout : Layout) (changes : Shadows) (tick : ℕ) (sight : List SeenValue) (count : ℕ)
    (start now : List (ℕ × ActorRecord)) (turns : List Turn) : Type 0 where
  pub life : (a : ℕ) → (record_in now a).life ≡ (record_in start a).life
  pub service : (a : ℕ) → (record_in now a).service ≡ (record_in start a).service
  pub rest : (past : Past) (samples : Samples) → AreReady layout changes past samples tick start sight
      → (a : ℕ) → is_among a (actors_in (take count sight)) ≡ false → record_in now a ≡ record_in start a
  pub packets : (past : Past) (samples : Samples) → AreReady layout changes past samples tick start sight
      → (a h : ℕ) → packet_in now a h ≡ packet_in start a h
  pub keeps : (past : Past) (samples : Samples) → AreReady layout changes past samples tick start sight
      → AreKept past samples now
  pub compared : (past : Past) (samples : Samples) → AreReady layout changes past samples tick start sight
      → (i : ℕ) (s : SeenValue) → i < count → slice_get sight i ≡ Some s → s.relevant ≡ true
      → is_opened (state_of past s.actor) ≡ true
      → IsCompared layout past (samples_of samples s.actor) s (record_in now s.actor).handles
  pub found : (past : Past) (samples : Samples) → AreReady layout changes past samples tick start sight
      → turns ≡ turned layout past 0 (take count sight)

pub none_turned : (layout : Layout) (changes : Shadows) (tick : ℕ) (sight : List SeenValue)
    (start : List (ℕ × ActorRecord))
    → TurnedSoFar layout changes tick sight 0 start start []
none_turned layout changes tick sight start = record {
  life = λ a. refl;
  service = λ a. refl;
  rest = λ past samples t a e. refl;
  packets = λ past samples t a h. refl;
  keeps = λ past samples t. t.keeps;
  compared = λ past samples t i s lt. absurd (omega (arith, lt));
  found = λ past samples t. refl;
}

-- one entry had
pub record TurnedOne (layout : Layout) (changes : Shadows) (tick place : ℕ) (s : SeenValue)
    (now new : List (ℕ × ActorRecord))
    (turn : Option Turn) : Type 0 where
  pub others : (a : ℕ) → s.actor ≢ a → record_in new a ≡ record_in now a
  pub life : (record_in new s.actor).life ≡ (record_in now s.actor).life
  pub service : (record_in new s.actor).service ≡ (record_in now s.actor).service
  pub packets : (past : Past) (samples : Samples) → IsReady layout changes past samples tick s (record_in now s.actor)
      → (h : ℕ) → packet_in new s.actor h ≡ packet_in now s.actor h
  pub has : (past : Past) (samples : Samples) → IsReady layout changes past samples tick s (record_in now s.actor)
      → HasTurned layout past samples place s (record_in new s.actor) turn

-- entries at different places of a sight that ascends are of different actors
pub places_apart : (sight : List SeenValue) (low i j : ℕ) (s x : SeenValue) → Ascends low (actors_in sight) → i < j
    → slice_get sight i ≡ Some s → slice_get sight j ≡ Some x → x.actor ≢ s.actor
places_apart sight low i j s x h lt at_s at_x e =
    false≢true (sym (apart_before sight low j x h at_x)
    ∙ ap (λ (a : ℕ). is_among a (actors_in (take j sight))) e ∙ entry_in sight j i s lt at_s)
  where
    entry_in : (sight : List SeenValue) (j i : ℕ) (s : SeenValue) → i < j → slice_get sight i ≡ Some s
        → is_among s.actor (actors_in (take j sight)) ≡ true
    entry_in [] j i s lt at = absurd (let no : (let o : Option SeenValue = None in o) ≡ Some s = at in cc)
    entry_in (y ∷ sight) zero i s lt at = absurd (omega (arith, lt))
    entry_in (y ∷ sight) (suc j) zero s lt at =
        (let same : y ≡ s = cc in ap (λ (z : SeenValue). (z.actor == s.actor) || is_among s.actor
        (actors_in (take j sight))) same
        ∙ ap (λ (b : Bool). b || is_among s.actor (actors_in (take j sight))) (eq-eqb s.actor s.actor refl))
    entry_in (y ∷ sight) (suc j) (suc i) s lt at = any (y.actor == s.actor)
        (entry_in sight j i s (omega (arith, lt)) at)
      where
        any : (b : Bool) → is_among s.actor (actors_in (take j sight)) ≡ true
            → (b || is_among s.actor (actors_in (take j sight))) ≡ true
        any true e = refl
        any false e = e

pub turns_more : (layout : Layout) (changes : Shadows) (tick : ℕ) (sight : List SeenValue) (count : ℕ) (s : SeenValue)
    (start now new : List (ℕ × ActorRecord)) (turns later : List Turn) (turn : Option Turn)
    → slice_get sight count ≡ Some s
    → TurnedOne layout changes tick count s now new turn → later ≡ turns ++ cons_option turn []
    → TurnedSoFar layout changes tick sight count start now turns
    → TurnedSoFar layout changes tick sight (count + 1) start new later
turns_more layout changes tick sight count s start now new turns later turn at one is h = record {
  life = λ a. everywhere Life (λ (r : ActorRecord). r.life) s.actor now new one.others one.life a ∙ h.life a;
  service = λ a. everywhere Service (λ (r : ActorRecord). r.service) s.actor now new one.others one.service a
      ∙ h.service a;
  rest = λ past samples t a e.
      (let q = none (is_among a (actors_in (take count sight))) (s.actor == a) (sym (among_more sight count s a at)
      ∙ e) in
      one.others a (λ same. false≢true (sym q.1 ∙ eq-eqb s.actor a same)) ∙ h.rest past samples t a q.0);
  packets = λ past samples t a n.
      everywhere ℕ (λ (r : ActorRecord). (handle_in r.handles.handles n).packet) s.actor now new one.others
      (one.packets past samples (readied past samples t) n) a
      ∙ h.packets past samples t a n;
  keeps = λ past samples t a. elim (cases_eq s.actor a) [
    | inl same ↦ subst (λ (b : ℕ). KeepsActor past (samples_of samples b) b (record_in new b)) same
        ((has past samples t).keeps)
    | inr ne ↦ subst (KeepsActor past (samples_of samples a) a) (sym (one.others a ne)) (h.keeps past samples t a)
  ];
  compared = λ past samples t i x lt at_x relevant opened. elim (cases_eq i count) [
    | inl same ↦ (let is_x : s ≡ x = some_once s x (sym at ∙ ap (slice_get sight) (sym same) ∙ at_x) in
        subst (λ (y : SeenValue). IsCompared layout past (samples_of samples y.actor) y
        (record_in new y.actor).handles) is_x
        ((has past samples t).compared (ap (λ (y : SeenValue). y.relevant) is_x ∙ relevant)
        (ap (λ (y : SeenValue). is_opened (state_of past y.actor)) is_x ∙ opened)))
    | inr ne ↦ (let before : i < count = omega (arith, lt, ne) in
        subst (λ (r : ActorRecord). IsCompared layout past (samples_of samples x.actor) x r.handles)
        (sym (one.others x.actor (places_apart sight 0 i count x s t.ascends before at_x at)))
        (h.compared past samples t i x before at_x relevant opened))
  ];
  found = λ past samples t.
      is ∙ ap (λ (o : Option Turn). turns ++ cons_option o []) ((has past samples t).found)
      ∙ ap (λ (ts : List Turn). ts ++ cons_option (turn_in layout past count s) []) (h.found past samples t)
      ∙ ap (λ (k : ℕ). turned layout past 0 (take count sight) ++ cons_option (turn_in layout past k s) []) from_start
      ∙ sym (turned_more layout past 0 sight count s at);
}
  where
    from_start : count ≡ 0 + count
    from_start = omega arith

    readied : (past : Past) (samples : Samples) → AreReady layout changes past samples tick start sight
        → IsReady layout changes past samples tick s (record_in now s.actor)
    readied past samples t =
        subst (IsReady layout changes past samples tick s)
        (sym (h.rest past samples t s.actor (apart_before sight 0 count s t.ascends at))) (t.each count s at)

    has : (past : Past) (samples : Samples) → AreReady layout changes past samples tick start sight
        → HasTurned layout past samples count s (record_in new s.actor) turn
    has past samples t = one.has past samples (readied past samples t)

    none : (x y : Bool) → (x || y) ≡ false → (x ≡ false) × (y ≡ false)
    none true y e = absurd (false≢true (sym e))
    none false y e = (refl, e)

    some_once : (y x : SeenValue) → Some y ≡ Some x → y ≡ x
    some_once y x e = cc

-- ---- the turns of a sight

-- what a list has from a place on
abbrev pub StandsAt : (all : List SeenValue) → ℕ → List SeenValue → Type 0
StandsAt all n xs = (i : ℕ) (s : SeenValue) → slice_get xs i ≡ Some s → slice_get all (n + i) ≡ Some s

whole : (all : List SeenValue) → StandsAt all 0 all
whole all i s e = (let here : i ≡ 0 + i = omega arith in subst (λ (k : ℕ). slice_get all k ≡ Some s) here e)

behind : (all : List SeenValue) (n : ℕ) (x : SeenValue) (xs : List SeenValue) → StandsAt all n (x ∷ xs)
    → StandsAt all (n + 1) xs
behind all n x xs h i s e =
    (let over : n + suc i ≡ n + 1 + i = omega arith in subst (λ (k : ℕ). slice_get all k ≡ Some s) over (h (suc i) s e))

first_stands : (all : List SeenValue) (n : ℕ) (x : SeenValue) (xs : List SeenValue) → StandsAt all n (x ∷ xs)
    → slice_get all n ≡ Some x
first_stands all n x xs h = (let here : n + 0 ≡ n = omega arith in
    subst (λ (k : ℕ). slice_get all k ≡ Some x) here (h 0 x refl))

entry_at : (layout : Layout) (all : List SeenValue) (n : ℕ) (x : SeenValue) → slice_get all n ≡ Some x
    → slice_index_or (sight_value layout all) n no_entry ≡ seen_value layout x
entry_at layout [] n x e = absurd (let no : (let o : Option SeenValue = None in o) ≡ Some x = e in cc)
entry_at layout (y ∷ all) zero x e = (let same : y ≡ x = cc in ap (seen_value layout) same)
entry_at layout (y ∷ all) (suc n) x e = entry_at layout all n x e

turned_scored : (layout : Layout) (past : Past) (all : List SeenValue) (n : ℕ) (xs : List SeenValue) → StandsAt all n xs
    → map {B = ℕ × Seen} (λ (t : Turn). (t.score, turn_entry layout all t)) (turned layout past n xs)
    ≡ map {B = ℕ × Seen} (λ (seen : Seen). (score_of past seen, seen))
    (filter (λ (seen : Seen). seen.relevant && has_turn past seen) (sight_value layout xs))
turned_scored layout past all n [] h = refl
turned_scored layout past all n (x ∷ xs) h =
    by (x.relevant && has_turn past (seen_value layout x)) (turned_scored layout past all (n + 1) xs
    (behind all n x xs h))
  where
    turns : List Turn
    turns = turned layout past (n + 1) xs

    kept : List Seen
    kept = filter (λ (seen : Seen). seen.relevant && has_turn past seen) (sight_value layout xs)

    by : (b : Bool) → map {B = ℕ × Seen} (λ (t : Turn). (t.score, turn_entry layout all t)) turns ≡ map {B = ℕ × Seen}
        (λ (seen : Seen). (score_of past seen, seen)) kept
        → map {B = ℕ × Seen} (λ (t : Turn). (t.score, turn_entry layout all t))
        (cons_option (then_some b (turn_as layout past n x (wants_open past (seen_value layout x)))) turns)
        ≡ map {B = ℕ × Seen} (λ (seen : Seen). (score_of past seen, seen)) (cond b (seen_value layout x ∷ kept) kept)
    by true e =
        ap (λ (seen : Seen). (score_of past (seen_value layout x), seen) ∷ map {B = ℕ × Seen}
        (λ (t : Turn). (t.score, turn_entry layout all t)) turns)
        (entry_at layout all n x (first_stands all n x xs h))
        ∙ ap (λ (l : List (ℕ × Seen)). (score_of past (seen_value layout x), seen_value layout x) ∷ l) e
    by false e = e

all_cons : (P : Turn → Type 0) (t : Turn) (ts : List Turn) → P t → All P ts → All P (t ∷ ts)
all_cons P t ts h hs zero d lt = h
all_cons P t ts h hs (suc k) d lt = hs k d (omega (arith, lt))

each_turned : (layout : Layout) (past : Past) (all : List SeenValue) (n : ℕ) (xs : List SeenValue) → StandsAt all n xs
    → All (IsTurn layout past all) (turned layout past n xs)
each_turned layout past all n [] h = λ k d lt. absurd (omega (arith, lt))
each_turned layout past all n (x ∷ xs) h =
    by (x.relevant && has_turn past (seen_value layout x)) refl
    (each_turned layout past all (n + 1) xs (behind all n x xs h))
  where
    both : (a b : Bool) → (a && b) ≡ true → (a ≡ true) × (b ≡ true)
    both true b e = (refl, e)
    both false b e = absurd (false≢true e)

    by : (b : Bool) → (x.relevant && has_turn past (seen_value layout x)) ≡ b
        → All (IsTurn layout past all) (turned layout past (n + 1) xs)
        → All (IsTurn layout past all)
        (cons_option (then_some b (turn_as layout past n x (wants_open past (seen_value layout x))))
        (turned layout past (n + 1) xs))
    by true e rest =
        (let q = both x.relevant (has_turn past (seen_value layout x)) e in
        all_cons (IsTurn layout past all) (turn_as layout past n x (wants_open past (seen_value layout x)))
        (turned layout past (n + 1) xs)
        (record {
          entry = x;
          place = first_stands all n x xs h;
          actor = refl;
          relevant = q.0;
          has = q.1;
          opens =
              refl;
        }) rest)
    by false e rest = rest

-- ---- sorted

pub first_orders : IsStrictWeakOrder goes_first
first_orders = record {
  one_way = λ x y h. before_orders.one_way (of x) (of y) h;
  chain = λ x y z h g. before_orders.chain (of x) (of y) (of z) h g;
}
  where
    of : Turn → ℕ × Seen
    of t = (t.score, record no_entry { actor = t.actor })

-- what is sorted by score and guid is sorted by score and the guid of the entry
sorted_entries : (layout : Layout) (past : Past) (sight : List SeenValue) (turns : List Turn)
    → All (IsTurn layout past sight) turns → IsSortedBy goes_first turns
    → IsSortedBy (λ (x y : Turn). goes_before (x.score, turn_entry layout sight x)
    (y.score, turn_entry layout sight y)) turns
sorted_entries layout past sight turns each sorted k d lo hi =
    same (slice_index_or turns (k + 1) d) (slice_index_or turns k d)
    (of (slice_index_or turns (k + 1) d) (each (k + 1) d hi))
    (of (slice_index_or turns k d) (each k d (omega (arith, hi))))
    ∙ sorted k d lo hi
  where
    of : (t : Turn) → IsTurn layout past sight t → (turn_entry layout sight t).actor ≡ t.actor
    of t is = ap (λ (seen : Seen). seen.actor) (entry_at layout sight t.place is.entry is.place) ∙ sym is.actor

    same : (x y : Turn) → (turn_entry layout sight x).actor ≡ x.actor → (turn_entry layout sight y).actor ≡ y.actor
        → goes_before (x.score, turn_entry layout sight x) (y.score, turn_entry layout sight y) ≡ goes_first x y
    same x y e f =
        ap (λ (a : ℕ). nat_lt y.score x.score || (y.score == x.score && nat_lt a (turn_entry layout sight y).actor)) e
        ∙ ap (λ (a : ℕ). nat_lt y.score x.score || (y.score == x.score && nat_lt x.actor a)) f

-- the turns as they are found and sorted
pub turns_found : (layout : Layout) (past : Past) (sight : List SeenValue) (found turns : List Turn)
    → found ≡ turned layout past 0 sight → IsPermutation found turns → All (IsTurn layout past sight) turns
turns_found layout past sight found turns is p =
    All-permutation (IsTurn layout past sight) found turns p
    (subst (All (IsTurn layout past sight)) (sym is) (each_turned layout past sight 0 sight (whole sight)))

pub turns_sorted : (layout : Layout) (past : Past) (sight : List SeenValue) (found turns : List Turn)
    → sight_of past ≡ sight_value layout sight → IsSight (sight_value layout sight)
    → found ≡ turned layout past 0 sight → IsPermutation found turns → IsSortedBy goes_first turns
    → map (turn_entry layout sight) turns ≡ turns_of past
turns_sorted layout past sight found turns seen ascends is p sorted =
    sorted_turns past (λ (x : Turn). (x.score, turn_entry layout sight x)) found turns
    (subst IsSight (sym seen) ascends)
    (ap (map {B = ℕ × Seen} (λ (x : Turn). (x.score, turn_entry layout sight x))) is
    ∙ turned_scored layout past sight 0 sight (whole sight)
    ∙ ap (λ (entries : List Seen). map {B = ℕ × Seen} (λ (seen : Seen). (score_of past seen, seen))
    (filter (λ (seen : Seen). seen.relevant && has_turn past seen) entries)) (sym seen))
    p (sorted_entries layout past sight turns (turns_found layout past sight found turns is p) sorted)

pub found_all : (layout : Layout) (changes : Shadows) (tick : ℕ) (sight : List SeenValue) (count : ℕ)
    (start now : List (ℕ × ActorRecord)) (turns : List Turn) → take count sight ≡ sight
    → TurnedSoFar layout changes tick sight count start now turns → (past : Past) (samples : Samples)
    → AreReady layout changes past samples tick start sight → turns ≡ turned layout past 0 sight
found_all layout changes tick sight count start now turns all h past samples t =
    h.found past samples t ∙ ap (turned layout past 0) all

-- the actor of a turn that opens nothing is opened
pub turn_opened : (layout : Layout) (past : Past) (sight : List SeenValue) (t : Turn) (is : IsTurn layout past sight t)
    → t.opens ≡ false → is_opened (state_of past is.entry.actor) ≡ true
turn_opened layout past sight t is e =
    by (wants_open past (seen_value layout is.entry)) (is_opened (state_of past is.entry.actor))
    (nat_lt 0 (length (due_pairs past (seen_value layout is.entry)))) (sym is.opens ∙ e) is.has
  where
    by : (w o n : Bool) → w ≡ false → (w || (o && n)) ≡ true → o ≡ true
    by false true n e h = refl
    by false false n e h = absurd (false≢true h)
    by true o n e h = absurd (false≢true (sym e))
