-- A sight that ascends by actor, shown entry by entry.
use Rattle.std.proofs.Common.{◌≡◌, ◌≢◌, ◌∙◌, inl, inr, ℕ, zero, suc, ◌+◌, ◌<◌, ◌≤◌, ◌==◌, List, [], ◌∷◌, take, Bool, true, false, ◌&&◌, ◌||◌, ap, sym, refl, subst, arith, Option, Some, None, cond, find, option_map, unwrap_or}
use Rattle.std.specs.List.{slice_get}
use Rattle.std.proofs.lemmas.Bool.{cases_Bool, cases_eq, cases_lt, eq-eqb, eqb-true, ne_eqb, false≢true}
use Rattle.protocol_model.specs.Search.{is_among}
use Rattle.protocol_model.specs.Sight.{Seen}
use Rattle.connection_model.specs.Feed.{Past, Deed, Ticked, tick_count, is_relevant_in, seen_in}
use Rattle.connection_laws.specs.Run.{Ascends}
use Rattle.class_layout.specs.Tables.{Layout}
use Rattle.sender_records.specs.declared.actor.ActorRecord.{ActorRecord}
use Rattle.sender_records.specs.declared.life.Life.{Life}
use Rattle.sender_records.specs.Handles.{HandlesKept}
use Rattle.sender_records.specs.Service.{KeepsService, shows_owned}
use Rattle.sender_records.proofs.ServiceSteps.{unshown_keeps}
use Rattle.sender_steps.specs.declared.sight.Seen.{Seen as SeenValue}
use Rattle.sender_steps.specs.Sender.{record_in}
use Rattle.sender_steps.specs.Sights.{seen_value, sight_value, actors_in}
use Rattle.sender_steps.specs.Stands.{AreServed}
use Rattle.sender_steps.proofs.Records.{everywhere}

-- ---- entries of a sight

-- each of ascending numbers is above what they ascend from
pub above_low : (ns : List ℕ) (low n : ℕ) → Ascends low ns → is_among n ns ≡ true → low < n
above_low [] low n h e = absurd (false≢true e)
above_low (m ∷ ns) low n h e = by (m == n) refl e (above_low ns m n h.1)
  where
    by : (b : Bool) → (m == n) ≡ b → (b || is_among n ns) ≡ true → (is_among n ns ≡ true → m < n) → low < n
    by true q e more = omega (arith, h.0, eqb-true m n q)
    by false q e more = omega (arith, h.0, more e)

-- whom a sight doesn't have, it shows neither as relevant nor as owned
pub not_relevant : (layout : Layout) (sight : List SeenValue) (a : ℕ) → is_among a (actors_in sight) ≡ false
    → is_relevant_in (sight_value layout sight) a ≡ false
not_relevant layout [] a e = refl
not_relevant layout (s ∷ sight) a e = by (s.actor == a) refl e (not_relevant layout sight a)
  where
    by : (b : Bool) → (s.actor == a) ≡ b → (b || is_among a (actors_in sight)) ≡ false
        → (is_among a (actors_in sight) ≡ false → is_relevant_in (sight_value layout sight) a ≡ false)
        → ((b && s.relevant) || is_relevant_in (sight_value layout sight) a) ≡ false
    by true q e more = absurd (false≢true (sym e))
    by false q e more = more e

pub not_seen : (layout : Layout) (sight : List SeenValue) (a : ℕ) → is_among a (actors_in sight) ≡ false
    → seen_in (sight_value layout sight) a ≡ None
not_seen layout [] a e = refl
not_seen layout (s ∷ sight) a e = by (s.actor == a) refl e (not_seen layout sight a)
  where
    by : (b : Bool) → (s.actor == a) ≡ b → (b || is_among a (actors_in sight)) ≡ false
        → (is_among a (actors_in sight) ≡ false → seen_in (sight_value layout sight) a ≡ None)
        → seen_in (sight_value layout (s ∷ sight)) a ≡ None
    by true q e more = absurd (false≢true (sym e))
    by false q e more = rw q (more e)

-- an entry of a sight that ascends is among it
entry_among : (sight : List SeenValue) (i : ℕ) (s : SeenValue) → slice_get sight i ≡ Some s
    → is_among s.actor (actors_in sight) ≡ true
entry_among [] i s at = absurd (let no : (let o : Option SeenValue = None in o) ≡ Some s = at in cc)
entry_among (x ∷ sight) zero s at =
    let same : x ≡ s = cc in
    ap (λ (y : SeenValue). (x.actor == y.actor) || is_among y.actor (actors_in sight)) (sym same)
    ∙ ap (λ (b : Bool). b || is_among x.actor (actors_in sight)) (eq-eqb x.actor x.actor refl)
entry_among (x ∷ sight) (suc i) s at = any (x.actor == s.actor) (entry_among sight i s at)
  where
    any : (b : Bool) → is_among s.actor (actors_in sight) ≡ true → (b || is_among s.actor (actors_in sight)) ≡ true
    any true e = refl
    any false e = e

-- none of ascending numbers is at most what they ascend from
not_low : (ns : List ℕ) (low : ℕ) → Ascends low ns → is_among low ns ≡ false
not_low ns low h = elim (cases_Bool (is_among low ns)) [
  | inl e ↦ absurd (omega (arith, above_low ns low low h e))
  | inr e ↦ e
]

-- the entries before it are of other actors
pub apart_before : (sight : List SeenValue) (low i : ℕ) (s : SeenValue) → Ascends low (actors_in sight)
    → slice_get sight i ≡ Some s
    → is_among s.actor (actors_in (take i sight)) ≡ false
apart_before [] low i s h at = absurd (let no : (let o : Option SeenValue = None in o) ≡ Some s = at in cc)
apart_before (x ∷ sight) low zero s h at = refl
apart_before (x ∷ sight) low (suc i) s h at =
    ap (λ (b : Bool). b || is_among s.actor (actors_in (take i sight)))
    (ne_eqb x.actor s.actor (λ e. absurd (omega (
      arith,
      e,
      above_low (actors_in sight) x.actor s.actor h.1
          (entry_among sight i s at),
    ))))
    ∙ apart_before sight x.actor i s h.1 at

-- what the sight has of it is the entry
pub entry_seen : (layout : Layout) (sight : List SeenValue) (low i : ℕ) (s : SeenValue) → Ascends low (actors_in sight)
    → slice_get sight i ≡ Some s
    → seen_in (sight_value layout sight) s.actor ≡ Some (seen_value layout s)
entry_seen layout [] low i s h at = absurd (let no : (let o : Option SeenValue = None in o) ≡ Some s = at in cc)
entry_seen layout (x ∷ sight) low zero s h at =
    let same : x ≡ s = cc in
    subst (λ (y : SeenValue). seen_in (sight_value layout (x ∷ sight)) y.actor ≡ Some (seen_value layout y)) same
    (rw (eq-eqb x.actor x.actor refl) refl)
entry_seen layout (x ∷ sight) low (suc i) s h at =
    rw (ne_eqb x.actor s.actor (λ e. absurd (omega (
      arith,
      e,
      above_low (actors_in sight) x.actor s.actor h.1
          (entry_among sight i s at),
    ))))
    (entry_seen layout sight x.actor i s h.1 at)

pub entry_relevant : (layout : Layout) (sight : List SeenValue) (low i : ℕ) (s : SeenValue)
    → Ascends low (actors_in sight) → slice_get sight i ≡ Some s
    → is_relevant_in (sight_value layout sight) s.actor ≡ s.relevant
entry_relevant layout [] low i s h at = absurd (let no : (let o : Option SeenValue = None in o) ≡ Some s = at in cc)
entry_relevant layout (x ∷ sight) low zero s h at =
    let same : x ≡ s = cc in
    subst (λ (y : SeenValue). is_relevant_in (sight_value layout (x ∷ sight)) y.actor ≡ y.relevant) same
    (rw (eq-eqb x.actor x.actor refl, not_relevant layout sight x.actor (not_low (actors_in sight) x.actor h.1))
    (or_false x.relevant))
  where
    or_false : (b : Bool) → (b || false) ≡ b
    or_false true = refl
    or_false false = refl
entry_relevant layout (x ∷ sight) low (suc i) s h at =
    rw (ne_eqb x.actor s.actor (λ e. absurd (omega (
      arith,
      e,
      above_low (actors_in sight) x.actor s.actor h.1
          (entry_among sight i s at),
    ))))
    (entry_relevant layout sight x.actor i s h.1 at)

-- ---- entry by entry

pub among_more : (sight : List SeenValue) (i : ℕ) (s : SeenValue) (a : ℕ) → slice_get sight i ≡ Some s
    → is_among a (actors_in (take (i + 1) sight)) ≡ (is_among a (actors_in (take i sight)) || (s.actor == a))
among_more [] i s a at = absurd (let no : (let o : Option SeenValue = None in o) ≡ Some s = at in cc)
among_more (x ∷ sight) zero s a at = (let same : x ≡ s = cc in ap (λ (y : SeenValue). (y.actor == a) || false) same
    ∙ or_false (s.actor == a))
  where
    or_false : (b : Bool) → (b || false) ≡ b
    or_false true = refl
    or_false false = refl
among_more (x ∷ sight) (suc i) s a at =
    let n : suc i + 1 ≡ suc (i + 1) = omega arith in
    rw n (ap (λ (b : Bool). (x.actor == a) || b) (among_more sight i s a at)
    ∙ again (x.actor == a) (is_among a (actors_in (take i sight))) (s.actor == a))
  where
    again : (a b c : Bool) → (a || (b || c)) ≡ ((a || b) || c)
    again true b c = refl
    again false b c = refl

-- the first so many entries were shown
pub record ShownSoFar (tick : ℕ) (sight : List SeenValue) (count : ℕ)
    (start now : List (ℕ × ActorRecord)) : Type 0 where
  pub life : (a : ℕ) → (record_in now a).life ≡ (record_in start a).life
  pub handles : (a : ℕ) → (record_in now a).handles ≡ (record_in start a).handles
  pub shown : (layout : Layout) (past : Past) → tick ≡ tick_count past + 1 → Ascends 0 (actors_in sight)
      → AreServed past start
      → (a : ℕ) → is_among a (actors_in (take count sight)) ≡ true
      → KeepsService (Ticked tick (sight_value layout sight) ∷ past) a (record_in now a).service
  pub rest : (a : ℕ) → is_among a (actors_in (take count sight)) ≡ false → record_in now a ≡ record_in start a

-- one entry was
pub record ShownOne (tick : ℕ) (s : SeenValue) (now new : List (ℕ × ActorRecord)) : Type 0 where
  pub others : (a : ℕ) → s.actor ≢ a → record_in new a ≡ record_in now a
  pub life : (record_in new s.actor).life ≡ (record_in now s.actor).life
  pub handles : (record_in new s.actor).handles ≡ (record_in now s.actor).handles
  pub service : (past : Past) (shown : List Seen) → KeepsService past s.actor (record_in now s.actor).service
      → tick ≡ tick_count past + 1
      → is_relevant_in shown s.actor ≡ s.relevant → shows_owned shown s.actor ≡ s.owns
      → KeepsService (Ticked tick shown ∷ past) s.actor (record_in new s.actor).service

pub shows_more : (tick : ℕ) (sight : List SeenValue) (count : ℕ) (s : SeenValue)
    (start now new : List (ℕ × ActorRecord)) → slice_get sight count ≡ Some s
    → ShownOne tick s now new → ShownSoFar tick sight count start now → ShownSoFar tick sight (count + 1) start new
shows_more tick sight count s start now new at one h = record {
  life = λ a. everywhere Life (λ (r : ActorRecord). r.life) s.actor now new one.others one.life a ∙ h.life a;
  handles = λ a. everywhere HandlesKept (λ (r : ActorRecord). r.handles) s.actor now new one.others one.handles a
      ∙ h.handles a;
  shown = λ layout past t ascends kept a e. elim (cases_eq s.actor a) [
    | inl same ↦ subst (λ (b : ℕ). KeepsService (Ticked tick (sight_value layout sight) ∷ past) b
        (record_in new b).service) same
        (one.service past (sight_value layout sight)
        (subst (λ (r : ActorRecord). KeepsService past s.actor r.service)
        (sym (h.rest s.actor (apart_before sight 0 count s ascends at))) (kept s.actor)) t
        (entry_relevant layout sight 0 count s ascends at)
        (ap (λ (o : Option Seen). unwrap_or (option_map (λ (seen : Seen). seen.owns) o) false)
        (entry_seen layout sight 0 count s ascends at)))
    | inr ne ↦ subst (λ (r : ActorRecord). KeepsService (Ticked tick (sight_value layout sight) ∷ past) a r.service)
        (sym (one.others a ne))
        (h.shown layout past t ascends kept a (by (is_among a (actors_in (take count sight))) (ne_eqb s.actor a ne)
        (sym (among_more sight count s a at) ∙ e)))
  ];
  rest = λ a e. (
      let q = none (is_among a (actors_in (take count sight))) (s.actor == a) (sym (among_more sight count s a at)
      ∙ e) in
      one.others a (λ same. false≢true (sym q.1 ∙ eq-eqb s.actor a same)) ∙ h.rest a q.0);
}
  where
    by : (x : Bool) {y : Bool} → y ≡ false → (x || y) ≡ true → x ≡ true
    by true e h = refl
    by false e h = sym e ∙ h

    none : (x y : Bool) → (x || y) ≡ false → (x ≡ false) × (y ≡ false)
    none true y e = absurd (false≢true (sym e))
    none false y e = (refl, e)

pub shown_all : (tick : ℕ) (sight : List SeenValue) (start now : List (ℕ × ActorRecord)) (count : ℕ)
    → take count sight ≡ sight → ShownSoFar tick sight count start now
    → (layout : Layout) (past : Past) → tick ≡ tick_count past + 1 → Ascends 0 (actors_in sight) → AreServed past start
    → AreServed (Ticked tick (sight_value layout sight) ∷ past) now
shown_all tick sight start now count whole h layout past t ascends kept a =
    elim (cases_Bool (is_among a (actors_in sight))) [
      | inl e ↦ h.shown layout past t ascends kept a (ap (λ (xs : List SeenValue). is_among a (actors_in xs)) whole ∙ e)
      | inr e ↦ subst (λ (r : ActorRecord). KeepsService (Ticked tick (sight_value layout sight) ∷ past) a r.service)
          (sym (h.rest a (ap (λ (xs : List SeenValue). is_among a (actors_in xs)) whole ∙ e)))
          (unshown_keeps past tick (sight_value layout sight) a (record_in start a).service (kept a) t
          (not_relevant layout sight a e)
          (ap (λ (o : Option Seen). unwrap_or (option_map (λ (seen : Seen). seen.owns) o) false)
          (not_seen layout sight a e)))
    ]

-- ---- the entry of an actor, looked for by place

-- none of it is, if each entry is of another
among_none : (sight : List SeenValue) (a : ℕ) → ((i : ℕ) (s : SeenValue) → slice_get sight i ≡ Some s → s.actor ≢ a)
    → is_among a (actors_in sight) ≡ false
among_none [] a h = refl
among_none (x ∷ sight) a h =
    ap (λ (b : Bool). b || is_among a (actors_in sight)) (ne_eqb x.actor a (h zero x refl))
    ∙ among_none sight a (λ i s at. h (suc i) s at)

-- later entries are of actors above
later_above : (sight : List SeenValue) (low i j : ℕ) (x y : SeenValue) → Ascends low (actors_in sight)
    → slice_get sight i ≡ Some x → slice_get sight j ≡ Some y → i < j → x.actor < y.actor
later_above [] low i j x y h p q lt = absurd (let no : (let o : Option SeenValue = None in o) ≡ Some x = p in cc)
later_above (z ∷ sight) low zero zero x y h p q lt = absurd (omega (arith, lt))
later_above (z ∷ sight) low zero (suc j) x y h p q lt =
    let same : z ≡ x = cc in
    subst (λ (w : SeenValue). w.actor < y.actor) same (above_low (actors_in sight) z.actor y.actor h.1
    (entry_among sight j y q))
later_above (z ∷ sight) low (suc i) zero x y h p q lt = absurd (omega (arith, lt))
later_above (z ∷ sight) low (suc i) (suc j) x y h p q lt = later_above sight z.actor i j x y h.1 p q (omega (arith, lt))

-- an actor between two places isn't seen
pub between_unseen : (layout : Layout) (sight : List SeenValue) (at a : ℕ) → Ascends 0 (actors_in sight)
    → ((i : ℕ) (s : SeenValue) → slice_get sight i ≡ Some s → i < at → s.actor < a)
    → ((s : SeenValue) → slice_get sight at ≡ Some s → a < s.actor) → seen_in (sight_value layout sight) a ≡ None
between_unseen layout sight at a ascends before there = not_seen layout sight a (among_none sight a other)
  where
    here : (o : Option SeenValue) → slice_get sight at ≡ o → (i : ℕ) (s : SeenValue) → slice_get sight i ≡ Some s
        → at < i → s.actor ≢ a
    here None e i s q lt same = absurd (no_later sight at i s e q lt)
      where
        no_later : (xs : List SeenValue) (m n : ℕ) (s : SeenValue) → slice_get xs m ≡ None → slice_get xs n ≡ Some s
            → m < n → ⊥
        no_later [] m n s e q lt = (let no : (let o : Option SeenValue = None in o) ≡ Some s = q in cc)
        no_later (x ∷ xs) zero n s e q lt = (let no : Some x ≡ None = e in cc)
        no_later (x ∷ xs) (suc m) zero s e q lt = omega (arith, lt)
        no_later (x ∷ xs) (suc m) (suc n) s e q lt = no_later xs m n s e q (omega (arith, lt))
    here (Some x) e i s q lt same = omega (arith, there x e, later_above sight 0 at i x s ascends e q lt, same)

    other : (i : ℕ) (s : SeenValue) → slice_get sight i ≡ Some s → s.actor ≢ a
    other i s q same = elim (cases_lt i at) [
      | inl lt ↦ omega (arith, before i s q lt, same)
      | inr le ↦ elim (cases_eq i at) [
        | inl e ↦ omega (arith, there s (ap (slice_get sight) (sym e) ∙ q), same)
        | inr ne ↦ here (slice_get sight at) refl i s q (omega (arith, le, ne)) same
      ]
    ]
