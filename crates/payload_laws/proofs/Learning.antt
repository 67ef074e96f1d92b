-- What a table's class needs is learnt without a clash, and then the names name the class.
use Rattle.std.proofs.Common.{◌≡◌, ◌⊎◌, inl, inr, ℕ, ◌<◌, ◌≤◌, ◌+◌, ◌==◌, List, [], ◌∷◌, Bool, true, false, not, ◌&&◌, cond, nat_le, Option, Some, None, is_none, slice_get, filter, bytes_eq, refl, sym, ap, ◌∙◌, subst, arith, length}
use Rattle.std.specs.List.{fold}
use Rattle.std.proofs.lemmas.Bool.Decides.{nat_tests}
use Rattle.std.proofs.lemmas.Slice.Eq.{bytes_eq-Decides}
use Rattle.std.proofs.lemmas.Bool.{and_parts, eqb-true, eq-eqb}
use Rattle.std.proofs.lemmas.Option.{same_Some}
use Rattle.protocol_model.specs.Value.{Segment}
use Rattle.table_model.specs.Facts.{is_chain}
use Rattle.connection_model.specs.Names.{name_known, is_same_segment, learn_fault, names_with}
use Rattle.payload_laws.specs.Limits.{IsSegment, AreSegments}
use Rattle.payload_laws.specs.Passing.{AreLearnt}
use Rattle.payload_laws.specs.Learning.{StandAmong, AreAmong, Knows, KnowsAll, KnowsOthers}

-- ---- one segment

-- what is found under a guid has it
pub found_guid : (names : List Segment) (g : ℕ) (s : Segment) → name_known names g ≡ Some s → (s.guid == g) ≡ true
found_guid [] g s h = absurd (cc)
found_guid (x ∷ names) g s h = by_test (x.guid == g) refl h (λ k. found_guid names g s k)
  where
    by_test : (b : Bool) → (x.guid == g) ≡ b → cond b (Some x) (name_known names g) ≡ Some s → (name_known names g ≡ Some s → (s.guid == g) ≡ true) → (s.guid == g) ≡ true
    by_test true e h later = let same = same_Some x s h in rw (← same) e
    by_test false e h later = later h

-- segments of one guid are one segment
abbrev pub AreOne : List Segment → Type 0
AreOne segments = (m n : ℕ) (s t : Segment) → slice_get segments m ≡ Some s → slice_get segments n ≡ Some t → (s.guid == t.guid) ≡ (s.outer == t.outer && bytes_eq s.name t.name)

-- segments with equal fields are one
segment_is : (g h o p : ℕ) (m n : List ℕ) → g ≡ h → o ≡ p → m ≡ n → ◌≡◌ {A = Segment} (record { guid = g; outer = o; name = m }) (record { guid = h; outer = p; name = n })
segment_is g h o p m n a b c = rw (a, b, c) refl

-- a segment of the table, under whose guid something is known
pub record Known (names : List Segment) (s t : Segment) : Type 0 where
  pub agree : is_same_segment s t ≡ true
  pub is : t ≡ s

-- what is known under a segment's guid is that segment
pub known_is : (segments names : List Segment) (s t : Segment) (n : ℕ) → AreOne segments → AreAmong segments names → slice_get segments n ≡ Some s → name_known names s.guid ≡ Some t → Known names s t
known_is segments names s t n one among at h =
    let k = among s.guid t h in
    let guid : t.guid ≡ s.guid = eqb-true t.guid s.guid (found_guid names s.guid t h) in
    let same : (s.outer == t.outer && bytes_eq s.name t.name) ≡ true = sym (one n k.0 s t at k.1) ∙ eq-eqb s.guid t.guid (sym guid) in
    let outer : s.outer ≡ t.outer = eqb-true s.outer t.outer (and_parts _ _ same).0 in
    let name : s.name ≡ t.name = (bytes_eq-Decides s.name t.name).0 (and_parts _ _ same).1 in
    record { agree = same; is = segment_is t.guid s.guid t.outer s.outer t.name s.name guid (sym outer) (sym name) }

-- what one more segment adds
pub record Added (segments names : List Segment) (s : Segment) : Type 0 where
  pub knows : Knows (names_with names s) s
  pub among : AreAmong segments (names_with names s)
  pub keeps : (t : Segment) → Knows names t → Knows (names_with names s) t
  pub count : length (names_with names s) ≤ length names + 1

added_by : (segments names : List Segment) (s : Segment) (n : ℕ) (o : Option Segment) → name_known names s.guid ≡ o → AreOne segments → AreAmong segments names → slice_get segments n ≡ Some s → Added segments names s
added_by segments names s n (Some t) e one among at =
    let same = known_is segments names s t n one among at e in
    let stays : names_with names s ≡ names = rw e refl in
    record {
      knows = rw stays (e ∙ ap (λ (x : Segment). Some x) same.is);
      among = rw stays among;
      keeps = λ u h. rw stays h;
      count = rw stays (omega arith);
    }
added_by segments names s n None e one among at =
    let more : names_with names s ≡ s ∷ names = rw e refl in
    record {
      knows = rw more (rw (eq-eqb s.guid s.guid refl) refl);
      among = rw more (λ g t h. by_guid g t (s.guid == g) h);
      keeps = λ t h. rw more (kept t h (s.guid == t.guid) refl);
      count = rw more (omega arith);
    }
  where
    by_guid : (g : ℕ) (t : Segment) (b : Bool) → cond b (Some s) (name_known names g) ≡ Some t → (m : ℕ) × (slice_get segments m ≡ Some t)
    by_guid g t true h = (n, at ∙ h)
    by_guid g t false h = among g t h

    kept : (t : Segment) → Knows names t → (b : Bool) → (s.guid == t.guid) ≡ b → cond b (Some s) (name_known names t.guid) ≡ Some t
    kept t h false d = h
    kept t h true d =
        let same : s.guid ≡ t.guid = eqb-true s.guid t.guid d in
        let none : ◌≡◌ {A = Option Segment} None (Some t) = sym e ∙ ap (name_known names) same ∙ h in
        absurd (cc)

-- one more segment of the table is added without a clash
pub added : (segments names : List Segment) (s : Segment) (n : ℕ) → AreOne segments → AreAmong segments names → slice_get segments n ≡ Some s → Added segments names s
added segments names s n one among at = added_by segments names s n (name_known names s.guid) refl one among at

-- the outer is there, or there is none
abbrev OuterKnown : List Segment → ℕ → Type 0
OuterKnown names outer = (outer ≡ 0) ⊎ ((t : Segment) × (name_known names outer ≡ Some t))

-- an outer that is known passes its test
outer_tested : (names : List Segment) (outer : ℕ) → OuterKnown names outer → (not (outer == 0) && is_none (name_known names outer)) ≡ false
outer_tested names outer (inl e) = rw e refl
outer_tested names outer (inr k) = rw k.1 (last (not (outer == 0)))
  where
    last : (b : Bool) → (b && false) ≡ false
    last true = refl
    last false = refl

-- fewer than 65,536 names aren't too many
full_not : (b : Bool) (n : ℕ) → n < 65536 → (b && nat_le 65536 n) ≡ false
full_not true n h = grind (arith, nat_tests)
full_not false n h = refl

-- a segment of the table under a known outer is learnt
is_learnt : (segments names : List Segment) (s : Segment) (n : ℕ) → AreOne segments → AreAmong segments names → slice_get segments n ≡ Some s → OuterKnown names s.outer → length names < 65536 → learn_fault names s ≡ None
is_learnt segments names s n one among at outer few = by_known (name_known names s.guid) refl
  where
    by_known : (o : Option Segment) → name_known names s.guid ≡ o → learn_fault names s ≡ None
    by_known None e = rw (outer_tested names s.outer outer, e, full_not true (length names) few) refl
    by_known (Some t) e =
        let same = known_is segments names s t n one among at e in
        rw (outer_tested names s.outer outer, e, same.agree) refl

-- ---- a path

-- what is known of a path stays known
others_kept : (segments names : List Segment) (s : Segment) (test : Segment → Bool) (path : List Segment) → Added segments names s → KnowsOthers names test path → KnowsOthers (names_with names s) test path
others_kept segments names s test [] a k = tt
others_kept segments names s test (t ∷ path) a k = (λ e. a.keeps t (k.0 e), others_kept segments names s test path a k.1)

-- what is exported of a path is learnt, and then the whole path is known
pub record Learnt (segments names : List Segment) (test : Segment → Bool) (path : List Segment) : Type 0 where
  pub learnt : AreLearnt names (filter test path)
  pub among : AreAmong segments (fold names_with names (filter test path))
  pub keeps : (t : Segment) → Knows names t → Knows (fold names_with names (filter test path)) t
  pub all : KnowsAll (fold names_with names (filter test path)) path

-- one more segment of the path, exported or known
learn_step : (segments names : List Segment) (test : Segment → Bool) (s : Segment) (path : List Segment) (b : Bool) → test s ≡ b → (n : ℕ) → AreOne segments → AreAmong segments names → slice_get segments n ≡ Some s → IsSegment s → OuterKnown names s.outer → length names < 65536
    → KnowsOthers names test (s ∷ path) → (b ≡ true → Learnt segments (names_with names s) test path) → (b ≡ false → Learnt segments names test path) → Learnt segments names test (s ∷ path)
learn_step segments names test s path true e n one among at is outer few others with_it without =
    let a = added segments names s n one among at in
    let later = with_it refl in
    let out : filter test (s ∷ path) ≡ s ∷ filter test path = rw e refl in
    learnt_more a later out
  where
    learnt_more : Added segments names s → Learnt segments (names_with names s) test path → filter test (s ∷ path) ≡ s ∷ filter test path → Learnt segments names test (s ∷ path)
    learnt_more a later out = record {
      learnt = rw out (is, is_learnt segments names s n one among at outer few, later.learnt);
      among = rw out later.among;
      keeps = λ t h. rw out (later.keeps t (a.keeps t h));
      all = subst (λ (xs : List Segment). KnowsAll (fold names_with names xs) (s ∷ path)) (sym out) (later.keeps s a.knows, later.all);
    }
learn_step segments names test s path false e n one among at is outer few others with_it without =
    let later = without refl in
    let out : filter test (s ∷ path) ≡ filter test path = rw e refl in
    record {
      learnt = rw out later.learnt;
      among = rw out later.among;
      keeps = λ t h. rw out (later.keeps t h);
      all = subst (λ (xs : List Segment). KnowsAll (fold names_with names xs) (s ∷ path)) (sym out) (later.keeps s (others.0 e), later.all);
    }

-- each segment of a path is exported or known, so the path is learnt
pub learn_path : (segments names : List Segment) (test : Segment → Bool) (outer : ℕ) (path : List Segment) → AreOne segments → AreAmong segments names → StandAmong segments path → AreSegments path → is_chain outer path ≡ true → OuterKnown names outer → length names + length path ≤ 65536 → KnowsOthers names test path
    → Learnt segments names test path
learn_path segments names test outer [] one among stand are chain known few others = record { learnt = tt; among = among; keeps = λ t h. h; all = tt }
learn_path segments names test outer (s ∷ path) one among stand are chain known few others =
    let under : s.outer ≡ outer = eqb-true s.outer outer (and_parts _ _ (and_parts _ _ chain).0).0 in
    let a = added segments names s stand.0.0 one among stand.0.1 in
    let count = a.count in
    learn_step segments names test s path (test s) refl stand.0.0 one among stand.0.1 are.0 (subst (λ (o : ℕ). OuterKnown names o) (sym under) known) (omega (arith, few)) others
    (λ e. learn_path segments (names_with names s) test s.guid path one a.among stand.1 are.1 (and_parts _ _ chain).1 (inr (s, a.knows)) (omega (arith, few, count)) (others_kept segments names s test path a others.1))
    (λ e. learn_path segments names test s.guid path one among stand.1 are.1 (and_parts _ _ chain).1 (inr (s, others.0 e)) (omega (arith, few)) others.1)
