-- Segments in memory beside those of the paths so far, when one more stands in a path.
use Rattle.std.proofs.Common.{◌≡◌, ℕ, zero, suc, ◌+◌, ◌*◌, ◌-◌, ◌/◌, ◌<◌, max, List, [], ◌∷◌, ◌++◌, map, length, Bool, true, false, ◌&&◌, ◌==◌, cond, Option, Some, None, option_map, slice_get, refl, sym, ap, ◌∙◌, bytes_eq, arith, rules}
use Rattle.std.proofs.lemmas.Option.{slice_get_within}
use Rattle.std.proofs.lemmas.Slice.Eq.{bytes_eq-Decides}
use Rattle.std.specs.List.{position, fold}
use Rattle.protocol_model.specs.Search.{or_else, greatest_of}
use Rattle.protocol_model.specs.Value as Model
use Rattle.table_model.specs.Rules.{guid_in, next_guid, segment_under}
use Rattle.class_layout.specs.Tables.{AreOf, segment_at}
use Rattle.class_layout.specs.declared.class.Segment.{Segment}
use Rattle.class_layout.proofs.Finding.{position_step}

-- the segment has this outer and this name
abbrev pub is_it : (outer : ℕ) → List ℕ → Segment → Bool
is_it outer name s = s.outer == outer && bytes_eq s.name name

-- ---- what a segment's test says

both_hold : (a b : Bool) → (a && b) ≡ true → (a ≡ true) × (b ≡ true)
both_hold true b h = (refl, h)
both_hold false b h = absurd (cc)

same_number : (m n : ℕ) → (m == n) ≡ true → m ≡ n
same_number m n h = search (rules, arith)

number_itself : (n : ℕ) → (n == n) ≡ true
number_itself n = search (rules, arith)

same_bytes : (xs ys : List ℕ) → bytes_eq xs ys ≡ true → xs ≡ ys
same_bytes xs ys h = (bytes_eq-Decides xs ys).0 h

bytes_itself : (xs : List ℕ) → bytes_eq xs xs ≡ true
bytes_itself xs = (bytes_eq-Decides xs xs).1 refl

names_it : (outer : ℕ) (name : List ℕ) (o : ℕ) (n : List ℕ) → (o == outer && bytes_eq n name) ≡ true
    → (o ≡ outer) × (n ≡ name)
names_it outer name o n h =
    let parts = both_hold (o == outer) (bytes_eq n name) h in (same_number o outer parts.0, same_bytes n name parts.1)

is_itself : (outer : ℕ) (name : List ℕ) → (outer == outer && bytes_eq name name) ≡ true
is_itself outer name = rw (number_itself outer, bytes_itself name) refl

-- ---- a segment's place in memory

pub found_there : (outer : ℕ) (name : List ℕ) (segments : List Segment) (i : ℕ)
    → position (is_it outer name) segments ≡ Some i
    → slice_get segments i ≡ Some (record { outer = outer; name = name })
found_there outer name [] i h = cc
found_there outer name (s ∷ segments) i h =
    by_test (is_it outer name s) refl i (sym (position_step (is_it outer name) s segments) ∙ h)
    (λ j. found_there outer name segments j)
  where
    by_test : (b : Bool) → is_it outer name s ≡ b → (i : ℕ)
        → cond b (Some 0) (option_map (λ n. n + 1) (position (is_it outer name) segments)) ≡ Some i
        → ((j : ℕ) → position (is_it outer name) segments ≡ Some j
        → slice_get segments j ≡ Some (record { outer = outer; name = name }))
        → slice_get (s ∷ segments) i ≡ Some (record { outer = outer; name = name })
    by_test true e zero h rest = let it = names_it outer name s.outer s.name e in ap Some (whole s it.0 it.1)
      where
        whole : (s : Segment) → s.outer ≡ outer → s.name ≡ name → s ≡ record { outer = outer; name = name }
        whole s p q = rw (sym p, sym q) refl
    by_test true e (suc i) h rest = absurd (cc)
    by_test false e i h rest = later (position (is_it outer name) segments) refl i h
      where
        later : (p : Option ℕ) → position (is_it outer name) segments ≡ p → (i : ℕ) → option_map (λ n. n + 1) p ≡ Some i
            → slice_get (s ∷ segments) i ≡ Some (record { outer = outer; name = name })
        later None q i h = absurd (cc)
        later (Some j) q i h = let same : i ≡ suc j = omega (arith, some_same h) in rw same (rest j q)
          where
            some_same : {m n : ℕ} → Some m ≡ Some n → m ≡ n
            some_same e = cc

-- none is there
pub none_there : (outer : ℕ) (name : List ℕ) (segments : List Segment)
    → position (is_it outer name) segments ≡ None
    → (i : ℕ) → slice_get segments i ≡ Some (record { outer = outer; name = name }) → ⊥
none_there outer name [] h i s = cc
none_there outer name (s ∷ segments) h i there =
    by_test (is_it outer name s) refl i there (sym (position_step (is_it outer name) s segments) ∙ h)
    (λ e. none_there outer name segments e)
  where
    by_test : (b : Bool) → is_it outer name s ≡ b → (i : ℕ)
        → slice_get (s ∷ segments) i ≡ Some (record { outer = outer; name = name })
        → cond b (Some 0) (option_map (λ n. n + 1) (position (is_it outer name) segments)) ≡ None
        → (position (is_it outer name) segments ≡ None → (i : ℕ)
        → slice_get segments i ≡ Some (record { outer = outer; name = name }) → ⊥)
        → ⊥
    by_test true e i there h rest = cc
    by_test false e zero there h rest = not_it s there e
      where
        not_it : (s : Segment) → Some s ≡ Some (record { outer = outer; name = name }) → is_it outer name s ≡ false → ⊥
        not_it s p q = true_false (sym (is_itself outer name) ∙ ap (is_it outer name) (sym (it p)) ∙ q)
          where
            it : {a b : Segment} → Some a ≡ Some b → a ≡ b
            it e = cc

            true_false : true ≡ false → ⊥
            true_false e = cc
    by_test false e (suc i) there h rest = rest (none_of (position (is_it outer name) segments) h) i there
      where
        none_of : (p : Option ℕ) → option_map (λ n. n + 1) p ≡ None → p ≡ None
        none_of None h = refl
        none_of (Some n) h = absurd (cc)

-- ---- guids of the segments so far, and of one more

-- what one more segment names
abbrev pub guid_if : (outer : ℕ) → List ℕ → Model.Segment → Option ℕ
guid_if outer name s = cond (s.outer == outer && bytes_eq s.name name) (Some s.guid) None

pub guid_in_more : (known : List Model.Segment) (t : Model.Segment) (outer : ℕ) (name : List ℕ)
    → guid_in (known ++ t ∷ []) outer name ≡ or_else (guid_in known outer name) (guid_if outer name t)
guid_in_more [] t outer name = refl
guid_in_more (s ∷ known) t outer name =
    by_test (s.outer == outer && bytes_eq s.name name) (guid_in_more known t outer name)
  where
    by_test : (b : Bool)
        → guid_in (known ++ t ∷ []) outer name ≡ or_else (guid_in known outer name) (guid_if outer name t)
        → cond b (Some s.guid) (guid_in (known ++ t ∷ []) outer name)
        ≡ or_else (cond b (Some s.guid) (guid_in known outer name)) (guid_if outer name t)
    by_test true rest = refl
    by_test false rest = rest

-- a segment of another name changes no guid that is there
none_if_other : (outer : ℕ) (name : List ℕ) (t : Model.Segment) → (t.outer == outer && bytes_eq t.name name) ≡ false
    → guid_if outer name t ≡ None
none_if_other outer name t h = ap (λ b. cond b (Some t.guid) None) h

or_nothing : {A : Type 0} (o : Option A) → or_else o None ≡ o
or_nothing None = refl
or_nothing (Some a) = refl

-- ---- the guid after them

largest_more : (ns : List ℕ) (m n : ℕ) → fold max m (ns ++ n ∷ []) ≡ max (fold max m ns) n
largest_more [] m n = refl
largest_more (k ∷ ns) m n = largest_more ns (max m k) n

guids_more : (known : List Model.Segment) (t : Model.Segment)
    → map (λ (s : Model.Segment). s.guid) (known ++ t ∷ []) ≡ map (λ (s : Model.Segment). s.guid) known ++ t.guid ∷ []
guids_more [] t = refl
guids_more (s ∷ known) t = ap (λ gs. s.guid ∷ gs) (guids_more known t)

next_more : (known : List Model.Segment) (t : Model.Segment)
    → next_guid (known ++ t ∷ []) ≡ max (greatest_of (1 ∷ map (λ (s : Model.Segment). s.guid) known)) t.guid + 2
next_more known t =
    ap (λ gs. fold max (max 0 1) gs + 2) (guids_more known t)
    ∙ ap (λ n. n + 2) (largest_more (map (λ (s : Model.Segment). s.guid) known) (max 0 1) t.guid)

-- ---- one more segment of a path

known_guid : {segments : List Segment} {known : List Model.Segment} (outer : ℕ) (name : List ℕ) (i : ℕ)
    → AreOf segments known → position (is_it outer name) segments ≡ Some i → guid_in known outer name ≡ Some (2 * i + 3)
known_guid {segments} outer name i are h = are.each i (record { outer = outer; name = name })
    (found_there outer name segments i h)

no_guid : {segments : List Segment} {known : List Model.Segment} (outer : ℕ) (name : List ℕ)
    → AreOf segments known → position (is_it outer name) segments ≡ None → guid_in known outer name ≡ None
no_guid {segments} {known} outer name are h = by_case (guid_in known outer name) refl
  where
    by_case : (o : Option ℕ) → guid_in known outer name ≡ o → o ≡ None
    by_case None e = refl
    by_case (Some g) e = let back = are.back outer g name e in absurd (none_there outer name segments h back.0 back.2)

-- one that is there keeps its guid
pub guid_there : {segments : List Segment} {known : List Model.Segment} (outer : ℕ) (name : List ℕ) (i : ℕ)
    → AreOf segments known → position (is_it outer name) segments ≡ Some i
    → 2 * i + 3 ≡ (segment_under known outer name).guid
guid_there {segments} {known} outer name i are h = rw (known_guid outer name i are h) refl

-- a new one has the guid after them
pub guid_new : {segments : List Segment} {known : List Model.Segment} (outer : ℕ) (name : List ℕ)
    → AreOf segments known → position (is_it outer name) segments ≡ None
    → 2 * length segments + 3 ≡ (segment_under known outer name).guid
guid_new {segments} {known} outer name are h = rw (no_guid outer name are h) (sym are.next)

-- ---- what is seen of a guid

half_of : (i : ℕ) → (2 * i + 3 - 3) / 2 ≡ i
half_of i = search (rules, arith)

-- the segment at a place is seen under its guid
pub seen_at : (segments : List Segment) (i : ℕ) (s : Segment) → slice_get segments i ≡ Some s
    → segment_at segments (2 * i + 3) ≡ record { guid = 2 * i + 3; outer = s.outer; name = s.name }
seen_at segments i s h = rw (half_of i, h) refl

pub slice_get_left : (segments more : List Segment) (i : ℕ) → i < length segments
    → slice_get (segments ++ more) i ≡ slice_get segments i
slice_get_left [] more i h = absurd (omega arith)
slice_get_left (s ∷ segments) more zero h = refl
slice_get_left (s ∷ segments) more (suc i) h = slice_get_left segments more i (omega arith)

slice_get_seam : (segments : List Segment) (s : Segment) → slice_get (segments ++ s ∷ []) (length segments) ≡ Some s
slice_get_seam [] s = refl
slice_get_seam (t ∷ segments) s = slice_get_seam segments s

-- a new one is seen behind the others
pub seen_new : (segments : List Segment) (outer : ℕ) (name : List ℕ)
    → segment_at (segments ++ record { outer = outer; name = name } ∷ []) (2 * length segments + 3)
    ≡ record { guid = 2 * length segments + 3; outer = outer; name = name }
seen_new segments outer name =
    seen_at (segments ++ record { outer = outer; name = name } ∷ []) (length segments)
    (record { outer = outer; name = name })
    (slice_get_seam segments (record { outer = outer; name = name }))

-- ---- the relation goes on

or_some : {A : Type 0} (o p : Option A) {a : A} → o ≡ Some a → or_else o p ≡ o
or_some None p h = absurd (cc)
or_some (Some a) p h = refl

length_more : (segments : List Segment) (s : Segment) → length (segments ++ s ∷ []) ≡ length segments + 1
length_more [] s = refl
length_more (t ∷ segments) s = omega (arith, length_more segments s)

some_same : {A : Type 0} {a b : A} → Some a ≡ Some b → a ≡ b
some_same e = cc

-- one that is there changes nothing
pub are_kept : {segments : List Segment} {known : List Model.Segment} (outer : ℕ) (name : List ℕ) (i : ℕ)
    → AreOf segments known → position (is_it outer name) segments ≡ Some i
    → AreOf segments (known ++ segment_under known outer name ∷ [])
are_kept {segments} {known} outer name i are h = record {
  next = next_more known t ∙ ap (λ n. n + 2) largest ∙ are.next;
  each = λ j s there. same s.outer s.name ∙ are.each j s there;
  back = λ o g n found. are.back o g n (sym (same o n) ∙ found);
}
  where
    t : Model.Segment
    t = segment_under known outer name

    its : guid_in known outer name ≡ Some (2 * i + 3)
    its = known_guid outer name i are h

    guid : t.guid ≡ 2 * i + 3
    guid = sym (guid_there outer name i are h)

    within : i < length segments
    within = slice_get_within segments i _ (found_there outer name segments i h)

    largest : max (greatest_of (1 ∷ map (λ (s : Model.Segment). s.guid) known)) t.guid
        ≡ greatest_of (1 ∷ map (λ (s : Model.Segment). s.guid) known)
    largest = grind (arith, guid, within, are.next)

    same : (o : ℕ) (n : List ℕ) → guid_in (known ++ t ∷ []) o n ≡ guid_in known o n
    same o n = guid_in_more known t o n ∙ by_test (outer == o && bytes_eq name n) refl
      where
        by_test : (b : Bool) → (outer == o && bytes_eq name n) ≡ b
            → or_else (guid_in known o n) (guid_if o n t) ≡ guid_in known o n
        by_test false e = rw (none_if_other o n t e) (or_nothing (guid_in known o n))
        by_test true e =
            let it = names_it o n outer name e in
            or_some (guid_in known o n) _
            (ap (λ m. guid_in known m n) (sym it.0) ∙ ap (guid_in known outer) (sym it.1) ∙ its)

-- a new one goes behind the others
pub are_grown : {segments : List Segment} {known : List Model.Segment} (outer : ℕ) (name : List ℕ)
    → AreOf segments known → position (is_it outer name) segments ≡ None
    → AreOf (segments ++ record { outer = outer; name = name } ∷ []) (known ++ segment_under known outer name ∷ [])
are_grown {segments} {known} outer name are h = record {
  next = next_more known t ∙ ap (λ n. n + 2) largest ∙ counted;
  each = λ j s there. each j s there;
  back = λ o g n found. back o g n (sym (guid_in_more known t o n) ∙ found);
}
  where
    t : Model.Segment
    t = segment_under known outer name

    new : Segment
    new = record { outer = outer; name = name }

    guid : t.guid ≡ 2 * length segments + 3
    guid = sym (guid_new outer name are h)

    largest : max (greatest_of (1 ∷ map (λ (s : Model.Segment). s.guid) known)) t.guid ≡ 2 * length segments + 3
    largest = grind (arith, guid, are.next)

    counted : 2 * length segments + 3 + 2 ≡ 2 * length (segments ++ new ∷ []) + 3
    counted = rw (length_more segments new) (omega arith)

    new_one : (s : Segment) → new ≡ s → or_else (guid_in known s.outer s.name) (guid_if s.outer s.name t) ≡ Some t.guid
    new_one s it = rw (sym it, no_guid outer name are h, is_itself outer name) refl

    before : (j : ℕ) → j < length (segments ++ new ∷ []) → (j == length segments) ≡ false → j < length segments
    before j less e = search (rules, arith, length_more segments new, less, e)

    each : (j : ℕ) (s : Segment) → slice_get (segments ++ new ∷ []) j ≡ Some s
        → guid_in (known ++ t ∷ []) s.outer s.name ≡ Some (2 * j + 3)
    each j s there = rw (guid_in_more known t s.outer s.name) (by_place (j == length segments) refl)
      where
        by_place : (b : Bool) → (j == length segments) ≡ b
            → or_else (guid_in known s.outer s.name) (guid_if s.outer s.name t) ≡ Some (2 * j + 3)
        by_place true e =
            let here : j ≡ length segments = same_number j (length segments) e in
            let it : new ≡ s = some_same (sym (slice_get_seam segments new)
            ∙ ap (slice_get (segments ++ new ∷ [])) (sym here) ∙ there) in
            new_one s it ∙ ap Some (guid ∙ ap (λ n. 2 * n + 3) (sym here))
        by_place false e =
            let within : j < length segments = before j (slice_get_within (segments ++ new ∷ []) j s there) e in
            let old = are.each j s (sym (slice_get_left segments (new ∷ []) j within) ∙ there) in
            or_some (guid_in known s.outer s.name) _ old ∙ old

    back : (o g : ℕ) (n : List ℕ) → or_else (guid_in known o n) (guid_if o n t) ≡ Some g
        → (i : ℕ) × (g ≡ 2 * i + 3) × (slice_get (segments ++ new ∷ []) i ≡ Some (record { outer = o; name = n }))
    back o g n found = by_guid (guid_in known o n) refl found
      where
        by_guid : (p : Option ℕ) → guid_in known o n ≡ p → or_else p (guid_if o n t) ≡ Some g
            → (i : ℕ) × (g ≡ 2 * i + 3) × (slice_get (segments ++ new ∷ []) i ≡ Some (record { outer = o; name = n }))
        by_guid (Some k) e f =
            let old = are.back o k n e in (
              old.0,
              some_same (sym f) ∙ old.1,
              slice_get_left segments (new ∷ []) old.0
                  (slice_get_within segments old.0 _ old.2) ∙ old.2,
            )
        by_guid None e f = by_test (outer == o && bytes_eq name n) refl f
          where
            by_test : (b : Bool) → (outer == o && bytes_eq name n) ≡ b → cond b (Some t.guid) None ≡ Some g
                → (i : ℕ) × (g ≡ 2 * i + 3) × (slice_get (segments ++ new ∷ []) i
                ≡ Some (record { outer = o; name = n }))
            by_test true q f =
                let it = names_it o n outer name q in (
                  length segments,
                  sym (some_same f) ∙ guid,
                  slice_get_seam segments new
                      ∙ ap Some (rw (it.0, it.1) refl),
                )
            by_test false q f = absurd (cc)
