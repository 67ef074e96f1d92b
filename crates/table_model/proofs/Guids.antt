-- The guids that the segments of a path are given: those that there are, and new ones.
use Rattle.std.proofs.Common.{◌≡◌, ℕ, zero, suc, ◌+◌, ◌*◌, ◌<◌, ◌≤◌, max, ◌==◌, List, [], ◌∷◌, ◌++◌, map, length, slice_get, Bool, true, false, ◌&&◌, ◌⊎◌, inl, inr, Option, Some, None, unwrap_or, cond, fold, refl, sym, ap, ◌∙◌, subst, append_assoc, append-nil, arith}
use Rattle.std.specs.List.{list_all}
use Rattle.std.specs.Str.{bytes_eq}
use Rattle.std.proofs.lemmas.Bool.{and_parts, and_from, cases_lt}
use Rattle.std.proofs.lemmas.Bool.Decides.{nat_tests, Decides-eqb}
use Rattle.std.proofs.lemmas.Option.{none-some, same_Some}
use Rattle.protocol_model.specs.Value.{Segment}
use Rattle.table_model.specs.Words.{is_name}
use Rattle.table_model.specs.Rules.{path_names, guid_in, next_guid, segment_under, path_under}
use Rattle.table_model.specs.Facts.{is_chain, AreSegments}
use Rattle.table_model.proofs.Names.{same_name}
use Rattle.table_model.proofs.Segments.{IsSame, IsGuid, number_itself, AreKnown, known_push}

-- ---- a segment that there is

-- the segment is that of the name under the outer
abbrev is_under : (outer : ℕ) → List ℕ → Segment → Bool
is_under outer name s = s.outer == outer && bytes_eq s.name name

-- the segment of the name under the outer is there, with the guid
record IsFound (known : List Segment) (outer : ℕ) (name : List ℕ) (guid : ℕ) : Type 0 where
  pub place : ℕ
  pub segment : Segment
  pub there : slice_get known place ≡ Some segment
  pub is : segment ≡ record { guid = guid; outer = outer; name = name }

same_parts : (s : Segment) (guid outer : ℕ) (name : List ℕ) → s.guid ≡ guid → s.outer ≡ outer → s.name ≡ name
    → s ≡ record { guid = guid; outer = outer; name = name }
same_parts s guid outer name g o n = rw (← g, ← o, ← n) refl

found_where : (b : Bool) (s : Segment) (known : List Segment) (outer : ℕ) (name : List ℕ) (guid : ℕ)
    → is_under outer name s ≡ b → (guid_in known outer name ≡ Some guid → IsFound known outer name guid)
    → cond b (Some s.guid) (guid_in known outer name) ≡ Some guid → IsFound (s ∷ known) outer name guid
found_where true s known outer name guid e rest h =
    let p = and_parts (s.outer == outer) (bytes_eq s.name name) e in
    let same_outer = (Decides-eqb s.outer outer).0 p.0 in
    let here = same_parts s guid outer name (same_Some _ _ h) same_outer (same_name s.name name p.1) in
    record { place = 0; segment = s; there = refl; is = here }
found_where false s known outer name guid e rest h =
    let f = rest h in record { place = suc f.place; segment = f.segment; there = f.there; is = f.is }

guid_found : (known : List Segment) (outer : ℕ) (name : List ℕ) (guid : ℕ) → guid_in known outer name ≡ Some guid
    → IsFound known outer name guid
guid_found [] outer name guid h = absurd (none-some guid h)
guid_found (s ∷ known) outer name guid h =
    found_where (is_under outer name s) s known outer name guid refl (guid_found known outer name guid) h

missing_where : (b : Bool) (s t : Segment) (known : List Segment) (outer : ℕ) (name : List ℕ) (n : ℕ)
    → is_under outer name s ≡ b
    → ((m : ℕ) → guid_in known outer name ≡ None → slice_get known m ≡ Some t → is_under outer name t ≡ false)
    → cond b (Some s.guid) (guid_in known outer name) ≡ None → slice_get (s ∷ known) n ≡ Some t
    → is_under outer name t ≡ false
missing_where true s t known outer name n e rest h a = absurd (none-some _ (sym h))
missing_where false s t known outer name zero e rest h a =
    subst (λ x. is_under outer name x ≡ false) (same_Some s t a) e
missing_where false s t known outer name (suc n) e rest h a = rest n h a

guid_missing : (known : List Segment) (outer : ℕ) (name : List ℕ) (t : Segment) (n : ℕ)
    → guid_in known outer name ≡ None → slice_get known n ≡ Some t → is_under outer name t ≡ false
guid_missing [] outer name t n h a = absurd (none-some t a)
guid_missing (s ∷ known) outer name t n h a =
    let rest = guid_missing known outer name t in
    missing_where (is_under outer name s) s t known outer name n refl rest h a

-- ---- the next guid

at_least : (known : List Segment) (a : ℕ) → a ≤ fold max a (map (λ (s : Segment). s.guid) known)
at_least [] a = omega arith
at_least (s ∷ known) a = let h = at_least known (max a s.guid) in omega (arith, h)

below_greatest : (known : List Segment) (a n : ℕ) (t : Segment) → slice_get known n ≡ Some t
    → t.guid ≤ fold max a (map (λ (s : Segment). s.guid) known)
below_greatest [] a n t h = absurd (none-some t h)
below_greatest (s ∷ known) a zero t h =
    let e : s.guid ≡ t.guid = ap (λ (x : Segment). x.guid) (same_Some s t h) in
    let l = at_least known (max a s.guid) in omega (arith, e, l)
below_greatest (s ∷ known) a (suc n) t h = below_greatest known (max a s.guid) n t h

-- each guid is below the next one
pub below_next : (known : List Segment) (n : ℕ) (t : Segment) → slice_get known n ≡ Some t
    → t.guid + 2 ≤ next_guid known
below_next known n t h = let l = below_greatest known 1 n t h in omega (arith, l)

odd_max : (a g i j : ℕ) → a ≡ 2 * i + 1 → g ≡ 2 * j + 3 → (k : ℕ) × (max a g ≡ 2 * k + 1)
odd_max a g i j h e = by_order (cases_lt a g)
  where
    by_order : (a < g) ⊎ (g ≤ a) → (k : ℕ) × (max a g ≡ 2 * k + 1)
    by_order (inl l) = (j + 1, omega arith)
    by_order (inr l) = (i, omega arith)

odd_greatest : (known : List Segment) (a i : ℕ) → a ≡ 2 * i + 1
    → ((n : ℕ) (s : Segment) → slice_get known n ≡ Some s → IsGuid s.guid)
    → (k : ℕ) × (fold max a (map (λ (s : Segment). s.guid) known) ≡ 2 * k + 1)
odd_greatest [] a i h each = (i, h)
odd_greatest (s ∷ known) a i h each =
    let g = each 0 s refl in
    let m = odd_max a s.guid i g.0 h g.1 in
    odd_greatest known (max a s.guid) m.0 m.1 (λ n. each (suc n))

-- the next guid is one
pub next_is : (known : List Segment) → AreKnown known → IsGuid (next_guid known)
next_is known k = let o = odd_greatest known 1 0 refl k.guid in (o.0, let e = o.1 in omega (arith, e))

-- ---- the segments of a path

other_guid : (g h : ℕ) → g + 2 ≤ h → (g == h) ≡ false
other_guid g h l = grind (arith, nat_tests)

under_where : (o : Option ℕ) (known : List Segment) (outer : ℕ) (name : List ℕ) → AreKnown known
    → guid_in known outer name ≡ o
    → AreKnown (known ++ record { guid = unwrap_or o (next_guid known); outer = outer; name = name } ∷ [])
under_where None known outer name k h = known_push known _ k differs (next_is known k)
  where
    differs : (n : ℕ) (t : Segment) → slice_get known n ≡ Some t
        → IsSame t (record { guid = next_guid known; outer = outer; name = name })
    differs n t a =
        other_guid t.guid (next_guid known) (below_next known n t a) ∙ sym (guid_missing known outer name t n h a)
under_where (Some guid) known outer name k h = known_push known _ k alike is
  where
    found : IsFound known outer name guid
    found = guid_found known outer name guid h

    alike : (n : ℕ) (t : Segment) → slice_get known n ≡ Some t
        → IsSame t (record { guid = guid; outer = outer; name = name })
    alike n t a = subst (IsSame t) found.is (k.same n found.place t found.segment a found.there)

    is : IsGuid guid
    is = subst (λ (s : Segment). IsGuid s.guid) found.is (k.guid found.place found.segment found.there)

-- segments stay known with those of a path behind them
pub path_known : (known : List Segment) (outer : ℕ) (names : List (List ℕ)) → AreKnown known
    → AreKnown (known ++ path_under known outer names)
path_known known outer [] k = subst AreKnown (sym (append-nil known)) k
path_known known outer (name ∷ names) k =
    let s = segment_under known outer name in
    let longer = under_where (guid_in known outer name) known outer name k refl in
    subst AreKnown (append_assoc known (s ∷ []) (path_under (known ++ s ∷ []) s.guid names))
    (path_known (known ++ s ∷ []) s.guid names longer)

-- a path has the names that it is made of
pub path_has_names : (known : List Segment) (outer : ℕ) (names : List (List ℕ))
    → path_names (path_under known outer names) ≡ names
path_has_names known outer [] = refl
path_has_names known outer (name ∷ names) =
    let s = segment_under known outer name in
    ap (λ ns. name ∷ ns) (path_has_names (known ++ s ∷ []) s.guid names)

-- and as many segments
pub path_length : (known : List Segment) (outer : ℕ) (names : List (List ℕ))
    → length (path_under known outer names) ≡ length names
path_length known outer [] = refl
path_length known outer (name ∷ names) =
    let s = segment_under known outer name in ap (λ n. suc n) (path_length (known ++ s ∷ []) s.guid names)

-- each of them stands under the one before it
pub path_chains : (known : List Segment) (outer : ℕ) (names : List (List ℕ)) → list_all is_name names ≡ true
    → is_chain outer (path_under known outer names) ≡ true
path_chains known outer [] h = refl
path_chains known outer (name ∷ names) h =
    let s = segment_under known outer name in
    let p = and_parts (is_name name) (list_all is_name names) h in
    and_from _ _ (and_from _ _ (number_itself outer) p.0) (path_chains (known ++ s ∷ []) s.guid names p.1)

-- ---- how many there are

-- known segments are a table's where the next guid is within its limit
pub segments_are : (segments : List Segment) → AreKnown segments → next_guid segments ≤ 2051 → AreSegments segments
segments_are segments k most = record { same = k.same; guid = within }
  where
    within : (n : ℕ) (s : Segment) → slice_get segments n ≡ Some s → (i : ℕ) × (i < 1024) × (s.guid ≡ 2 * i + 3)
    within n s h =
        let g = k.guid n s h in
        let e = g.1 in
        let l = below_next segments n s h in (g.0, omega (arith, e, l, most), e)
