-- A client learns no more names than the table has segments.
use Rattle.std.proofs.Common.{◌≡◌, ℕ, zero, suc, ◌<◌, ◌≤◌, ◌+◌, ◌-◌, ◌*◌, ◌/◌, ◌==◌, List, [], ◌∷◌, Bool, true, false, cond, nat_lt, Option, Some, None, reverse, refl, sym, ap, ◌∙◌, arith, length}
use Rattle.std.specs.Prelude.{⊤}
use Rattle.std.specs.List.{fold, flat_map}
use Rattle.std.proofs.lemmas.Bool.Decides.{nat_tests}
use Rattle.std.proofs.lemmas.Bool.{eqb-true, eq-eqb, ltb-true}
use Rattle.protocol_model.specs.Value.{Segment}
use Rattle.table_model.specs.Facts.{IsTable}
use Rattle.table_model.specs.Rules.{Entry, segments_of}
use Rattle.connection_model.specs.Names.{name_known, names_with, names_in, names_of}
use Rattle.connection_model.specs.Copies.{delivered_of}
use Rattle.connection_model.specs.Feed.{Past}
use Rattle.payload_laws.specs.Learning.{AreAmong}
use Rattle.payload_laws.proofs.Pigeonhole.{pigeonhole}
use Rattle.payload_laws.proofs.Learning.{found_guid}

-- no guid stands twice
abbrev AreDistinct : List Segment → Type 0
AreDistinct [] = ⊤
AreDistinct (s ∷ names) = (name_known names s.guid ≡ None) × AreDistinct names

-- a name is learnt once
with_distinct : (names : List Segment) (s : Segment) (o : Option Segment) → name_known names s.guid ≡ o → AreDistinct names → AreDistinct (names_with names s)
with_distinct names s None e d = let more : names_with names s ≡ s ∷ names = rw e refl in rw more (e, d)
with_distinct names s (Some t) e d = let stays : names_with names s ≡ names = rw e refl in rw stays d

-- so are all
fold_distinct : (names exports : List Segment) → AreDistinct names → AreDistinct (fold names_with names exports)
fold_distinct names [] d = d
fold_distinct names (s ∷ exports) d = fold_distinct (names_with names s) exports (with_distinct names s (name_known names s.guid) refl d)

-- the guid at a place
guid_at : List Segment → ℕ → ℕ
guid_at [] i = 0
guid_at (s ∷ names) zero = s.guid
guid_at (s ∷ names) (suc i) = guid_at names i

-- what stands at a place is known
known_at : (names : List Segment) (i : ℕ) → i < length names → (t : Segment) × (name_known names (guid_at names i) ≡ Some t)
unfolding guid_at
known_at [] i h = absurd (omega (arith, h))
known_at (s ∷ names) zero h = (s, rw (eq-eqb s.guid s.guid refl) refl)
known_at (s ∷ names) (suc i) h = by_test (s.guid == guid_at names i) refl (known_at names i (omega (arith, h)))
  where
    by_test : (b : Bool) → (s.guid == guid_at names i) ≡ b → ((t : Segment) × (name_known names (guid_at names i) ≡ Some t)) → (t : Segment) × (cond b (Some s) (name_known names (guid_at names i)) ≡ Some t)
    by_test true e k = (s, refl)
    by_test false e k = k

-- no two places have one guid
apart : (names : List Segment) (i j : ℕ) → AreDistinct names → i < j → j < length names → guid_at names i ≡ guid_at names j → ⊥
unfolding guid_at
apart [] i j d h l e = omega (arith, l)
apart (s ∷ names) i zero d h l e = omega (arith, h)
apart (s ∷ names) zero (suc j) d h l e =
    let k = known_at names j (omega (arith, l)) in
    let none : ◌≡◌ {A = Option Segment} None (Some k.0) = sym d.0 ∙ ap (name_known names) e ∙ k.1 in
    cc
apart (s ∷ names) (suc i) (suc j) d h l e = apart names i j d.1 (omega (arith, h)) (omega (arith, l)) e

-- the number of the segment at a place
record NumberAt (names : List Segment) (i : ℕ) : Type 0 where
  pub number : ℕ
  pub below : number < 1024
  pub is : guid_at names i ≡ 2 * number + 3

-- each place has the number of a segment
number_at : (entries : List Entry) (names : List Segment) (i : ℕ) → IsTable entries → AreAmong (segments_of entries) names → i < length names → NumberAt names i
number_at entries names i is among h =
    let k = known_at names i h in
    let place = among (guid_at names i) k.0 k.1 in
    let n = is.segments.guid place.0 k.0 place.1 in
    let same : k.0.guid ≡ guid_at names i = eqb-true k.0.guid (guid_at names i) (found_guid names (guid_at names i) k.0 k.1) in
    record { number = n.0; below = n.1; is = sym same ∙ n.2 }

-- the number that a place's guid has
place_of : (names : List Segment) (i : ℕ) → ℕ
place_of names i = (guid_at names i - 3) / 2

-- that is its segment's
place_is : (names : List Segment) (i : ℕ) (n : NumberAt names i) → place_of names i ≡ n.number
unfolding place_of
place_is names i n = let is = n.is in omega (arith, is)

-- of two numbers one is less, or they are equal
order : (i j : ℕ) → (i < j → ⊥) → (j < i → ⊥) → i ≡ j
order i j a b = by_test (nat_lt i j) (nat_lt j i) refl refl
  where
    by_test : (s t : Bool) → nat_lt i j ≡ s → nat_lt j i ≡ t → i ≡ j
    by_test true t e f = absurd (a (ltb-true i j e))
    by_test false true e f = absurd (b (ltb-true j i f))
    by_test false false e f = grind (arith, nat_tests)

-- names that are segments of the table, each once, are at most 1,024
few_names : (entries : List Entry) (names : List Segment) → IsTable entries → AreAmong (segments_of entries) names → AreDistinct names → length names ≤ 1024
few_names entries names is among d =
    let at : (i : ℕ) → i < length names → NumberAt names i = λ i h. number_at entries names i is among h in
    pigeonhole (length names) 1024 (place_of names)
    (λ i h. (let n = at i h in let below = n.below in omega (arith, place_is names i n, below)))
    (λ i j h k e.
    let m = at i h in
    let n = at j k in
    let one = m.is in
    let other = n.is in
    let same : guid_at names i ≡ guid_at names j = omega (arith, place_is names i m, place_is names j n, e, one, other) in
    order i j (λ l. apart names i j d l k same) (λ l. apart names j i d l h (sym same)))

-- and so are the names of a client
pub names_few : (entries : List Entry) (past : Past) → IsTable entries → AreAmong (segments_of entries) (names_of past) → length (names_of past) ≤ 1024
names_few entries past is among = few_names entries (names_of past) is among (fold_distinct [] (flat_map names_in (reverse (delivered_of past))) tt)
