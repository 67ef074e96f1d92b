-- The values that a player sees: each handle once, and those of the newest sample.
use Rattle.std.proofs.Common.{◌≡◌, ◌≢◌, ℕ, zero, suc, ◌+◌, ◌-◌, ◌<◌, ◌≤◌, List, [], ◌∷◌, ◌++◌, map, filter, length, Bool, true, false, cond, Some, None, refl, sym, ap, ◌∙◌, subst, arith}
use Rattle.std.specs.Prelude.{slice_get, nat_lt, ℤ}
use Rattle.std.specs.List.{AllByRecursion, range_with_len}
use Rattle.std.proofs.lemmas.Bool.{cond_both, ne_eqb}
use Rattle.std.proofs.lemmas.Bool.Decides.{nat_tests}
use Rattle.protocol_model.specs.Cond.{visible}
use Rattle.protocol_model.specs.Search.{newest_of}
use Rattle.protocol_model.specs.Sight.{seen_value, visible_pairs, seen_of}
use Rattle.protocol_model.specs.Value.{Table, Prop, Pair, numbered_from, handle_count, props_of, value_among}
use Rattle.protocol_model.specs.World.{Edits, class_of, owns, is_on, value_of}
use Rattle.change_model.specs.Changes.{Sample, handle_of}
use Rattle.shadow_changes.specs.Samples.{Samples, samples_of}
use Rattle.sender_laws.specs.Values.{place_of}
use Rattle.sender_records.specs.Handles.{AreApart}
use Rattle.sender_steps.specs.Stands.{Agrees}
use Rattle.driver_sights.specs.Noted.{sample_now}

module _ (table : Table) (edits : Edits) (player a : ℕ) where
  abbrev pair_of : ℕ × Prop → Pair
  pair_of entry = record { handle = entry.0; value = seen_value table edits player a entry.0 }

  abbrev is_seen : ℕ × Prop → Bool
  is_seen entry = visible entry.1.cond (owns edits player a) (is_on edits a entry.0)

  abbrev pairs_from : ℕ → List Prop → List Pair
  pairs_from h props = map pair_of (filter is_seen (numbered_from h props))

  none_below : (h k : ℕ) (props : List Prop) → k < h → value_among (pairs_from h props) k ≡ None
  none_below h k [] lt = refl
  none_below h k (p ∷ props) lt =
      cond_both (is_seen (h, p)) ((h, p) ∷ filter is_seen (numbered_from (h + 1) props))
      (filter is_seen (numbered_from (h + 1) props))
      (λ (es : List (ℕ × Prop)). value_among (map pair_of es) k ≡ None)
      (λ e. rw (ne_eqb h k (λ q. absurd (omega (arith, q, lt)))) (none_below (h + 1) k props (omega (arith, lt))))
      (λ e. none_below (h + 1) k props (omega (arith, lt)))

  apart_from : (h : ℕ) (props : List Prop) → AreApart (pairs_from h props)
  apart_from h [] = tt
  apart_from h (p ∷ props) =
      cond_both (is_seen (h, p)) ((h, p) ∷ filter is_seen (numbered_from (h + 1) props))
      (filter is_seen (numbered_from (h + 1) props)) (λ (es : List (ℕ × Prop)). AreApart (map pair_of es))
      (λ e. (none_below (h + 1) h props (omega arith), apart_from (h + 1) props)) (λ e. apart_from (h + 1) props)

  pub visible_apart : AreApart (visible_pairs table edits player a)
  visible_apart = apart_from 1 (props_of (class_of table edits a))

  few_from : (h : ℕ) (props : List Prop) → length (pairs_from h props) ≤ length props
  few_from h [] = omega arith
  few_from h (p ∷ props) =
      cond_both (is_seen (h, p)) ((h, p) ∷ filter is_seen (numbered_from (h + 1) props))
      (filter is_seen (numbered_from (h + 1) props))
      (λ (es : List (ℕ × Prop)). length (map pair_of es) ≤ suc (length props))
      (λ e. (let l = few_from (h + 1) props in omega (arith, l)))
      (λ e. (let l = few_from (h + 1) props in omega (arith, l)))

  pub visible_few : length (visible_pairs table edits player a) ≤ handle_count (class_of table edits a)
  visible_few = few_from 1 (props_of (class_of table edits a))

  -- a handle of the class with the actor's value, but for the role
  record IsPair (limit : ℕ) (p : Pair) : Type 0 where
    some : 1 ≤ p.handle
    most : p.handle < limit
    value : p.handle ≢ 3 → p.value ≡ value_of table edits a p.handle

  value_is : (h : ℕ) → h ≢ 3 → seen_value table edits player a h ≡ value_of table edits a h
  value_is h ne = rw (ne_eqb h 3 ne) refl

  all_more : (m n : ℕ) (ps : List Pair) → m ≤ n → AllByRecursion (IsPair m) ps → AllByRecursion (IsPair n) ps
  all_more m n [] le h = tt
  all_more m n (p ∷ ps) le h = (
    record { some = h.0.some; most = (let q = h.0.most in omega (arith, q, le)); value = h.0.value },
    all_more m n ps le h.1,
  )

  pairs_are : (h : ℕ) (props : List Prop) → 1 ≤ h → AllByRecursion (IsPair (h + length props)) (pairs_from h props)
  pairs_are h [] lo = tt
  pairs_are h (p ∷ props) lo =
      let ih = all_more (h + 1 + length props) (h + suc (length props)) (pairs_from (h + 1) props) (omega arith)
      (pairs_are (h + 1) props (omega arith)) in
      cond_both (is_seen (h, p)) ((h, p) ∷ filter is_seen (numbered_from (h + 1) props))
      (filter is_seen (numbered_from (h + 1) props))
      (λ (es : List (ℕ × Prop)). AllByRecursion (IsPair (h + suc (length props))) (map pair_of es))
      (λ e. (record { some = lo; most = omega arith; value = value_is h }, ih)) (λ e. ih)

  all_at : {A : Type 0} (P : A → Type 0) (xs before after : List A) (x : A) → AllByRecursion P xs
      → xs ≡ before ++ x ∷ after → P x
  all_at {A} P xs before after x h e = go before (subst (AllByRecursion P) e h)
    where
      go : (before : List A) → AllByRecursion P (before ++ x ∷ after) → P x
      go [] h = h.0
      go (y ∷ before) h = go before h.1

  -- ---- the sample

  sampled_at : (f : ℕ → ℤ) (n k i : ℕ) → i < n → slice_get (map f (range_with_len k n)) i ≡ Some (f (k + i))
  sampled_at f zero k i lt = absurd (omega (arith, lt))
  sampled_at f (suc n) k zero lt = ap (λ (m : ℕ). Some (f m)) (let e : k ≡ k + 0 = omega arith in e)
  sampled_at f (suc n) k (suc i) lt =
      sampled_at f n (k + 1) i (omega (arith, lt))
      ∙ ap (λ (m : ℕ). Some (f m)) (let e : k + 1 + i ≡ k + suc i = omega arith in e)

  place_back : (h : ℕ) → 1 ≤ h → h ≢ 3 → handle_of (place_of h) ≡ h
  place_back zero lo ne = absurd (omega (arith, lo))
  place_back (suc zero) lo ne = refl
  place_back (suc (suc zero)) lo ne = refl
  place_back (suc (suc (suc zero))) lo ne = absurd (ne refl)
  place_back (suc (suc (suc (suc h)))) lo ne =
      let high : nat_lt (suc (suc (suc (suc h)))) 3 ≡ false = no (suc (suc (suc (suc h)))) (omega arith) in
      let place : place_of (suc (suc (suc (suc h)))) ≡ suc (suc h) = rw high (omega arith) in
      let later : nat_lt (suc (suc h)) 2 ≡ false = no2 (suc (suc h)) (omega arith) in
      ap handle_of place ∙ rw later (omega arith)
    where
      no : (n : ℕ) → 3 ≤ n → nat_lt n 3 ≡ false
      no n le = grind (arith, nat_tests)

      no2 : (n : ℕ) → 2 ≤ n → nat_lt n 2 ≡ false
      no2 n le = grind (arith, nat_tests)

  place_low : (h count : ℕ) → 1 ≤ h → h ≢ 3 → h < 1 + count → 3 ≤ count → place_of h < count - 1
  place_low h count lo ne lt some = by (nat_lt h 3) refl
    where
      by : (b : Bool) → nat_lt h 3 ≡ b → cond b (h - 1) (h - 2) < count - 1
      by true e = (let q = below h e in omega (arith, q, lo, some))
        where
          below : (n : ℕ) → nat_lt n 3 ≡ true → n < 3
          below n e = grind (arith, nat_tests)
      by false e = (let q = above h e in omega (arith, q, ne, lt))
        where
          above : (n : ℕ) → nat_lt n 3 ≡ false → 3 ≤ n
          above n e = grind (arith, nat_tests)

  three : 3 ≤ handle_count (class_of table edits a)
  three = omega arith

  -- the values seen are those of the newest sample, taken now
  pub visible_agrees : (samples : Samples) (tick : ℕ)
      → newest_of (λ (s : Sample). Some s) (samples_of samples a) ≡ Some (sample_now table edits tick a)
      → Agrees samples (seen_of table edits player a)
  visible_agrees samples tick newest pair before after e role =
      let p = all_at (IsPair (1 + length (props_of (class_of table edits a)))) (visible_pairs table edits player a)
      before after pair (pairs_are 1 (props_of (class_of table edits a)) (omega arith)) e in
      let low : place_of pair.handle < handle_count (class_of table edits a) - 1 =
      place_low pair.handle (handle_count (class_of table edits a)) p.some role p.most three in (
        sample_now table edits tick a,
        newest,
        sampled_at (λ i. value_of table edits a (handle_of i)) (handle_count (class_of table edits a) - 1) 0
            (place_of pair.handle) low
            ∙ ap (λ (v : ℤ). Some v)
            (ap (λ (i : ℕ). value_of table edits a (handle_of i))
            (let z : 0 + place_of pair.handle ≡ place_of pair.handle = omega arith in z)
            ∙ ap (value_of table edits a) (place_back pair.handle p.some role) ∙ sym (p.value role)),
      )
