-- An update holds the longest prefix of the due handles that its limit lets through.
use Rattle.std.proofs.Common.{◌≡◌, ℕ, zero, suc, ◌<◌, ◌≤◌, List, [], ◌∷◌, Bool, true, false, nat_le, take, refl, arith, length}
use Rattle.std.proofs.lemmas.Bool.{leb-true, le-leb}
use Rattle.protocol_model.specs.Search.{longest_prefix}
use Rattle.protocol_model.specs.Value.{Pair, Class, handle_count}
use Rattle.protocol_model.specs.Payload.{kind_at, message_bits, parts_of}
use Rattle.protocol_model.specs.Sight.{Seen}
use Rattle.connection_model.specs.Items.{update_message, update_pairs}
use Rattle.payload_laws.specs.Limits.{HasLimits, AreValues}
use Rattle.payload_laws.proofs.Values.{kind_is}
use Rattle.payload_laws.proofs.Lengths.{message_length}
use Rattle.payload_laws.proofs.Bounds.{packed_two, value_most, one_part}

-- ---- the longest prefix

-- it is a prefix, it passes where the empty one does, and it has an item where the first item passes
pub record IsLongest {A : Type 0} (test : List A → Bool) (most : ℕ) (xs : List A) : Type 0 where
  pub count : ℕ
  pub prefix : longest_prefix test most xs ≡ take count xs
  pub passes : test [] ≡ true → test (longest_prefix test most xs) ≡ true
  pub some : test (take 1 xs) ≡ true → 1 ≤ most → 1 ≤ count

longest_by : {A : Type 0} (test : List A → Bool) (most : ℕ) (xs : List A) (b : Bool) → test (take (suc most) xs) ≡ b → IsLongest test most xs → IsLongest test (suc most) xs
longest_by test most xs true e shorter = record {
  count = suc most;
  prefix = rw e refl;
  passes = λ h. rw (e, e) refl;
  some = λ h k. omega arith;
}
longest_by test most xs false e shorter = record {
  count = shorter.count;
  prefix = rw e shorter.prefix;
  passes = λ h. rw e (shorter.passes h);
  some = λ h k. at_least most h e shorter;
}
  where
    at_least : (most : ℕ) → test (take 1 xs) ≡ true → test (take (suc most) xs) ≡ false → (shorter : IsLongest test most xs) → 1 ≤ shorter.count
    at_least zero h e shorter = absurd (cc)
    at_least (suc most) h e shorter = shorter.some h (omega arith)

-- a longest prefix passes its test or is empty
longest : {A : Type 0} (test : List A → Bool) (most : ℕ) (xs : List A) → IsLongest test most xs
longest test zero xs = record { count = 0; prefix = refl; passes = λ h. h; some = λ h k. k }
longest test (suc most) xs = longest_by test most xs (test (take (suc most) xs)) refl (longest test most xs)

-- ---- updates

-- an update has at most 6,000 bits
pub update_most : (seen : Seen) (due : List Pair) → length (message_bits (update_message seen (update_pairs seen due))) ≤ 6000
update_most seen due =
    let of = longest (λ (pairs : List Pair). nat_le (length (message_bits (update_message seen pairs))) 6000) (length due) due in
    leb-true _ 6000 (of.passes (le-leb _ 6000 (omega (arith, message_length (update_message seen [])))))

-- a front of values of ascending handles is such values
front_fits : (class : Class) (last count : ℕ) (values : List Pair) → AreValues class last values → AreValues class last (take count values)
front_fits class last zero values v = tt
front_fits class last (suc count) [] v = tt
front_fits class last (suc count) (p ∷ pairs) v = (v.0, v.1, v.2, front_fits class p.handle count pairs v.3)

-- one pair fits an update
first_fits : (seen : Seen) (p : Pair) → HasLimits seen.class → p.handle ≤ handle_count seen.class → nat_le (length (message_bits (update_message seen (p ∷ [])))) 6000 ≡ true
first_fits seen p limits h =
    let few = limits.handles in
    le-leb _ 6000 (omega (
      arith,
      message_length (update_message seen (p ∷ [])),
      packed_two p.handle (omega (arith, h, few)),
      value_most false (kind_at seen.class p.handle) p.value (kind_is seen.class p.handle limits),
    ))

some_taken : {A : Type 0} (count : ℕ) (x : A) (xs : List A) → 1 ≤ count → 0 < length (take count (x ∷ xs))
some_taken zero x xs h = absurd (omega (arith, h))
some_taken (suc count) x xs h = omega arith

-- an update of some due handles has one
pub update_some : (seen : Seen) (due : List Pair) → HasLimits seen.class → AreValues seen.class 0 due → 0 < length due → 0 < length (update_pairs seen due)
update_some seen [] limits v s = absurd (omega (arith, s))
update_some seen (p ∷ due) limits v s =
    let of = longest (λ (pairs : List Pair). nat_le (length (message_bits (update_message seen pairs))) 6000) (length (p ∷ due)) (p ∷ due) in
    let least : 1 ≤ of.count = of.some (first_fits seen p limits v.1) (omega arith) in
    rw of.prefix (some_taken of.count p due least)

-- and its values fit
pub update_fits : (seen : Seen) (due : List Pair) → AreValues seen.class 0 due → AreValues seen.class 0 (update_pairs seen due)
update_fits seen due v =
    let of = longest (λ (pairs : List Pair). nat_le (length (message_bits (update_message seen pairs))) 6000) (length due) due in
    rw of.prefix (front_fits seen.class 0 of.count due v)

-- an update has one part
pub update_parts : (seen : Seen) (due : List Pair) → parts_of (update_message seen (update_pairs seen due)) ≡ 1
update_parts seen due = one_part _ (omega (arith, update_most seen due))
