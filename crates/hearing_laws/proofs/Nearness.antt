-- The numbers that an entry moves are near.
use Rattle.std.proofs.Common.{◌≡◌, ℕ, ◌+◌, ◌-◌, ◌%◌, ◌<◌, ◌≤◌, List, [], ◌∷◌, ◌++◌, reverse, Bool, true, false, sym, subst, inl, inr, arith}
use Rattle.std.specs.Prelude.{nat_lt, ℤ, pos, negsuc, ◌+ℤ◌, ◌-ℤ◌, int_lt}
use Rattle.std.specs.Int.{int_rem_euclid}
use Rattle.std.specs.List.{filter_map}
use Rattle.std.proofs.lemmas.Nat.{mod_below}
use Rattle.std.proofs.lemmas.Bool.{cases_Bool, ltb-true}
use Rattle.std.proofs.lemmas.Int.{ints}
use Rattle.std.proofs.lemmas.List.{reverse-append}
use Rattle.protocol_model.specs.Bits.{near}
use Rattle.protocol_model.specs.Limits.{packet_modulus}
use Rattle.connection_model.specs.Feed.{Past, Entry, Acked, Told, Heard}
use Rattle.connection_model.specs.Fates.{high_of, named_numbers, number_above, history_of}
use Rattle.hearing_laws.specs.Chains.{AreNear, moved_in}

-- numbers that ascend, above the one number and below the other
abbrev Between : (low : ℕ) → List ℕ → (top : ℕ) → Type 0
Between low [] top = low < top
Between low (n ∷ ns) top = (low < n) × Between n ns top

behind : (low : ℕ) (ns : List ℕ) (n top : ℕ) → Between low ns n → n < top → Between low (ns ++ n ∷ []) top
behind low [] n top h t = (h, t)
behind low (m ∷ ns) n top h t = (h.0, behind m ns n top h.1 t)

below : (low : ℕ) (ns : List ℕ) (top : ℕ) → Between low ns top → low < top
below low [] top h = h
below low (n ∷ ns) top h = let l = below n ns top h.1 in omega (l, h.0, arith)

near_between : (high low : ℕ) (ns : List ℕ) → high ≤ low → Between low ns (high + 8192) → AreNear low ns
near_between high low [] l h = tt
near_between high low (n ∷ ns) l h =
    let t = below n ns (high + 8192) h.1 in
    (h.0, omega (t, l, arith), near_between high n ns (let a = h.0 in omega (a, l, arith)) h.1)

is_less : (a b : ℤ) → (int_lt a b ≡ false → ⊥) → int_lt a b ≡ true
is_less a b never = elim (cases_Bool (int_lt a b)) [ inl e ↦ e | inr e ↦ absurd (never e) ]

-- the numbers named from one below the top on are between
named : (high : ℕ) (a : ℤ) (bits : List Bool) (top : ℕ) → int_lt a (pos top) ≡ true → high < top
    → Between high (reverse (filter_map (number_above high) (named_numbers a bits))) top
named high a [] top h l = l
named high a (false ∷ bits) top h l =
    named high (a -ℤ pos 1) bits top (is_less (a -ℤ pos 1) (pos top) (λ e. omega (h, e, arith, ints))) l
named high (negsuc n) (true ∷ bits) top h l =
    named high (negsuc n -ℤ pos 1) bits top (is_less (negsuc n -ℤ pos 1) (pos top) (λ e. omega (h, e, arith, ints))) l
named high (pos n) (true ∷ bits) top h l = elim (cases_Bool (nat_lt high n)) [
  | inl e ↦ rw e (subst (λ (ns : List ℕ). Between high ns top)
      (sym (reverse-append (n ∷ []) (filter_map (number_above high) (named_numbers (pos n -ℤ pos 1) bits))))
      (behind high (reverse (filter_map (number_above high) (named_numbers (pos n -ℤ pos 1) bits))) n top
      (named high (pos n -ℤ pos 1) bits n (is_less (pos n -ℤ pos 1) (pos n) (λ f. omega (f, arith, ints)))
      (ltb-true high n e))
      (omega (h, arith, ints))))
  | inr e ↦ rw e (named high (pos n -ℤ pos 1) bits top (is_less (pos n -ℤ pos 1) (pos top)
      (λ e. omega (h, e, arith, ints))) l)
]

-- a number that travels is told within half of all numbers above the reference
below_half : (z : ℤ) (high : ℕ) → int_lt (pos high +ℤ int_rem_euclid z (pos 16384) -ℤ pos 8192) (pos (high + 8192))
    ≡ true
below_half (pos a) high =
    is_less (pos high +ℤ pos (a % 16384) -ℤ pos 8192) (pos (high + 8192))
    (λ e. let r = mod_below a 16384 (omega arith) in omega (e, r, arith, ints))
below_half (negsuc a) high =
    is_less (pos high +ℤ pos (16384 - 1 - a % 16384) -ℤ pos 8192) (pos (high + 8192)) (λ e. omega (e, arith, ints))

near_below : (n high : ℕ) → int_lt (near n (pos high) packet_modulus) (pos (high + 8192)) ≡ true
near_below n high = below_half (pos n -ℤ pos high +ℤ pos 8192) high

pub moved_near : (past : Past) (entry : Entry) → AreNear (high_of past) (moved_in past entry)
moved_near past (Heard b) = tt
moved_near past (Acked k) = near_between (high_of past) (high_of past) _ (omega arith)
    (named (high_of past) (near k (pos (high_of past)) packet_modulus) (true ∷ [])
    (high_of past + 8192) (near_below k (high_of past)) (omega arith))
moved_near past (Told head) = near_between (high_of past) (high_of past) _ (omega arith)
    (named (high_of past) (near head.top (pos (high_of past)) packet_modulus) (history_of head)
    (high_of past + 8192) (near_below head.top (high_of past)) (omega arith))
