-- An actor put among others that ascend.
use Rattle.std.proofs.Common.{◌≡◌, ◌≢◌, ◌∙◌, inl, inr, ℕ, zero, suc, ◌<◌, ◌≤◌, ◌==◌, List, [], ◌∷◌, ◌++◌, Bool, true, false, ◌||◌, take, drop, length, Option, Some, None, refl, ap, sym, subst, arith}
use Rattle.std.specs.List.{insert, slice_get}
use Rattle.std.proofs.lemmas.Bool.{cases_eq}
use Rattle.protocol_model.specs.Search.{is_among}
use Rattle.connection_laws.specs.Run.{Ascends}

-- who is below it stands before its place, and nobody there is it
ascends_at : (ns : List ℕ) (low at a : ℕ) → Ascends low ns → low < a → at ≤ length ns
    → ((i b : ℕ) → slice_get ns i ≡ Some b → i < at → b < a)
    → ((b : ℕ) → slice_get ns at ≡ Some b → a < b)
    → Ascends low (take at ns ++ a ∷ drop at ns)
ascends_at [] low zero a h lt most before there = (lt, tt)
ascends_at [] low (suc at) a h lt most before there = absurd (omega (arith, most))
ascends_at (n ∷ ns) low zero a h lt most before there = (lt, (there n refl, h.1))
ascends_at (n ∷ ns) low (suc at) a h lt most before there = (
  h.0,
  ascends_at ns n at a h.1 (before 0 n refl (omega arith)) (omega (arith, most))
      (λ i b e l. before (suc i) b e (omega (arith, l))) there,
)

pub ascends_insert : (ns : List ℕ) (at a : ℕ) → 1 ≤ a → Ascends 0 ns → at ≤ length ns
    → ((i b : ℕ) → slice_get ns i ≡ Some b → i < at → b < a)
    → ((b : ℕ) → slice_get ns at ≡ Some b → a < b)
    → Ascends 0 (insert ns at a)
ascends_insert ns at a some h most before there = ascends_at ns 0 at a h (omega (arith, some)) most before there

-- it is among them, and so are those who were
swapped : (p q r : Bool) → (p || (q || r)) ≡ (q || (p || r))
swapped true true r = refl
swapped true false r = refl
swapped false true r = refl
swapped false false r = refl

pub among_insert : (ns : List ℕ) (at a b : ℕ) → is_among b (insert ns at a) ≡ ((a == b) || is_among b ns)
among_insert [] zero a b = refl
among_insert [] (suc at) a b = refl
among_insert (n ∷ ns) zero a b = refl
among_insert (n ∷ ns) (suc at) a b =
    ap (λ (x : Bool). (n == b) || x) (among_insert ns at a b) ∙ swapped (n == b) (a == b) (is_among b ns)

-- where it was among them already, it is so for each
pub among_there : (ns : List ℕ) (at a b : ℕ) → slice_get ns at ≡ Some a
    → is_among b ns ≡ ((a == b) || is_among b ns)
among_there [] at a b e = absurd (let no : (let o : Option ℕ = None in o) ≡ Some a = e in cc)
among_there (n ∷ ns) zero a b e =
    let same : n ≡ a = cc in
    subst (λ (m : ℕ). ((n == b) || is_among b ns) ≡ ((m == b) || ((n == b) || is_among b ns))) same
    (twice (n == b) (is_among b ns))
  where
    twice : (p r : Bool) → (p || r) ≡ (p || (p || r))
    twice true r = refl
    twice false r = refl
among_there (n ∷ ns) (suc at) a b e =
    ap (λ (x : Bool). (n == b) || x) (among_there ns at a b e) ∙ swapped (n == b) (a == b) (is_among b ns)

-- who stands at its place and isn't it is above it
pub above_place : (ns : List ℕ) (at a : ℕ) → ((b : ℕ) → slice_get ns at ≡ Some b → a ≤ b) → slice_get ns at ≢ Some a
    → (b : ℕ) → slice_get ns at ≡ Some b → a < b
above_place ns at a there other b e = elim (cases_eq a b) [
  | inl same ↦ absurd (other (subst (λ (x : ℕ). slice_get ns at ≡ Some x) (sym same) e))
  | inr ne ↦ apart (there b e) ne
]
  where
    apart : a ≤ b → a ≢ b → a < b
    apart le ne = grind (arith, le, ne)
