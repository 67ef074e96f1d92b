-- What is kept of an open, and the segments that it exports.
use Rattle.std.proofs.Common.{◌≡◌, ◌⊎◌, inl, inr, ℕ, zero, suc, ◌+◌, ◌<◌, ◌≤◌, ◌==◌, List, [], ◌∷◌, Bool, true, false, ◌||◌, drop, get_or, length, refl, ap, sym, ◌∙◌, arith}
use Rattle.std.proofs.lemmas.Bool.{eqb-true, false≢true}
use Rattle.std.proofs.lemmas.List.{drop_more}
use Rattle.protocol_model.specs.Search.{is_among}

-- ---- a number above some guids

-- the guid is still to be looked at, or is below the number so far
abbrev pub IsPassed : (g past : ℕ) → List ℕ → Type 0
IsPassed g past left = (is_among g left ≡ true) ⊎ (g < past)

-- one guid more is
one_more : (g past new x : ℕ) (left rest : List ℕ) → left ≡ x ∷ rest → past ≤ new → x < new → IsPassed g past left
    → IsPassed g new rest
one_more g past new x left rest e le above (inr l) = inr (omega (arith, l, le))
one_more g past new x left rest e le above (inl h) = by_case (x == g) refl (sym (ap (is_among g) e) ∙ h)
  where
    by_case : (b : Bool) → (x == g) ≡ b → (b || is_among g rest) ≡ true → IsPassed g new rest
    by_case true same h = inr (omega (arith, eqb-true x g same, above))
    by_case false same h = inl h

pub one_passed : (g past new : ℕ) (guids : List ℕ) (i x : ℕ) → i < length guids → x ≡ get_or guids i x → past ≤ new
    → x < new → IsPassed g past (drop i guids) → IsPassed g new (drop (i + 1) guids)
one_passed g past new guids i x l e le above passed =
    one_more g past new x (drop i guids) (drop (i + 1) guids)
    (drop_more guids i x l ∙ ap (λ (y : ℕ). y ∷ drop (i + 1) guids) (sym e)) le above passed

-- all are
nothing_left : (guids : List ℕ) (i : ℕ) → length guids ≤ i → drop i guids ≡ []
nothing_left [] zero l = refl
nothing_left [] (suc i) l = refl
nothing_left (x ∷ guids) zero l = absurd (omega (arith, l))
nothing_left (x ∷ guids) (suc i) l = nothing_left guids i (omega (arith, l))

pub all_passed : (g past : ℕ) (guids : List ℕ) (i : ℕ) → length guids ≤ i → IsPassed g past (drop i guids) → g < past
all_passed g past guids i l (inr below) = below
all_passed g past guids i l (inl h) = absurd (false≢true (sym (ap (is_among g) (nothing_left guids i l)) ∙ h))
