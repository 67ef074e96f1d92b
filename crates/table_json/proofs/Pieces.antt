-- What stands between separators, where the first one is found.
use Rattle.std.proofs.Common.{◌≡◌, ◌≢◌, ℕ, suc, ◌<◌, List, [], ◌∷◌, ◌++◌, length, get_or, refl, ap, ◌∙◌, arith, true, false, nat_eq, Option, Some, None, Bor}
use Rattle.std.proofs.lemmas.Bool.Decides.{nat_tests}
use Rattle.std.proofs.lemmas.Str.Pattern.{IsSplitOnceResult, split_parts}
use Rattle.std.specs.Option.{MatchOption}
use Rattle.script_model.specs.Lines.{Text}
use Rattle.script_model.specs.Script.{pieces, add_to_first}

-- none of the bytes is the separator
abbrev pub Lacks : ℕ → Text → Type 0
Lacks s text = (i : ℕ) → i < length text → get_or text i 0 ≢ s

-- so do those after the first one
later : (s b : ℕ) (text : Text) → Lacks s (b ∷ text) → Lacks s text
later s b text h = λ i within. h (suc i) (omega (arith, within))

-- nor is the first one
differs : (s b : ℕ) (text : Text) → Lacks s (b ∷ text) → nat_eq b s ≡ false
differs s b text h = let apart : b ≢ s = h 0 (omega arith) in grind (arith, nat_tests)

-- the first piece ends at the first separator
pub pieces-split : (s : ℕ) (piece rest : Text) → Lacks s piece
    → pieces s (piece ++ s ∷ rest) ≡ piece ∷ pieces s rest
pieces-split s [] rest h = let e : nat_eq s s ≡ true = grind (arith, nat_tests) in rw e refl
pieces-split s (b ∷ piece) rest h =
    rw (differs s b piece h) (ap (add_to_first b) (pieces-split s piece rest (later s b piece h)))

-- without a separator there is one piece
pub pieces-whole : (s : ℕ) (text : Text) → Lacks s text → pieces s text ≡ text ∷ []
pieces-whole s [] h = refl
pieces-whole s (b ∷ text) h =
    rw (differs s b text h) (ap (add_to_first b) (pieces-whole s text (later s b text h)))

-- the first piece and those after it, where a separator splits the text or there is none
abbrev pub Split : ℕ → Text → Option (Bor (List ℕ) × Bor (List ℕ)) → Type 0
Split s text r = MatchOption r (pieces s text ≡ text ∷ []) (λ x. pieces s text ≡ x.0.now ∷ pieces s x.1.now)

-- which a search for the first separator finds
pub split : (s : ℕ) (text : Text) (r : Option (Bor (List ℕ) × Bor (List ℕ)))
    → IsSplitOnceResult s text r → s < 128 → Split s text r
split s text None h small = pieces-whole s text (split_parts s text None h small)
split s text (Some x) h small =
    let parts = split_parts s text (Some x) h small in
    ap (pieces s) parts.0 ∙ pieces-split s x.0.now x.1.now parts.1
