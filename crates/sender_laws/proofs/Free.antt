-- The free index is the only one that is free while none below it is.
use Rattle.std.proofs.Common.{◌≡◌, inl, inr, ◌∙◌, ℕ, ◌<◌, ◌≤◌, length, Bool, true, false, ◌&&◌, not, ◌==◌, ap, sym}
use Rattle.std.proofs.lemmas.Bool.{false≢true, eq-eqb, cases_order}
use Rattle.connection_model.specs.Feed.{Past}
use Rattle.connection_model.specs.Bunches.{channels_of, span}
use Rattle.connection_model.specs.State.{is_held, free_index}
use Rattle.connection_laws.proofs.Searches.{least_below}
use Rattle.connection_laws.proofs.Holding.{free_index_fits}

-- a free index below which none is free is the free index
pub free_is : (past : Past) (r : ℕ) → 1 ≤ r → is_held past r ≡ false → span past r ≡ 0
    → ((ch : ℕ) → 1 ≤ ch → ch < r → span past ch ≡ 0 → is_held past ch ≡ true) → free_index past ≡ r
free_is past r some free clear below = elim (cases_order (free_index past) r) [
  | inl e ↦ e
  | inr (inl lt) ↦
      (let f = free_index_fits past in absurd (false≢true (sym f.held ∙ below (free_index past) f.low lt f.clear)))
  | inr (inr gt) ↦ absurd
      (false≢true (sym (least_below (λ ch. not (is_held past ch) && (span past ch == 0)) (length (channels_of past)) 1 r some gt) ∙ passes))
]
  where
    passes : (not (is_held past r) && (span past r == 0)) ≡ true
    passes = ap (λ (b : Bool). not b && (span past r == 0)) free ∙ eq-eqb (span past r) 0 clear
