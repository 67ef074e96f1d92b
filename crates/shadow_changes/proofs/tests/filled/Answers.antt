use Rattle.std.proofs.Common.{◌≡◌, ℕ, ◌+◌, ◌∷◌, true, ◌&&◌, ◌==◌, nat_lt, length, ap, ◌∙◌, refl, arith}
use Rattle.std.proofs.lemmas.Bool.Decides.{nat_tests}
use Rattle.change_model.specs.Changes.{Sample}
use Rattle.shadow_changes.specs.Samples.{Samples, Shadows, Keeps, samples_of, may_follow}
use Rattle.shadow_changes.proofs.tests.filled.Goals as goal

later : (t n : ℕ) → n ≡ 3 → (nat_lt t (t + 1) && n == 3) ≡ true
later t n e = grind (arith, nat_tests)

next : (new : Shadows) (samples : Samples) (s : Sample) (tick : ℕ) → Keeps new ((2, s) ∷ samples) → s.tick ≡ tick
    → length s.values ≡ 3
    → (known : Samples) × Keeps new known × (may_follow (samples_of known 2) (tick + 1) 3 ≡ true)
next new samples s tick kept e f = (
  (2, s) ∷ samples,
  kept,
  ap (λ (t : ℕ). nat_lt t (tick + 1) && length s.values == 3) e
      ∙ later tick (length s.values) f,
)

pub loop-i-preserved : goal.loop-i-preserved
loop-i-preserved c =
    let h = c.loop-i.invariant in
    next _ h.0 _ (c.loop-i.i + 1) (c.in_ok-sample.ensures.keeps h.0 h.1) refl refl
