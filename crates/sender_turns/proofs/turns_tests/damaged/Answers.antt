use Rattle.std.proofs.Common.{◌≡◌, inr, [], ◌∷◌, true, refl}
use Rattle.change_model.specs.Changes.{Sample}
use Rattle.shadow_changes.specs.Samples.{Samples, Shadows, Keeps, samples_of, may_follow}
use Rattle.sender_turns.proofs.turns_tests.damaged.Goals as goal

next : (new : Shadows) (s : Sample) → Keeps new ((4, s) ∷ []) → may_follow (s ∷ []) 2 3 ≡ true
    → (known : Samples) × Keeps new known × (may_follow (samples_of known 4) 2 3 ≡ true)
next new s kept e = ((4, s) ∷ [], kept, e)

pub sample-requires-2-clause-stands : goal.sample-requires-2-clause-stands
sample-requires-2-clause-stands c =
    inr (next c.sample.new.self _ (c.in_ok-sample.ensures.keeps [] c.new-changes.ensures) refl)
