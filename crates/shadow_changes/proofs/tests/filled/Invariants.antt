use Rattle.std.proofs.Common.{◌≡◌, ◌+◌, true}
use Rattle.shadow_changes.specs.Samples.{Samples, Keeps, samples_of, may_follow}
use Rattle.shadow_changes.proofs.tests.filled.Given as goal

abbrev pub invariant-loop-i : goal.invariant-loop-i
invariant-loop-i l = (samples : Samples) × Keeps l.shadows samples × (may_follow (samples_of samples 2)
    (l.i + 1) 3 ≡ true)
