use Rattle.std.proofs.Common.{◌≡◌, ℕ, ◌<◌, Some}
use Rattle.std.specs.List.{slice_get}
use Rattle.sender_steps.specs.declared.sight.Seen.{Seen}
use Rattle.sender_steps.proofs.closes.seek.Given as goal

abbrev pub invariant-loop-place : goal.invariant-loop-place
invariant-loop-place l =
    ((i : ℕ) (s : Seen) → slice_get l.sight i ≡ Some s → i < l.from → s.actor < l.fn.actor)
    → (i : ℕ) (s : Seen) → slice_get l.sight i ≡ Some s → i < l.place → s.actor < l.fn.actor
