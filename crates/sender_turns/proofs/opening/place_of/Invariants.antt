use Rattle.std.proofs.Common.{◌≡◌, ℕ, ◌<◌, Some}
use Rattle.std.specs.List.{slice_get}
use Rattle.sender_turns.proofs.opening.place_of.Given as goal

abbrev pub invariant-loop-place : goal.invariant-loop-place
invariant-loop-place l =
    (i a : ℕ) → slice_get l.actors i ≡ Some a → i < l.place → a < l.fn.actor
