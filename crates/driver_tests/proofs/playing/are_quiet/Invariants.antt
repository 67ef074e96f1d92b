use Rattle.driver_tests.specs.Playing.{IsPlaying}
use Rattle.driver_tests.proofs.playing.are_quiet.Given as goal

-- no edit was taken
abbrev pub invariant-loop : goal.invariant-loop
invariant-loop l = IsPlaying l.driver l.edits
