use Rattle.driver_tests.specs.Playing.{IsPlaying}
use Rattle.driver_tests.proofs.playing.all_join.Given as goal

-- no edit was taken
abbrev pub invariant-loop-before : goal.invariant-loop-before
invariant-loop-before l = IsPlaying l.driver 0
