use Rattle.driver_tests.specs.Playing.{IsPlaying}
use Rattle.driver_tests.proofs.playing.play.Given as goal

-- the edits that were taken are no more than are counted
abbrev pub invariant-loop-place : goal.invariant-loop-place
invariant-loop-place l = IsPlaying l.driver l.edits
