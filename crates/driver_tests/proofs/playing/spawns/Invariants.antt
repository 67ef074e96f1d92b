use Rattle.std.proofs.Common.{◌+◌}
use Rattle.driver_tests.specs.Playing.{IsPlaying}
use Rattle.driver_tests.proofs.playing.spawns.Given as goal

-- so many more edits were taken
abbrev pub invariant-loop-before : goal.invariant-loop-before
invariant-loop-before l = IsPlaying l.driver (l.edits + l.before)
