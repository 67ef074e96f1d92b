use Rattle.link_end.specs.Trials.{IsIdle}
use Rattle.link_end.proofs.tests.asks.Given as goal

abbrev pub invariant-silent : goal.invariant-silent
invariant-silent g l = IsIdle l.here
