use Rattle.link_end.specs.Trials.{IsIdle}
use Rattle.link_end.proofs.tests.stalls.Given as goal

abbrev pub invariant-unheard : goal.invariant-unheard
invariant-unheard g l = IsIdle l.here
