use Rattle.link_end.specs.Trials.{IsIdle}
use Rattle.link_end.proofs.tests.are_packed.Given as goal

abbrev pub invariant-packets : goal.invariant-packets
invariant-packets g l = IsIdle l.there
