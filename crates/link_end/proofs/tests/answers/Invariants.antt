use Rattle.link_end.specs.Trials.{IsIdle}
use Rattle.link_end.proofs.tests.answers.Given as goal

abbrev pub invariant-loop-packet : goal.invariant-loop-packet
invariant-loop-packet g l = IsIdle l.there
