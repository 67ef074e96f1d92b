use Rattle.live_client.specs.Callers.{Stands}
use Rattle.live_client.proofs.tests.does_all.Given as goal

abbrev pub invariant-loop-deed : goal.invariant-loop-deed
invariant-loop-deed l = Stands l.caller
