use Rattle.client_world.specs.Played.{IsReady}
use Rattle.client_world.proofs.tests.deeds.calls_often.Given as goal

abbrev pub invariant-calls : goal.invariant-calls
invariant-calls l = IsReady l.client
