use Rattle.client_world.specs.Played.{IsReady}
use Rattle.client_world.proofs.tests.deeds.cut.Given as goal

abbrev pub invariant-cuts : goal.invariant-cuts
invariant-cuts l = IsReady l.client
