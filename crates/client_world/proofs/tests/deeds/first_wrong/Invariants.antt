use Rattle.client_world.specs.Played.{IsReady}
use Rattle.client_world.proofs.tests.deeds.first_wrong.Given as goal

abbrev pub invariant-deeds : goal.invariant-deeds
invariant-deeds l = IsReady l.client
