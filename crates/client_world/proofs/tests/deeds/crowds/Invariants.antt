use Rattle.client_world.specs.Played.{IsReady}
use Rattle.client_world.proofs.tests.deeds.crowds.Given as goal

abbrev pub invariant-packets : goal.invariant-packets
invariant-packets l = IsReady l.client
