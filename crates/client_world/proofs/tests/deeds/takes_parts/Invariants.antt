use Rattle.client_world.specs.Played.{IsReady}
use Rattle.client_world.proofs.tests.deeds.takes_parts.Given as goal

abbrev pub invariant-parts : goal.invariant-parts
invariant-parts l = IsReady l.client
