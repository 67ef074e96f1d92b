use Rattle.client_world.specs.Played.{IsReady}
use Rattle.client_world.proofs.tests.deeds.tick_often.Given as goal

abbrev pub invariant-ticks : goal.invariant-ticks
invariant-ticks l = IsReady l.client
