use Rattle.std.proofs.Common.{[], refl, arith, true}
use Rattle.protocol_model.specs.Payload.{Closes}
use Rattle.connection_model.specs.Bunches.{after_making}
use Rattle.outgoing_channels.proofs.tests.carried_once.Goals as goal

pub carried-requires-clause-due : goal.carried-requires-clause-due
carried-requires-clause-due c =
    (after_making [] 3 (Closes 2 true), 1, [], c.in_ok-channels.ensures.keeps, refl, omega arith, omega arith)
