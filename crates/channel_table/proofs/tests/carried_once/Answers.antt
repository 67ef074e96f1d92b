use Rattle.std.proofs.Common.{[], true}
use Rattle.protocol_model.specs.Side.{AtServer}
use Rattle.protocol_model.specs.Payload.{Closes}
use Rattle.connection_model.specs.Bunches.{after_making, made_bunch}
use Rattle.channel_table.proofs.tests.carried_once.Goals as goal

pub returns : goal.returns
returns c =
    (c.carried.ensures.keeps AtServer (after_making [] 1 (Closes 2 true)) 1 []
    (made_bunch 1 1 (Closes 2 true) 0) c.in_ok-table.ensures).high
