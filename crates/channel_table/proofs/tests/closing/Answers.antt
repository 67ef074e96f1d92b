use Rattle.std.proofs.Common.{[], true, refl, sym}
use Rattle.protocol_model.specs.Side.{AtServer}
use Rattle.protocol_model.specs.Payload.{Closes}
use Rattle.connection_model.specs.Bunches.{after_making}
use Rattle.channel_table.proofs.tests.closing.Goals as goal

pub returns : goal.returns
returns c =
    let made = after_making [] 1 (Closes 2 true) in
    c.unseen_by_the_table.ensures.begun c.push.new.self AtServer made 7 1
    (c.in_ok-push.ensures.keeps AtServer [] [] (Closes 2 true)
    (c.in_ok-table.ensures.server refl).bunches refl (sym c.in_ok-payload.ensures) (refl, refl))
