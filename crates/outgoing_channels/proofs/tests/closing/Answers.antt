use Rattle.std.proofs.Common.{[], true, refl, sym}
use Rattle.protocol_model.specs.Payload.{Closes}
use Rattle.connection_model.specs.Bunches.{after_making}
use Rattle.channel_laws.proofs.Alike.{alike_sent}
use Rattle.outgoing_channels.proofs.Pushed.{keeps_alike}
use Rattle.outgoing_channels.proofs.tests.closing.Goals as goal

pub returns-clause-keeps : goal.returns-clause-keeps
returns-clause-keeps c =
    let made = after_making [] 3 (Closes 2 true) in
    let after = c.in_ok-push.ensures.keeps [] (Closes 2 true) c.in_ok-channels.ensures.keeps in
    keeps_alike c.push.new.self made _ (alike_sent 7 1 [] made (λ ch n. refl))
    (after (sym c.in_ok-payload.ensures) (refl, refl))
