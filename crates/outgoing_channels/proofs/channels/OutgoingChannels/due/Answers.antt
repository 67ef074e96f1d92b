use Rattle.outgoing_channels.proofs.Found.{place_found}
use Rattle.outgoing_channels.proofs.Views.{as_shown, keeps_slot}
use Rattle.outgoing_channels.proofs.channels.OutgoingChannels.due.Goals as goal

pub due_from-requires-clause-fits : goal.due_from-requires-clause-fits
due_from-requires-clause-fits c = (c.self.inside.high, λ ch. (c.self.invariant.2 ch).window)

pub returns : goal.returns
returns c = λ past h.
    place_found past c.args.channel c.args.from c.self.inside.slots.items c.due_from.result
    (λ ch. keeps_slot c.self.inside.slots.items c.self.inside.span_sum c.self.inside.high c.self.inside.count past ch (as_shown _ _ past c.self.view_is h))
    c.due_from.ensures
