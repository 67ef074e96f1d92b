use Rattle.std.proofs.Common.{◌∙◌, ap, sym, length}
use Rattle.outgoing_channels.specs.Slots.{kept_of}
use Rattle.outgoing_channels.proofs.Views.{as_shown, keeps_slot}
use Rattle.outgoing_channels.proofs.channels.OutgoingChannels.span.Goals as goal

pub returns-in-Some-clause-span : goal.returns-in-Some-clause-span
returns-in-Some-clause-span c = λ past h.
    c.span.ensures.kept ∙ ap (λ (s : _). length (kept_of s)) c.in-Some.ensures.some
    ∙ (keeps_slot c.self.inside.slots.items c.self.inside.span_sum c.self.inside.high c.self.inside.count past c.args.channel (as_shown _ _ past c.self.view_is h)).count

pub returns-in-None-clause-span : goal.returns-in-None-clause-span
returns-in-None-clause-span c = λ past h.
    sym (ap (λ (s : _). length (kept_of s)) c.in-None.ensures.none)
    ∙ (keeps_slot c.self.inside.slots.items c.self.inside.span_sum c.self.inside.high c.self.inside.count past c.args.channel (as_shown _ _ past c.self.view_is h)).count
