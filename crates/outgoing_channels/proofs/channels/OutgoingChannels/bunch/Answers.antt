use Rattle.std.proofs.Common.{◌∙◌, ap, sym, option_map}
use Rattle.reliable_window.specs.Out.{item_kept}
use Rattle.outgoing_channels.specs.Made.{bunch_made, window_of}
use Rattle.outgoing_channels.specs.Slots.{outgoing_of, slot_at}
use Rattle.outgoing_channels.proofs.Bunches.{bunch_is, no_bunch}
use Rattle.outgoing_channels.proofs.Settled.{fits_as}
use Rattle.outgoing_channels.proofs.Views.{as_shown, keeps_slot}
use Rattle.outgoing_channels.proofs.channels.OutgoingChannels.bunch.Goals as goal

pub bunch-requires : goal.bunch-requires
bunch-requires c =
    (c.self.inside.high, fits_as c.self.inside.high c.in-Some.slot.now (slot_at c.self.inside.slots.items c.args.channel) c.in-Some.ensures.some (c.self.invariant.2 c.args.channel).window)

pub returns-in-Some : goal.returns-in-Some
returns-in-Some c = λ past h.
    c.bunch.ensures
    ∙ ap (λ (s : _). option_map bunch_made (item_kept (window_of (outgoing_of s)) c.args.n)) c.in-Some.ensures.some
    ∙ bunch_is past c.args.channel _ c.args.n
    (keeps_slot c.self.inside.slots.items c.self.inside.span_sum c.self.inside.high c.self.inside.count past c.args.channel (as_shown _ _ past c.self.view_is h))

pub returns-in-None : goal.returns-in-None
returns-in-None c = λ past h.
    sym (no_bunch c.args.n)
    ∙ ap (λ (s : _). option_map bunch_made (item_kept (window_of (outgoing_of s)) c.args.n)) (sym c.in-None.ensures.none)
    ∙ bunch_is past c.args.channel _ c.args.n
    (keeps_slot c.self.inside.slots.items c.self.inside.span_sum c.self.inside.high c.self.inside.count past c.args.channel (as_shown _ _ past c.self.view_is h))
