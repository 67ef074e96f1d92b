use Rattle.std.proofs.Common.{ℕ, ◌==◌, ◌∙◌, ap, sym, arith, length, if◌then◌else◌}
use Rattle.std.proofs.lemmas.List.{get_or_past}
use Rattle.outgoing_channels.specs.Slots.{kept_of, empty_slot}
use Rattle.outgoing_channels.proofs.Views.{as_shown, keeps_slot}
use Rattle.outgoing_channels.proofs.channels.OutgoingChannels.active.Goals as goal

pub returns-clause-bits : goal.returns-clause-bits
returns-clause-bits c = λ past ch h low.
    c.self.invariant.1 ch low
    ∙ ap (λ (n : ℕ). if n == 0 then 0 else 1) (keeps_slot c.self.inside.slots.items c.self.inside.span_sum c.self.inside.high c.self.inside.count past ch (as_shown _ _ past c.self.view_is h)).count

pub returns-clause-most : goal.returns-clause-most
returns-clause-most c = λ past ch h high.
    sym (keeps_slot c.self.inside.slots.items c.self.inside.span_sum c.self.inside.high c.self.inside.count past ch (as_shown _ _ past c.self.view_is h)).count
    ∙ ap (λ (s : _). length (kept_of s)) (get_or_past c.self.inside.slots.items ch empty_slot (omega (arith, c.self.invariant.0)))
