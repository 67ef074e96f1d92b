use Rattle.std.proofs.Common.{◌∙◌, refl}
use Rattle.outgoing_channels.proofs.Told.{keeps_moved}
use Rattle.outgoing_channels.proofs.Views.{shown, as_shown, moves_shown, sum_shown}
use Rattle.outgoing_channels.proofs.channels.OutgoingChannels.moved.Goals as goal

pub returns-clause-keeps : goal.returns-clause-keeps
returns-clause-keeps c = λ past after h move.
    let s = c.settle_all-self-inside.ensures in
    keeps_moved c.args.self.now.high c.args.to past after move (shown c.self.inside.slots.items c.self.inside.span_sum c.self.inside.high c.self.inside.count) _
    (as_shown _ _ past c.self.view_is h)
    (λ ch. moves_shown c.args.to c.self.inside.slots.items c.settle_all-self-inside.new.slots.items ch (s.moves ch))
    (s.sum ∙ sum_shown c.settle_all-self-inside.new.slots.items) refl
