use Rattle.std.proofs.Common.{◌∙◌, ap}
use Rattle.channel_table.specs.Holders.{channel_bound}
use Rattle.channel_table.proofs.Bound.{looked_up}
use Rattle.channel_table.proofs.holders.Holders.channel_of.Goals as goal

pub returns : goal.returns
returns c =
    c.copied.ensures ∙ c.get.ensures.value ∙ looked_up c.self.inside.by_actor.entries c.actor.inside.0
    ∙ ap (λ (xs : _). channel_bound xs c.actor.inside.0) c.self.view_is
    ∙ ap (channel_bound c.args.self.now) c.actor.view_is
