use Rattle.std.proofs.Common.{◌∷◌, [], ◌++◌}
use Rattle.connection_model.specs.Feed.{Sent, Carries}
use Rattle.channel_table.proofs.Kept.{shown, as_shown, keeps_carrying}
use Rattle.channel_table.proofs.table.ChannelTable.carried.Goals as goal

pub returns-clause-keeps : goal.returns-clause-keeps
returns-clause-keeps c = λ side past t items bunch h.
    let k = as_shown
    (shown c.self.inside.out c.self.inside.incoming c.self.inside.holders c.self.inside.calls.items) _ side
    (Sent c.args.packet t items ∷ past) c.self.view_is h in
    keeps_carrying
    (shown c.self.inside.out c.self.inside.incoming c.self.inside.holders c.self.inside.calls.items)
    c.carried.new.self side past c.args.packet t items (items ++ Carries c.args.channel c.args.n bunch ∷ [])
    k
    (c.carried.ensures.keeps past t items bunch k.made)
