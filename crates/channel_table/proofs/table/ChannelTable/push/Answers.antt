use Rattle.std.proofs.Common.{◌++◌}
use Rattle.channel_table.proofs.Kept.{shown, as_shown, keeps_making, on_ok}
use Rattle.channel_table.proofs.table.ChannelTable.push.Goals as goal

pub returns-clause-keeps : goal.returns-clause-keeps
returns-clause-keeps c = on_ok c.push.result _ _ (λ keeps side sent past message h sendings said is.
    let k = as_shown
    (shown c.self.inside.out c.self.inside.incoming c.self.inside.holders c.self.inside.calls.items) _ side
    (sent ++ past) c.self.view_is h in
    keeps_making
    (shown c.self.inside.out c.self.inside.incoming c.self.inside.holders c.self.inside.calls.items)
    c.push.new.self side sent past c.args.channel message k sendings
    (keeps (sent ++ past) message k.made said is))
    c.push.ensures.keeps
