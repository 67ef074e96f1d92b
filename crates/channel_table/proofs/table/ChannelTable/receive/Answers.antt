use Rattle.std.proofs.Common.{◌∷◌}
use Rattle.packet_codec.specs.Values.{bunch_of}
use Rattle.connection_model.specs.Feed.{Took}
use Rattle.channel_table.proofs.Kept.{shown, as_shown, keeps_heard}
use Rattle.channel_table.proofs.table.ChannelTable.receive.Goals as goal

pub returns-clause-keeps : goal.returns-clause-keeps
returns-clause-keeps c = λ side past m entries handed after h none read.
    let t = shown c.self.inside.out c.self.inside.incoming c.self.inside.holders c.self.inside.calls.items in
    let k = as_shown t _ side (Took m entries handed ∷ past) c.self.view_is h in
    keeps_heard t c.receive.new.self side past m entries handed after (bunch_of c.args.b.now) k
    (c.in_ok-delivered.ensures.keeps side past m entries handed after k.got none read)
