use Rattle.std.proofs.Common.{length, sym, ap, ◌∙◌}
use Rattle.actor_copies.proofs.Listed.{count_of}
use Rattle.actor_copies.proofs.copies.CopyList.len.Goals as goal

pub returns : goal.returns
returns c =
    c.len.ensures.len
    ∙ sym (count_of c.self.inside.copies c.self.inside.by_actor c.self.inside.by_channel.items c.self.invariant)
    ∙ ap length c.self.view_is
