use Rattle.std.proofs.Common.{None, sym, ◌∙◌}
use Rattle.actor_copies.specs.Kept.{kept_on}
use Rattle.actor_copies.proofs.Steps.{no_change, as_seen, none_on, out_on}
use Rattle.actor_copies.proofs.copies.CopyList.remove_on.Goals as goal

pub returns-in_default : goal.returns-in_default
returns-in_default c =
    no_change (λ copies. kept_on copies c.args.channel) (λ x. None) _ c.args.self.now c.self.view_is
    (none_on c.self.inside.copies c.self.inside.by_actor c.self.inside.by_channel.items c.args.channel
    c.self.invariant (sym c.holder.ensures ∙ c.in_default.is))

pub invariant_of-self : goal.invariant_of-self
invariant_of-self c =
    (out_on c.self.inside.copies c.take_out.new.copies c.self.inside.by_actor c.take_out.new.by_actor
    c.self.inside.by_channel.items c.take_out.new.by_channel.items c.args.channel c.in-Some.key
    c.self.invariant (sym c.holder.ensures ∙ c.in-Some.is) c.take_out.ensures.at c.take_out.ensures.others
    c.take_out.ensures.ordered c.take_out.ensures.actors c.take_out.ensures.channels).0

pub returns : goal.returns
returns c =
    as_seen (λ copies. kept_on copies c.args.channel) (λ x. None) _ c.args.self.now _ c.self.view_is
    (out_on c.self.inside.copies c.take_out.new.copies c.self.inside.by_actor c.take_out.new.by_actor
    c.self.inside.by_channel.items c.take_out.new.by_channel.items c.args.channel c.in-Some.key
    c.self.invariant (sym c.holder.ensures ∙ c.in-Some.is) c.take_out.ensures.at c.take_out.ensures.others
    c.take_out.ensures.ordered c.take_out.ensures.actors c.take_out.ensures.channels).1
