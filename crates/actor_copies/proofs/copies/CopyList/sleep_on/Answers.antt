use Rattle.std.proofs.Common.{[], None, Some, sym, ◌∙◌}
use Rattle.actor_copies.specs.Kept.{kept_on, changed}
use Rattle.actor_copies.proofs.Steps.{no_change, as_seen, none_on, sleep_done}
use Rattle.actor_copies.proofs.copies.CopyList.sleep_on.Goals as goal

pub returns-in_default : goal.returns-in_default
returns-in_default c =
    no_change (λ copies. kept_on copies c.args.channel) (λ x. Some (changed x None [])) _ c.args.self.now
    c.self.view_is
    (none_on c.self.inside.copies c.self.inside.by_actor c.self.inside.by_channel.items c.args.channel
    c.self.invariant (sym c.holder.ensures ∙ c.in_default.is))

pub invariant_of-self : goal.invariant_of-self
invariant_of-self c =
    (sleep_done c.self.inside.copies c.change_at.new.copies c.self.inside.by_actor
    c.self.inside.by_channel.items c.clear_holder.new.keys.items c.args.channel c.in-Some.key c.self.invariant
    (sym c.holder.ensures ∙ c.in-Some.is) c.change_at.ensures.at c.change_at.ensures.others
    c.clear_holder.ensures.at).0

pub returns : goal.returns
returns c =
    as_seen (λ copies. kept_on copies c.args.channel) (λ x. Some (changed x None [])) _ c.args.self.now _
    c.self.view_is
    (sleep_done c.self.inside.copies c.change_at.new.copies c.self.inside.by_actor
    c.self.inside.by_channel.items c.clear_holder.new.keys.items c.args.channel c.in-Some.key c.self.invariant
    (sym c.holder.ensures ∙ c.in-Some.is) c.change_at.ensures.at c.change_at.ensures.others
    c.clear_holder.ensures.at).1
