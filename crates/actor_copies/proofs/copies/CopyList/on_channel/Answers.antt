use Rattle.std.proofs.Common.{List, option_and_then, sym, ap, ◌∙◌}
use Rattle.std.specs.Option.{option_copied}
use Rattle.slab.specs.Slab.{get as stored_at}
use Rattle.actor_copies.specs.declared.copy.ActorCopy.{ActorCopy}
use Rattle.actor_copies.specs.Kept.{kept_on}
use Rattle.actor_copies.proofs.Listed.{found_on}
use Rattle.actor_copies.proofs.copies.CopyList.on_channel.Goals as goal

pub returns-in_err-key : goal.returns-in_err-key
returns-in_err-key c =
    ap option_copied c.from_residual.ensures
    ∙ sym (ap (λ (copies : List ActorCopy). kept_on copies c.args.channel) (sym c.self.view_is)
    ∙ found_on c.self.inside.copies c.self.inside.by_actor c.self.inside.by_channel.items c.args.channel
    c.self.invariant
    ∙ ap (option_and_then (stored_at c.self.inside.copies)) (sym c.holder.ensures ∙ c.in_err-key.was))

pub returns : goal.returns
returns c =
    c.get.ensures
    ∙ sym (ap (λ (copies : List ActorCopy). kept_on copies c.args.channel) (sym c.self.view_is)
    ∙ found_on c.self.inside.copies c.self.inside.by_actor c.self.inside.by_channel.items c.args.channel
    c.self.invariant
    ∙ ap (option_and_then (stored_at c.self.inside.copies)) (sym c.holder.ensures ∙ c.in_ok-key.was))
