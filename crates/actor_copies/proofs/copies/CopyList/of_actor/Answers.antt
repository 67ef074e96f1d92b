use Rattle.std.proofs.Common.{List, option_and_then, sym, ap, ◌∙◌}
use Rattle.std.specs.Option.{option_copied}
use Rattle.slab.specs.Slab.{get as stored_at}
use Rattle.actor_copies.specs.declared.copy.ActorCopy.{ActorCopy}
use Rattle.actor_copies.specs.Kept.{kept_of}
use Rattle.actor_copies.proofs.Listed.{found_of}
use Rattle.actor_copies.proofs.copies.CopyList.of_actor.Goals as goal

pub returns-in_err-key : goal.returns-in_err-key
returns-in_err-key c =
    ap option_copied c.from_residual.ensures
    ∙ sym (ap (λ (copies : List ActorCopy). kept_of copies c.args.actor) (sym c.self.view_is)
    ∙ found_of c.self.inside.copies c.self.inside.by_actor c.self.inside.by_channel.items c.args.actor
    c.self.invariant
    ∙ ap (option_and_then (stored_at c.self.inside.copies)) (sym c.key_of.ensures ∙ c.in_err-key.was))

pub returns : goal.returns
returns c =
    c.get.ensures
    ∙ sym (ap (λ (copies : List ActorCopy). kept_of copies c.args.actor) (sym c.self.view_is)
    ∙ found_of c.self.inside.copies c.self.inside.by_actor c.self.inside.by_channel.items c.args.actor
    c.self.invariant
    ∙ ap (option_and_then (stored_at c.self.inside.copies)) (sym c.key_of.ensures ∙ c.in_ok-key.was))
