use Rattle.std.proofs.Common.{ℕ, ◌==◌, List, Option, Some, None, cond, refl, sym, ap, ◌∙◌, arith}
use Rattle.connection_model.specs.Copies.{is_on}
use Rattle.actor_copies.specs.declared.copy.ActorCopy.{ActorCopy}
use Rattle.actor_copies.specs.Index.{key_on}
use Rattle.actor_copies.specs.Kept.{kept_of, kept_on, changed}
use Rattle.actor_copies.proofs.Steps.{no_change, as_seen, none_of, placed_more, wake_done}
use Rattle.actor_copies.proofs.copies.CopyList.wake.Goals as goal

pub returns-in_default-clause-ok : goal.returns-in_default-clause-ok
returns-in_default-clause-ok c =
    as_seen (λ copies. kept_of copies c.args.actor)
    (λ x. Some (changed x (Some c.args.channel) c.args.pairs.now)) _ c.args.self.now _ c.self.view_is
    (no_change (λ copies. kept_of copies c.args.actor)
    (λ x. Some (changed x (Some c.args.channel) c.args.pairs.now)) _ _ refl
    (none_of c.self.inside.copies c.self.inside.by_actor c.self.inside.by_channel.items c.args.actor
    c.self.invariant (sym c.key_of.ensures ∙ c.in_default.is)))

pub set_holder-requires : goal.set_holder-requires
set_holder-requires c =
    let len = c.clear_holder.ensures.len in
    let place = c.in_ok-make_place.ensures.place in
    omega (arith, len, place)

pub invariant_of-self-2 : goal.invariant_of-self-2
invariant_of-self-2 c =
    (wake_done c.self.inside.copies c.change_at.new.copies c.self.inside.by_actor c.make_place.new.keys.items
    c.set_holder.new.keys.items c.args.actor c.args.channel c.in-Some.key c.args.pairs.now
    (placed_more c.self.inside.copies c.self.inside.by_actor c.self.inside.by_channel.items
    c.make_place.new.keys.items c.self.invariant c.in_ok-make_place.ensures.same)
    (sym c.key_of.ensures ∙ c.in-Some.is)
    (ap (λ (copies : List ActorCopy). kept_on copies c.args.channel) c.self.view_is ∙ c.requires.free)
    c.change_at.ensures.at c.change_at.ensures.others
    (λ n. c.set_holder.ensures n ∙ ap (λ (o : Option ℕ). cond (c.args.channel == n) (Some c.in-Some.key) o)
    (c.clear_holder.ensures.at n
    ∙ ap (λ (o : Option ℕ). cond (is_on n o) None (key_on c.make_place.new.keys.items n)) c.channel_at.ensures))).0

pub returns-clause-ok : goal.returns-clause-ok
returns-clause-ok c =
    as_seen (λ copies. kept_of copies c.args.actor)
    (λ x. Some (changed x (Some c.args.channel) c.args.pairs.now)) _ c.args.self.now _ c.self.view_is
    (wake_done c.self.inside.copies c.change_at.new.copies c.self.inside.by_actor c.make_place.new.keys.items
    c.set_holder.new.keys.items c.args.actor c.args.channel c.in-Some.key c.args.pairs.now
    (placed_more c.self.inside.copies c.self.inside.by_actor c.self.inside.by_channel.items
    c.make_place.new.keys.items c.self.invariant c.in_ok-make_place.ensures.same)
    (sym c.key_of.ensures ∙ c.in-Some.is)
    (ap (λ (copies : List ActorCopy). kept_on copies c.args.channel) c.self.view_is ∙ c.requires.free)
    c.change_at.ensures.at c.change_at.ensures.others
    (λ n. c.set_holder.ensures n ∙ ap (λ (o : Option ℕ). cond (c.args.channel == n) (Some c.in-Some.key) o)
    (c.clear_holder.ensures.at n
    ∙ ap (λ (o : Option ℕ). cond (is_on n o) None (key_on c.make_place.new.keys.items n)) c.channel_at.ensures))).1
