use Rattle.std.proofs.Common.{◌≡◌, None, Some, refl, sym, ap, subst, ◌∙◌}
use Rattle.channel_table.specs.Holders.{Bound, channel_bound, actor_bound, IsPaired, other_than}
use Rattle.channel_table.proofs.Bound.{read_channels, read_less, read_actor, read_paired, actors_without, without_holder, none_goes, none_read, holds, held_within, held_low}
use Rattle.channel_table.proofs.holders.Holders.unbind.Goals as goal

pub returns-in-Some-clause-channels : goal.returns-in-Some-clause-channels
returns-in-Some-clause-channels c = λ q.
    let xs = c.self.inside.by_actor.entries in
    let held : actor_bound xs c.args.channel ≡ Some c.in-Some.actor =
    sym (c.self.invariant.at c.args.channel) ∙ sym c.holder.ensures ∙ c.in-Some.is in
    read_channels xs c.swap_remove.new.self.entries c.in-Some.actor None c.swap_remove.ensures.updates.0 q
    ∙ without_holder xs c.in-Some.actor c.args.channel q c.self.invariant.paired held
    ∙ ap (λ (bs : Bound). other_than c.args.channel (channel_bound bs q)) c.self.view_is

pub returns-in-Some-clause-actors : goal.returns-in-Some-clause-actors
returns-in-Some-clause-actors c = λ k.
    let xs = c.self.inside.by_actor.entries in
    let ys = c.swap_remove.new.self.entries in
    let held : actor_bound xs c.args.channel ≡ Some c.in-Some.actor =
    sym (c.self.invariant.at c.args.channel) ∙ sym c.holder.ensures ∙ c.in-Some.is in
    read_actor ys (actors_without xs c.args.channel) c.swap_remove.ensures.unique
    (read_less xs ys c.in-Some.actor c.args.channel c.self.invariant.paired held
    (read_channels xs ys c.in-Some.actor None c.swap_remove.ensures.updates.0)) k
    ∙ ap (λ (bs : Bound). actors_without bs c.args.channel k) c.self.view_is

pub returns-in-Some-clause-pairs : goal.returns-in-Some-clause-pairs
returns-in-Some-clause-pairs c =
    let xs = c.self.inside.by_actor.entries in
    let ys = c.swap_remove.new.self.entries in
    let held : actor_bound xs c.args.channel ≡ Some c.in-Some.actor =
    sym (c.self.invariant.at c.args.channel) ∙ sym c.holder.ensures ∙ c.in-Some.is in
    read_paired ys (actors_without xs c.args.channel) c.swap_remove.ensures.unique
    (read_less xs ys c.in-Some.actor c.args.channel c.self.invariant.paired held
    (read_channels xs ys c.in-Some.actor None c.swap_remove.ensures.updates.0))

pub invariant_of-self : goal.invariant_of-self
invariant_of-self c =
    let xs = c.self.inside.by_actor.entries in
    let ys = c.swap_remove.new.self.entries in
    let held : actor_bound xs c.args.channel ≡ Some c.in-Some.actor =
    sym (c.self.invariant.at c.args.channel) ∙ sym c.holder.ensures ∙ c.in-Some.is in
    holds xs ys c.self.inside.by_channel.items c.self.inside.by_channel.items c.self.inside.used c.put.new.self
    c.args.channel 0 None c.self.invariant c.swap_remove.ensures.unique
    (read_less xs ys c.in-Some.actor c.args.channel c.self.invariant.paired held
    (read_channels xs ys c.in-Some.actor None c.swap_remove.ensures.updates.0))
    (λ k. refl) (held_within c.self.inside.by_channel.items c.args.channel c.in-Some.actor
    (sym c.holder.ensures ∙ c.in-Some.is)) (held_low xs c.self.inside.by_channel.items c.self.inside.used c.args.channel
    c.in-Some.actor c.self.invariant held) refl c.put.ensures

pub returns-in_default-clause-channels : goal.returns-in_default-clause-channels
returns-in_default-clause-channels c = λ q.
    let none : actor_bound c.args.self.now c.args.channel ≡ None =
    ap (λ (bs : Bound). actor_bound bs c.args.channel) (sym c.self.view_is)
    ∙ sym (c.self.invariant.at c.args.channel) ∙ sym c.holder.ensures ∙ c.in_default.is in
    none_goes c.args.self.now c.args.channel q (subst IsPaired c.self.view_is c.self.invariant.paired) none

pub returns-in_default-clause-actors : goal.returns-in_default-clause-actors
returns-in_default-clause-actors c = λ k.
    let none : actor_bound c.args.self.now c.args.channel ≡ None =
    ap (λ (bs : Bound). actor_bound bs c.args.channel) (sym c.self.view_is)
    ∙ sym (c.self.invariant.at c.args.channel) ∙ sym c.holder.ensures ∙ c.in_default.is in
    none_read c.args.self.now c.args.channel k none

pub returns-in_default-clause-pairs : goal.returns-in_default-clause-pairs
returns-in_default-clause-pairs c = subst IsPaired c.self.view_is c.self.invariant.paired
