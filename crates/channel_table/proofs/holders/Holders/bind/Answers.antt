use Rattle.std.proofs.Common.{◌≡◌, ◌==◌, ℕ, None, Some, if◌then◌else◌, refl, ap, ◌∙◌, arith}
use Rattle.channel_table.specs.Holders.{Bound, channel_bound, actor_bound}
use Rattle.channel_table.proofs.Bound.{read_channels, read_more, read_actor, read_paired, actors_with, holds}
use Rattle.channel_table.proofs.holders.Holders.bind.Goals as goal

pub returns-clause-channels : goal.returns-clause-channels
returns-clause-channels c = λ q.
    read_channels c.self.inside.by_actor.entries c.insert.new.self.entries c.actor.inside.0 (Some c.args.channel)
    c.in_ok-insert.ensures.updates.0 q
    ∙ ap (λ (a : ℕ). if q == a then Some c.args.channel else channel_bound c.self.inside.by_actor.entries q)
    c.actor.view_is
    ∙ ap (λ (xs : Bound). if q == c.args.actor then Some c.args.channel else channel_bound xs q) c.self.view_is

pub returns-clause-actors : goal.returns-clause-actors
returns-clause-actors c = λ k.
    let xs = c.self.inside.by_actor.entries in
    let ys = c.insert.new.self.entries in
    let a = c.actor.inside.0 in
    let free : channel_bound xs a ≡ None = ap (λ (bs : Bound). channel_bound bs a) c.self.view_is
    ∙ ap (channel_bound c.args.self.now) c.actor.view_is ∙ c.requires.actor_free in
    let none : actor_bound xs c.args.channel ≡ None =
    ap (λ (bs : Bound). actor_bound bs c.args.channel) c.self.view_is ∙ c.requires.channel_free in
    read_actor ys (actors_with xs a c.args.channel) c.insert.ensures.unique
    (read_more xs ys a c.args.channel c.self.invariant.paired none free
    (read_channels xs ys a (Some c.args.channel) c.in_ok-insert.ensures.updates.0)) k
    ∙ ap (λ (n : ℕ). if k == c.args.channel then Some n else actor_bound xs k) c.actor.view_is
    ∙ ap (λ (bs : Bound). if k == c.args.channel then Some c.args.actor else actor_bound bs k) c.self.view_is

pub returns-clause-pairs : goal.returns-clause-pairs
returns-clause-pairs c =
    let xs = c.self.inside.by_actor.entries in
    let ys = c.insert.new.self.entries in
    let a = c.actor.inside.0 in
    let free : channel_bound xs a ≡ None = ap (λ (bs : Bound). channel_bound bs a) c.self.view_is
    ∙ ap (channel_bound c.args.self.now) c.actor.view_is ∙ c.requires.actor_free in
    let none : actor_bound xs c.args.channel ≡ None =
    ap (λ (bs : Bound). actor_bound bs c.args.channel) c.self.view_is ∙ c.requires.channel_free in
    read_paired ys (actors_with xs a c.args.channel) c.insert.ensures.unique
    (read_more xs ys a c.args.channel c.self.invariant.paired none free
    (read_channels xs ys a (Some c.args.channel) c.in_ok-insert.ensures.updates.0))

pub invariant_of-self-2 : goal.invariant_of-self-2
invariant_of-self-2 c =
    let xs = c.self.inside.by_actor.entries in
    let ys = c.insert.new.self.entries in
    let a = c.actor.inside.0 in
    let free : channel_bound xs a ≡ None = ap (λ (bs : Bound). channel_bound bs a) c.self.view_is
    ∙ ap (channel_bound c.args.self.now) c.actor.view_is ∙ c.requires.actor_free in
    let none : actor_bound xs c.args.channel ≡ None =
    ap (λ (bs : Bound). actor_bound bs c.args.channel) c.self.view_is ∙ c.requires.channel_free in
    holds xs ys c.self.inside.by_channel.items c.grow.new.by_channel.items c.self.inside.used c.put.new.self
    c.args.channel 1 (Some a) c.self.invariant c.insert.ensures.unique
    (read_more xs ys a c.args.channel c.self.invariant.paired none free
    (read_channels xs ys a (Some c.args.channel) c.in_ok-insert.ensures.updates.0))
    c.in_ok-grow.ensures.same (omega (arith, c.in_ok-grow.ensures.least)) c.requires.most refl c.put.ensures
