use Rattle.std.proofs.Common.{List, Some, subst}
use Rattle.value_codec.specs.declared.pair.Pair.{Pair}
use Rattle.actor_copies.specs.Applied.{WasHanded, Follow, update_message}
use Rattle.actor_copies.specs.Kept.{kept_on, changed}
use Rattle.actor_copies.proofs.Following.{update_follows, becomes_put, placed_after, class_on, changed_class}
use Rattle.actor_copies.proofs.copies.CopyList.update.Goals as goal

pub returns-clause-follows : goal.returns-clause-follows
returns-clause-follows c = λ layout x e.
    subst (λ (pairs : List Pair). Follow layout c.args.self.now c.set_on.new.self
    (WasHanded (update_message layout x pairs))) c.as_slice.ensures
    (update_follows layout c.args.self.now c.set_on.new.self c.args.channel x c.as_slice.result.now e
    (becomes_put c.args.self.now c.set_on.new.self (kept_on c.args.self.now c.args.channel)
    (λ x. Some (changed x (Some c.args.channel) c.as_slice.result.now)) x c.set_on.ensures e))

pub returns-clause-placed : goal.returns-clause-placed
returns-clause-placed c = λ count placed.
    placed_after count c.args.self.now c.set_on.new.self (kept_on c.args.self.now c.args.channel)
    (λ x. Some (changed x (Some c.args.channel) c.as_slice.result.now))
    (changed_class (Some c.args.channel) c.as_slice.result.now) placed
    (λ x e. class_on count c.args.self.now c.args.channel x placed e) c.set_on.ensures
