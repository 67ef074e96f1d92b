use Rattle.std.proofs.Common.{None}
use Rattle.actor_copies.specs.Kept.{kept_of}
use Rattle.actor_copies.proofs.Following.{gone_follows, placed_after, class_of_actor, no_copy_on}
use Rattle.actor_copies.proofs.copies.CopyList.remove.Goals as goal

pub returns-clause-follows : goal.returns-clause-follows
returns-clause-follows c = λ layout.
    gone_follows layout c.args.self.now c.remove_of.new.self c.args.actor c.remove_of.ensures

pub returns-clause-placed : goal.returns-clause-placed
returns-clause-placed c = λ count placed.
    placed_after count c.args.self.now c.remove_of.new.self (kept_of c.args.self.now c.args.actor) (λ x. None)
    no_copy_on placed (λ x e. class_of_actor count c.args.self.now c.args.actor x placed e) c.remove_of.ensures
