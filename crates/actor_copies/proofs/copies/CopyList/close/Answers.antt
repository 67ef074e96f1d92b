use Rattle.std.proofs.Common.{[], Bool, Some, None, sym, subst}
use Rattle.protocol_model.specs.Payload.{Closes}
use Rattle.actor_copies.specs.Applied.{WasHanded, Follow}
use Rattle.actor_copies.specs.Kept.{kept_on, changed}
use Rattle.actor_copies.proofs.Following.{sleep_follows, close_follows, becomes_put, placed_after, class_on, no_copy_on, changed_class}
use Rattle.actor_copies.proofs.copies.CopyList.close.Goals as goal

pub returns-then-sleeps-clause-follows : goal.returns-then-sleeps-clause-follows
returns-then-sleeps-clause-follows c = λ layout x e.
    subst (λ (b : Bool). Follow layout c.args.self.now c.sleep_on.new.self (WasHanded (Closes x.actor b)))
    (sym c.if-sleeps.true)
    (sleep_follows layout c.args.self.now c.sleep_on.new.self c.args.channel x e
    (becomes_put c.args.self.now c.sleep_on.new.self (kept_on c.args.self.now c.args.channel)
    (λ x. Some (changed x None [])) x c.sleep_on.ensures e))

pub returns-then-sleeps-clause-placed : goal.returns-then-sleeps-clause-placed
returns-then-sleeps-clause-placed c = λ count placed.
    placed_after count c.args.self.now c.sleep_on.new.self (kept_on c.args.self.now c.args.channel)
    (λ x. Some (changed x None [])) (changed_class None []) placed
    (λ x e. class_on count c.args.self.now c.args.channel x placed e) c.sleep_on.ensures

pub returns-else-sleeps-clause-follows : goal.returns-else-sleeps-clause-follows
returns-else-sleeps-clause-follows c = λ layout x e.
    subst (λ (b : Bool). Follow layout c.args.self.now c.remove_on.new.self (WasHanded (Closes x.actor b)))
    (sym c.if-sleeps.false)
    (close_follows layout c.args.self.now c.remove_on.new.self x
    (becomes_put c.args.self.now c.remove_on.new.self (kept_on c.args.self.now c.args.channel)
    (λ x. None) x c.remove_on.ensures e))

pub returns-else-sleeps-clause-placed : goal.returns-else-sleeps-clause-placed
returns-else-sleeps-clause-placed c = λ count placed.
    placed_after count c.args.self.now c.remove_on.new.self (kept_on c.args.self.now c.args.channel)
    (λ x. None) no_copy_on placed
    (λ x e. class_on count c.args.self.now c.args.channel x placed e) c.remove_on.ensures
