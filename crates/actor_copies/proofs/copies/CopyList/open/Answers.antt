use Rattle.std.proofs.Common.{sym, ◌∙◌}
use Rattle.actor_copies.proofs.Following.{woken_follows, new_follows}
use Rattle.actor_copies.proofs.copies.CopyList.open.Goals as goal

pub returns-then-contains-clause-follows : goal.returns-then-contains-clause-follows
returns-then-contains-clause-follows c = λ placed.
    (woken_follows c.args.classes.now c.args.self.now c.wake.new.self c.args.read c.args.channel
    c.as_slice.result.now c.keeps_rules.ensures.rules placed c.requires.class c.as_slice.ensures
    (sym c.contains.ensures ∙ c.if-contains.true) c.in_ok-wake.ensures.ok).0

pub returns-then-contains-clause-placed : goal.returns-then-contains-clause-placed
returns-then-contains-clause-placed c = λ placed.
    (woken_follows c.args.classes.now c.args.self.now c.wake.new.self c.args.read c.args.channel
    c.as_slice.result.now c.keeps_rules.ensures.rules placed c.requires.class c.as_slice.ensures
    (sym c.contains.ensures ∙ c.if-contains.true) c.in_ok-wake.ensures.ok).1

pub returns-clause-follows : goal.returns-clause-follows
returns-clause-follows c = λ placed.
    (new_follows c.args.classes.now c.args.self.now c.put.new.self c.args.read c.args.channel c.in_ok-copy.copy
    c.in_ok-copy.ensures placed c.requires.class (sym c.contains.ensures ∙ c.if-contains.false)
    c.in_ok-put.ensures.ok).0

pub returns-clause-placed : goal.returns-clause-placed
returns-clause-placed c = λ placed.
    (new_follows c.args.classes.now c.args.self.now c.put.new.self c.args.read c.args.channel c.in_ok-copy.copy
    c.in_ok-copy.ensures placed c.requires.class (sym c.contains.ensures ∙ c.if-contains.false)
    c.in_ok-put.ensures.ok).1
