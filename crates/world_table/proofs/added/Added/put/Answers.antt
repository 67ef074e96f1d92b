use Rattle.world_table.proofs.added.Added.put.Goals as goal

pub returns-in_ok-insert-clause-each : goal.returns-in_ok-insert-clause-each
returns-in_ok-insert-clause-each c = λ a p.
    rw (c.if-on.true, ← c.self.view_is) (c.in_ok-insert.ensures.updates.0 (a, p))

pub returns-else-on-clause-each : goal.returns-else-on-clause-each
returns-else-on-clause-each c = λ a p.
    rw (c.if-on.false, ← c.self.view_is) (c.remove.ensures.updates.0 (a, p))
