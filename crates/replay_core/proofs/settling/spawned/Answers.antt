use Rattle.class_layout.specs.Tables.{table_in}
use Rattle.replay_core.proofs.Pairs.{looked_on, looked_past}
use Rattle.replay_core.proofs.settling.spawned.Goals as goal

pub returns-then-is_none-clause-count : goal.returns-then-is_none-clause-count
returns-then-is_none-clause-count g c = λ layout edits players h.
    looked_past layout c.args.driver.now edits players (table_in c.world-world.result.now.layout) c.loop-count.count c.look.result h
    (c.look.ensures.look h.served.edits (c.world-world.ensures.stands h.served h.serves)) c.if-is_none.ensures
    (c.loop-count.invariant layout edits players h)

pub loop-count-preserved : goal.loop-count-preserved
loop-count-preserved g c = λ layout edits players h.
    looked_on layout c.args.driver.now edits players (table_in c.world-world.result.now.layout) c.loop-count.count c.look.result h
    (c.look.ensures.look h.served.edits (c.world-world.ensures.stands h.served h.serves)) c.if-is_none.ensures
