use Rattle.world_table.proofs.world.World.take.Goals as goal

pub returns-in-Spawn-clause-answer : goal.returns-in-Spawn-clause-answer
returns-in-Spawn-clause-answer c = λ edits h. rw c.in-Spawn.is (c.spawn.ensures.answer edits h)
