use Rattle.world_table.proofs.Answering.{answers_guid, answers_no_actor, answers_out_of_range, answers_actors_full, answers_memory}
use Rattle.world_table.proofs.world.World.apply.Goals as goal

pub returns-in-Set-clause-stands : goal.returns-in-Set-clause-stands
returns-in-Set-clause-stands c = rw c.in-Set.is c.set.ensures.stands

pub returns-in-Set-clause-guid : goal.returns-in-Set-clause-guid
returns-in-Set-clause-guid c = λ edits h. rw c.in-Set.is (answers_guid _ _ c.set.result (c.set.ensures.answer edits h))

pub returns-in-Set-clause-no_actor : goal.returns-in-Set-clause-no_actor
returns-in-Set-clause-no_actor c = λ edits h. rw c.in-Set.is (answers_no_actor _ _ c.set.result (c.set.ensures.answer edits h))

pub returns-in-Set-clause-out_of_range : goal.returns-in-Set-clause-out_of_range
returns-in-Set-clause-out_of_range c = λ edits h. rw c.in-Set.is (answers_out_of_range _ _ c.set.result (c.set.ensures.answer edits h))

pub returns-in-Set-clause-actors_full : goal.returns-in-Set-clause-actors_full
returns-in-Set-clause-actors_full c = λ edits h. rw c.in-Set.is (answers_actors_full _ _ c.set.result (c.set.ensures.answer edits h))

pub returns-in-Set-clause-memory : goal.returns-in-Set-clause-memory
returns-in-Set-clause-memory c = λ edits h. rw c.in-Set.is (answers_memory _ _ c.set.result (c.set.ensures.answer edits h))

pub returns-clause-guid : goal.returns-clause-guid
returns-clause-guid c = λ edits h. answers_guid _ _ c.take.result (c.take.ensures.answer edits h)

pub returns-clause-no_actor : goal.returns-clause-no_actor
returns-clause-no_actor c = λ edits h. answers_no_actor _ _ c.take.result (c.take.ensures.answer edits h)

pub returns-clause-out_of_range : goal.returns-clause-out_of_range
returns-clause-out_of_range c = λ edits h. answers_out_of_range _ _ c.take.result (c.take.ensures.answer edits h)

pub returns-clause-actors_full : goal.returns-clause-actors_full
returns-clause-actors_full c = λ edits h. answers_actors_full _ _ c.take.result (c.take.ensures.answer edits h)

pub returns-clause-memory : goal.returns-clause-memory
returns-clause-memory c = λ edits h. answers_memory _ _ c.take.result (c.take.ensures.answer edits h)
