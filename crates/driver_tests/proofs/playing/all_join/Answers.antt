use Rattle.driver_tests.proofs.More.{after_join, serving}
use Rattle.driver_tests.proofs.playing.all_join.Goals as goal

pub loop-before-init : goal.loop-before-init
loop-before-init c = c.requires.playing

pub join-requires-clause-stands : goal.join-requires-clause-stands
join-requires-clause-stands c = serving _ 0 c.loop-before.invariant

pub loop-before-preserved : goal.loop-before-preserved
loop-before-preserved c =
    after_join _ _ 0 _ c.join.result c.join.ensures.serves c.join.ensures.refused c.join.ensures.spent
    c.join.ensures.after c.loop-before.invariant

pub returns : goal.returns
returns c = c.loop-before.invariant
