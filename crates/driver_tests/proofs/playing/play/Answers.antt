use Rattle.driver_tests.proofs.playing.play.Goals as goal

pub loop-place-init : goal.loop-place-init
loop-place-init c = c.requires

pub goes_so-requires-clause-playing : goal.goes_so-requires-clause-playing
goes_so-requires-clause-playing c = c.loop-place.invariant

pub loop-place-preserved : goal.loop-place-preserved
loop-place-preserved c = c.in_ok-goes_so.ensures
