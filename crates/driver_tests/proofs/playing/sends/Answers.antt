use Rattle.driver_tests.proofs.playing.sends.Goals as goal

pub tick-requires-clause-playing : goal.tick-requires-clause-playing
tick-requires-clause-playing c = (c.args.edits, c.requires.playing)
