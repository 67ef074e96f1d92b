use Rattle.replay_core.proofs.replay.Replay.settled_count.Given as goal

abbrev pub ghosts-spawned : goal.ghosts-spawned
ghosts-spawned a = record { name = a.blank.name; parts = a.blank.parts }
