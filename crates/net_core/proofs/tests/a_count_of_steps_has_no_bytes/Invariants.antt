use Rattle.net_core.proofs.tests.a_count_of_steps_has_no_bytes.Given as goal

-- the ledger is the one that the blank names
abbrev pub ghosts-three_steps : goal.ghosts-three_steps
ghosts-three_steps g a = record { name = a.blank.name; parts = a.blank.parts }
