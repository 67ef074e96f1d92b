use Rattle.actor_sights.proofs.tests.sees.Given as goal

-- the ledger is the one that the blank names
abbrev pub ghosts-shown : goal.ghosts-shown
ghosts-shown a = record { name = a.blank.name; parts = a.blank.parts }
