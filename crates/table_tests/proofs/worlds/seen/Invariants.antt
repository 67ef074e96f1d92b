use Rattle.table_tests.proofs.worlds.seen.Given as goal

-- the ledger is the one that the blank names
abbrev pub ghosts-seen_by : goal.ghosts-seen_by
ghosts-seen_by a = record { name = a.blank.name; parts = a.blank.parts }
