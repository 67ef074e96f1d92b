use Rattle.net_driver.proofs.driver.Driver.settled.Given as goal

abbrev pub ghosts-settled_at : goal.ghosts-settled_at
ghosts-settled_at a = record { name = a.blank.name; parts = a.blank.parts }
