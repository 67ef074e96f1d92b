use Rattle.server_hearing.proofs.calls.opened_call.Given as goal

abbrev pub ghosts-class_opened : goal.ghosts-class_opened
ghosts-class_opened a = record { name = a.blank.name; parts = a.blank.parts }
