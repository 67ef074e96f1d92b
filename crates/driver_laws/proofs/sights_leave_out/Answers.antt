use Rattle.driver_laws.proofs.Entries.{given_shows}
use Rattle.driver_laws.proofs.sights_leave_out.Goals as goal

pub returns : goal.returns
returns c = λ table edits player past earlier gone h. given_shows table edits player past earlier gone h
