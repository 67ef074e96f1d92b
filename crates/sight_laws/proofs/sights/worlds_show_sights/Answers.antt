use Rattle.sight_laws.proofs.Given.{world_is_sight}
use Rattle.sight_laws.proofs.sights.worlds_show_sights.Goals as goal

pub returns : goal.returns
returns c = λ table edits player earlier. world_is_sight table edits player earlier
