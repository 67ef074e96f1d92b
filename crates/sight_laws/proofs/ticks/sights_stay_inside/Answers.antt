use Rattle.sight_laws.proofs.Feeds.{bytes_same}
use Rattle.sight_laws.proofs.ticks.sights_stay_inside.Goals as goal

pub returns : goal.returns
returns c = λ end past other h. bytes_same end past other h
