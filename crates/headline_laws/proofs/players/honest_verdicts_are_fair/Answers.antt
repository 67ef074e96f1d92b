use Rattle.headline_laws.proofs.FairVerdicts.{verdicts_fair}
use Rattle.headline_laws.proofs.players.honest_verdicts_are_fair.Goals as goal

pub returns : goal.returns
returns c = λ entries lines player plays honest. verdicts_fair entries lines player plays.table plays.edits honest
