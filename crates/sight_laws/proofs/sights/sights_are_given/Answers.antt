use Rattle.sight_laws.proofs.Shown.{shows_relevant}
use Rattle.sight_laws.proofs.Scoring.{given_ascends}
use Rattle.sight_laws.proofs.Given.{shows_itself, valueless_shows, shows_other}
use Rattle.sight_laws.proofs.sights.sights_are_given.Goals as goal

pub returns-clause-whole : goal.returns-clause-whole
returns-clause-whole c = λ past shown. shows_itself past shown

pub returns-clause-valueless : goal.returns-clause-valueless
returns-clause-valueless c = λ past shown given h. valueless_shows past h

pub returns-clause-ascends : goal.returns-clause-ascends
returns-clause-ascends c = λ past shown given order h. given_ascends past 0 order h

pub returns-clause-relevant : goal.returns-clause-relevant
returns-clause-relevant c = λ past shown given a h. shows_relevant past h a

pub returns-clause-judged : goal.returns-clause-judged
returns-clause-judged c = λ past other shown given s h. shows_other past other s h
