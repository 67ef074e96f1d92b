use Rattle.hearing_laws.proofs.Calm.{heard_calm, move_calm, news_calm}
use Rattle.hearing_laws.proofs.plain.plain_bunches_leave_calm.Goals as goal

pub returns-clause-heard : goal.returns-clause-heard
returns-clause-heard c = heard_calm

pub returns-clause-moved : goal.returns-clause-moved
returns-clause-moved c = move_calm

pub returns-clause-news : goal.returns-clause-news
returns-clause-news c = news_calm
