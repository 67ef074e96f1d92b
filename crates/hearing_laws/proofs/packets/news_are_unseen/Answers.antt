use Rattle.hearing_laws.proofs.Unseen.{news_acts, news_waiting, news_handed}
use Rattle.hearing_laws.proofs.packets.news_are_unseen.Goals as goal

pub returns-clause-acts : goal.returns-clause-acts
returns-clause-acts c = news_acts

pub returns-clause-waiting : goal.returns-clause-waiting
returns-clause-waiting c = news_waiting

pub returns-clause-handed : goal.returns-clause-handed
returns-clause-handed c = news_handed
