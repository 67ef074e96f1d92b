use Rattle.sight_laws.proofs.Feeds.{feeds_same, out_same}
use Rattle.sight_laws.proofs.ticks.feeds_send_the_same.Goals as goal

pub returns-clause-keeps : goal.returns-clause-keeps
returns-clause-keeps c = λ end feed other h. feeds_same end h

pub returns-clause-sends : goal.returns-clause-sends
returns-clause-sends c = λ end feed other h. out_same end h
