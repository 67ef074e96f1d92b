use Rattle.hearing_laws.proofs.Calm.{feed_calm}
use Rattle.hearing_laws.proofs.plain.servers_take_plain_bunches.Goals as goal

pub returns : goal.returns
returns c = feed_calm
