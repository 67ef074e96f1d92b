use Rattle.hearing_laws.proofs.Going.{lead_all}
use Rattle.hearing_laws.proofs.packets.packets_go_by_news.Goals as goal

pub returns : goal.returns
returns c = lead_all
