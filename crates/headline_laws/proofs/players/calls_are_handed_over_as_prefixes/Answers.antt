use Rattle.headline_laws.proofs.CallPrefixes.{hands_over}
use Rattle.headline_laws.proofs.players.calls_are_handed_over_as_prefixes.Goals as goal

pub returns : goal.returns
returns c = λ entries lines p plays h. hands_over entries lines p plays.table plays.edits h.joined h.honest
