use Rattle.std.proofs.Common.{length}
use Rattle.netguid_map.proofs.chain.+leads_up.Given as goal

abbrev pub decreases-leads_up : goal.decreases-leads_up
decreases-leads_up l = length l.path.now
