use Rattle.std.proofs.Common.{sym, ◌+◌, arith}
use Rattle.net_core.proofs.Counts.{none_beyond}
use Rattle.live_links.proofs.counted.is_to_fail.Goals as goal

pub returns-in-None : goal.returns-in-None
returns-in-None c =
    sym (none_beyond (c.args.made + 1) c.args.failing.now (λ i. omega (arith, c.type_inv.failing i, c.in-None.ensures)))
