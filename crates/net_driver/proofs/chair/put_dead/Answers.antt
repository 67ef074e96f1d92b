use Rattle.std.proofs.Common.{ap, ◌∙◌, arith}
use Rattle.std.specs.Prelude.{set}
use Rattle.std.proofs.lemmas.List.Edits.{map_over_more}
use Rattle.net_driver.specs.declared.chair.Chair.{Chair}
use Rattle.net_driver.specs.Chairs.{dead_for}
use Rattle.net_driver.proofs.chair.put_dead.Goals as goal

pub loop-i-preserved : goal.loop-i-preserved
loop-i-preserved c =
    ap (λ (x : Chair). set c.loop-i.chairs.items c.loop-i.i x) c.marked.ensures
    ∙ map_over_more
    (dead_for c.args.player c.args.top) c.args.chairs.now.items c.loop-i.chairs.items c.loop-i.i c.index.result.now
    (omega arith) c.loop-i.invariant c.index.ensures
