use Rattle.std.proofs.Common.{◌≡◌, ◌++◌, map, take, drop}
use Rattle.net_driver.specs.Chairs.{dead_for}
use Rattle.net_driver.proofs.chair.put_dead.Given as goal

abbrev pub invariant-loop-i : goal.invariant-loop-i
invariant-loop-i l = l.chairs.items
    ≡ map (dead_for l.player l.top) (take l.i l.initial.chairs.items) ++ drop l.i l.initial.chairs.items
