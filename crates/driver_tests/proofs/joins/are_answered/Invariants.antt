use Rattle.std.proofs.Common.{◌⊎◌}
use Rattle.net_driver.specs.Served.{Served}
use Rattle.net_driver.specs.Serves.{Serves, IsSpent}
use Rattle.driver_tests.proofs.joins.are_answered.Given as goal

-- the driver is spent, or stands for something
abbrev pub invariant-loop-case : goal.invariant-loop-case
invariant-loop-case l = IsSpent l.driver ⊎ ((s : Served) × Serves l.driver s)
