use Rattle.std.proofs.Common.{◌≡◌, ℕ, List, drop}
use Rattle.protocol_model.specs.Value.{Table}
use Rattle.protocol_model.specs.World.{Edits}
use Rattle.shadow_changes.specs.Samples.{Samples}
use Rattle.net_driver.specs.Served.{Seat}
use Rattle.net_driver.specs.Serves.{AreSeated}
use Rattle.net_driver.specs.Sights.{is_left_for}
use Rattle.net_driver.proofs.driver.forgetting.is_left.Given as goal

-- nothing is left at the ends so far
abbrev pub invariant-loop-chair : goal.invariant-loop-chair
invariant-loop-chair l =
    (table : Table) (edits : Edits) (samples : Samples) (greatest : ℕ) (seats : List Seat)
    → AreSeated table edits samples greatest l.ends.slots l.chairs seats
    → is_left_for table seats l.actor ≡ is_left_for table (drop l.chair-index seats) l.actor
