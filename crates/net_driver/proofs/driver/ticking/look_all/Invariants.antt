use Rattle.std.proofs.Common.{◌≡◌, ℕ, List, [], take}
use Rattle.protocol_model.specs.World.{Edits}
use Rattle.class_layout.specs.Tables.{table_in}
use Rattle.shadow_changes.specs.Samples.{Samples}
use Rattle.net_driver.specs.Served.{Seat}
use Rattle.net_driver.specs.Serves.{AreSeated}
use Rattle.net_driver.specs.Sights.{IsLookingAll, HasLooked}
use Rattle.net_driver.proofs.driver.ticking.look_all.Given as goal

-- the sights of the seats so far
abbrev pub invariant-loop-chair : goal.invariant-loop-chair
invariant-loop-chair g l = record {
  tick : l.noted.tick ≡ l.initial.noted.tick;
  looked : (edits : Edits) (greatest : ℕ) (before samples : Samples) (seats : List Seat)
      → IsLookingAll l.world l.graph l.graves l.initial.noted l.initial.changes edits samples
      → AreSeated (table_in l.world.layout) edits before greatest l.ends.slots l.chairs seats
      → HasLooked l.world.layout edits l.graves samples l.initial.noted l.noted l.changes l.initial.steps l.steps []
      l.sights.items (take l.chair-index seats);
}
