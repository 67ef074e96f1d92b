use Rattle.std.proofs.Common.{◌≡◌, map, length, take}
use Rattle.class_layout.specs.Tables.{table_in}
use Rattle.net_driver.specs.Served.{Served, tick_of}
use Rattle.net_driver.specs.Serves.{Serves}
use Rattle.net_driver.specs.Sights.{AreSightsFor}
use Rattle.net_driver.specs.Ticks.{tick_value}
use Rattle.net_driver.proofs.SendAll.{served_upto}
use Rattle.net_driver.proofs.driver.Driver.send_all.Given as goal

-- the ends so far have ticked
abbrev pub invariant-loop-i : goal.invariant-loop-i
invariant-loop-i l = record {
  layout : l.self.layout ≡ l.initial.self.layout;
  graves : l.self.graves ≡ l.initial.self.graves;
  count : length l.self.chairs ≡ length l.initial.self.chairs;
  serves : (s : Served) → Serves l.initial.self s
      → AreSightsFor l.initial.self.layout s.edits l.initial.self.graves s.samples l.sights s.seats
      → Serves l.self (served_upto (table_in l.initial.self.layout) l.i s);
  sent : (s : Served) → Serves l.initial.self s
      → AreSightsFor l.initial.self.layout s.edits l.initial.self.graves s.samples l.sights s.seats
      → map tick_value l.ticks ≡ map (tick_of (table_in l.initial.self.layout) s.edits) (take l.i s.seats);
}
