use Rattle.std.proofs.Common.{◌≡◌, ◌+◌}
use Rattle.bunch_packing.specs.Trials.{AreFresh}
use Rattle.bunch_packing.proofs.tests.tick.Given as goal

abbrev pub invariant-loop : goal.invariant-loop
invariant-loop l = record {
  fresh : AreFresh l.link l.table;
  count : l.table.made.count ≡ l.fn.table.made.count + l.counter;
}
