use Rattle.bunch_packing.specs.Trials.{ArePacking}
use Rattle.bunch_packing.proofs.tests.fill.Given as goal

abbrev pub invariant-loop-count : goal.invariant-loop-count
invariant-loop-count l = ArePacking l.link l.table
