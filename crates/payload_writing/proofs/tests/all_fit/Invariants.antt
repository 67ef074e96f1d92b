use Rattle.std.proofs.Common.{◌≡◌, drop}
use Rattle.protocol_model.specs.World.{class_at}
use Rattle.class_layout.specs.Tables.{table_in}
use Rattle.payload_writing.specs.Values.{pairs_fit}
use Rattle.payload_writing.proofs.tests.all_fit.Given as goal

abbrev pub invariant-loop-pair : goal.invariant-loop-pair
invariant-loop-pair l =
    pairs_fit (class_at (table_in l.classes) l.fn.class) (drop l.pair-index l.pairs)
    ≡ pairs_fit (class_at (table_in l.classes) l.fn.class) l.pairs
