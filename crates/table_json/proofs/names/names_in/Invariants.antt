use Rattle.table_json.specs.Paths.{pieces_after}
use Rattle.table_json.proofs.Paths.{Reads, left_of}
use Rattle.table_json.proofs.names.names_in.Given as goal

abbrev pub invariant-loop-rest : goal.invariant-loop-rest
invariant-loop-rest l = Reads (pieces_after l.fn.text) l.names (pieces_after l.rest)

abbrev pub decreases-loop-rest : goal.decreases-loop-rest
decreases-loop-rest l = left_of l.rest
