-- Paths, piece after piece.
use Rattle.std.specs.Prelude.{ℕ, List, [], length, ◌&&◌, nat_le, Option, Some, None}
use Rattle.std.specs.Bool.{then_some}
use Rattle.std.specs.Borrow.{Bor}
use Rattle.std.specs.List.{list_all}
use Rattle.protocol_model.specs.Limits.{depth_limit}
use Rattle.script_model.specs.Script.{pieces}
use Rattle.table_model.specs.Words.{is_name}

-- the pieces of the text after a `/`; none where there was no `/`
abbrev pub pieces_after : Option (Bor (List ℕ)) → List (List ℕ)
pieces_after None = []
pieces_after (Some rest) = pieces 47 rest.now

-- the pieces, where they are the names of a path: at least one, and no more than a path has
abbrev pub path_in : List (List ℕ) → Option (List (List ℕ))
path_in names = then_some (nat_le 1 (length names) && nat_le (length names) depth_limit && list_all is_name names) names
