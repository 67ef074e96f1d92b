-- Paths, piece after piece.
use Rattle.std.proofs.Common.{◌≡◌, ℕ, ◌+◌, ◌≤◌, List, ◌++◌, length, true, Option, Some, None, Bor}
use Rattle.std.specs.List.{list_all}
use Rattle.script_model.specs.Lines.{Text}
use Rattle.table_model.specs.Words.{is_name}

-- a piece's end counts too, and nothing is left after the last piece
abbrev pub left_of : Option (Bor Text) → ℕ
left_of None = 0
left_of (Some rest) = length rest.now + 1

-- the names so far and the pieces left are those of the whole, and there are at most 8 so far
pub record Reads (whole done left : List Text) : Type 0 where
  pub same : done ++ left ≡ whole
  pub named : list_all is_name done ≡ true
  pub few : length done ≤ 8
