-- Which actor holds which index.
use Rattle.std.specs.Prelude.{◌≡◌, ℕ, ◌≤◌, true, Some}
use Rattle.protocol_model.specs.Search.{is_among}
use Rattle.connection_model.specs.Feed.{Past}
use Rattle.connection_model.specs.State.{index_of, opened_actors}

-- an index has at most one actor that holds it; that actor was opened, and the index is above 0
pub record HoldsFit (past : Past) : Type 0 where
  pub one : (a b ch : ℕ) → index_of past a ≡ Some ch → index_of past b ≡ Some ch → a ≡ b
  pub opened : (a ch : ℕ) → index_of past a ≡ Some ch → is_among a (opened_actors past) ≡ true
  pub above : (a ch : ℕ) → index_of past a ≡ Some ch → 1 ≤ ch
