-- How many values a tick samples: each actor that some living connection needs is sampled once, for all together.
use Rattle.std.specs.Prelude.{ℕ, ◌-◌, List, Bool, not, ◌&&◌, sum_by, filter}
use Rattle.std.specs.List.{list_any}
use Rattle.protocol_model.specs.Value.{Table, handle_count}
use Rattle.protocol_model.specs.World.{Edits, actors_of, class_of}
use Rattle.protocol_model.specs.Sight.{is_relevant, seen_of}
use Rattle.connection_model.specs.Feed.{Past, has_ended}
use Rattle.connection_model.specs.Items.{is_quiet}

-- a connection: its player, and the past of its server's end
abbrev pub Connection : Type 0
Connection = ℕ × Past

-- relevant to a connection that hasn't ended, and not quiet there
abbrev pub is_awake_for : Table → Edits → (actor : ℕ) → Connection → Bool
is_awake_for table edits a connection =
    not (has_ended connection.1) && is_relevant table edits connection.0 a
    && not (is_quiet connection.1 (seen_of table edits connection.0 a))

-- of each such actor, counted once, the handles less one
abbrev pub cell_count : Table → Edits → List Connection → ℕ
cell_count table edits connections =
    sum_by (λ a. handle_count (class_of table edits a) - 1)
    (filter (λ a. list_any (is_awake_for table edits a) connections) (actors_of edits))
