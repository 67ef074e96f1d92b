-- How many values actors have; the entries of actors, each in its place.
use Rattle.std.specs.Prelude.{ℕ, ◌-◌, Bool, nat_lt, filter, sum_by}
use Rattle.protocol_model.specs.Sight.{Seen}
use Rattle.protocol_model.specs.Value.{Table, handle_count}
use Rattle.protocol_model.specs.World.{Edits, actors_of, class_of}

-- how many values a tick samples of an actor
abbrev pub cells_of : Table → Edits → (actor : ℕ) → ℕ
cells_of table edits a = handle_count (class_of table edits a) - 1

-- how many of the actors that pass
abbrev pub cells : Table → Edits → (ℕ → Bool) → ℕ
cells table edits test = sum_by (cells_of table edits) (filter test (actors_of edits))

-- the entry of the lower actor goes first
abbrev pub goes_before : Seen → Seen → Bool
goes_before one two = nat_lt one.actor two.actor
