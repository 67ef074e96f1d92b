-- How what the server's end of a connection keeps follows from what it did.
use Rattle.std.specs.Prelude.{◌≡◌, ◌≢◌, ℕ, ◌*◌, ◌≤◌, List, Option, Some, None, true, false, slice_index_or}
use Rattle.protocol_model.specs.Value.{Table, Class}
use Rattle.protocol_model.specs.World.{Edits, spawn_of, class_of}
use Rattle.connection_model.specs.Feed.{Past, has_ended}
use Rattle.connection_model.specs.State.{opened_class}
use Rattle.shadow_changes.specs.Samples.{Samples}
use Rattle.sender_steps.specs.Stands.{Extends}
use Rattle.server_end.specs.Stands.{StandsEnd}
use Rattle.server_end.specs.declared.server_end.ServerEnd.{ServerEnd}
use Rattle.net_driver.specs.declared.chair.Place.{Place}
use Rattle.net_driver.specs.declared.chair.Place.TheVariants.{Living, Dead}
use Rattle.net_driver.specs.Served.{Seat, end_for, past_for, top_for}

-- the end under a key
abbrev pub end_at : List (Option ServerEnd) → (key : ℕ) → Option ServerEnd
end_at ends key = slice_index_or ends key None

-- an actor that was opened was opened as the class that the world has for it
abbrev pub AreOfWorld : Table → Edits → Past → Type 0
AreOfWorld table edits past = (a : ℕ) (class : Class) → opened_class past a ≡ Some class
    → (spawn_of edits a ≢ None) × (class ≡ class_of table edits a)

-- an end that is alive: its parts stand for its past, and for samples from no later than now;
-- twice the bunches that it made are at most so many
pub record IsLiving (table : Table) (edits : Edits) (samples : Samples) (greatest : ℕ)
    (e : ServerEnd) (s : Seat)
    : Type 0 where
  pub player : e.player ≡ s.number
  pub alive : has_ended (past_for table s) ≡ false
  pub before : Samples
  pub extends : Extends before samples
  pub stands : StandsEnd e (end_for table s) (past_for table s) before
  pub classes : AreOfWorld table edits (past_for table s)
  pub count : 2 * e.table.made.count ≤ greatest

-- a player's place has its living end, or the greatest number that the dead one took
abbrev pub IsPlace : Table → Edits → Samples → (greatest : ℕ) → List (Option ServerEnd) → Seat
    → Place → Type 0
IsPlace table edits samples greatest ends s (Living key) =
    (e : ServerEnd) × (end_at ends key ≡ Some e) × IsLiving table edits samples greatest e s
IsPlace table edits samples greatest ends s (Dead top) =
    (has_ended (past_for table s) ≡ true) × (top ≡ top_for table s)
