-- How many pairs of a player and an actor are settled.
use Rattle.std.specs.Prelude.{ℕ, sum_by, count_by}
use Rattle.protocol_model.specs.Side.{AtServer}
use Rattle.protocol_model.specs.Value.{Table}
use Rattle.protocol_model.specs.World.{Edits, actors_of}
use Rattle.connection_model.specs.Settled.{is_settled}
use Rattle.replication_model.specs.Story.{Player, Story, past_at}

-- how many actors are settled for the player
abbrev pub settled_for : Table → Edits → Player → ℕ
settled_for table edits p =
    count_by (is_settled table edits p.number (past_at table AtServer p)) (actors_of edits)

-- how many pairs of a player and an actor are settled
abbrev pub settled_count : Table → Story → ℕ
settled_count table story = sum_by (settled_for table story.edits) story.players
