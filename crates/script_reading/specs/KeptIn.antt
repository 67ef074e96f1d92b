-- What is kept in memory of the lines before, as it is judged by.
use Rattle.std.specs.Prelude.{ℕ, List, map, Result, Ok, Err}
use Rattle.protocol_model.specs.Value.{Table}
use Rattle.protocol_model.specs.World.{class_at}
use Rattle.script_reading.specs.Kept.{Kept, Actor}
use Rattle.script_reading.specs.declared.known.Seen.{Seen}
use Rattle.script_reading.specs.declared.known.Known.{Known}

-- an actor, with its class of this table
abbrev pub actor_seen : Table → Seen → Actor
actor_seen table seen = record { class = class_at table seen.class; alive = seen.alive }

-- the players who joined
abbrev pub players_of : Known → List ℕ
players_of known = known.joined.items

-- the actors and players
abbrev pub kept_in : Table → Known → Kept
kept_in table known = record { actors = map (actor_seen table) known.actors.items; players = known.joined.items }

-- what is seen of a result
abbrev pub seen_by : {A B E : Type 0} → (A → B) → Result A E → Result B E
seen_by f (Ok x) = Ok (f x)
seen_by f (Err e) = Err e
