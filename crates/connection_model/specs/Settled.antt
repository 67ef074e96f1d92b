-- When an actor is settled for a player: nothing of it is left to send, and all that was sent has arrived.
-- Of a settled actor the client's copy is promised to be what the player sees.
use Rattle.std.specs.Prelude.{ℕ, ◌==◌, Bool, false, not, ◌&&◌, Option, Some, None}
use Rattle.std.specs.List.{list_all}
use Rattle.protocol_model.specs.Value.{Table}
use Rattle.protocol_model.specs.World.{Edits}
use Rattle.protocol_model.specs.Sight.{is_relevant, seen_of}
use Rattle.connection_model.specs.Feed.{Past, has_ended}
use Rattle.protocol_model.specs.Sight.{Seen}
use Rattle.connection_model.specs.Bunches.{span}
use Rattle.connection_model.specs.State.{state_of, is_opened, index_of}
use Rattle.connection_model.specs.Carry.{updatable_pairs, is_carried}

-- every bunch made on the index that the actor holds has arrived
abbrev pub is_clear : Past → Option ℕ → Bool
is_clear past None = false
is_clear past (Some index) = span past index == 0

-- opened and relevant, all bunches on its index arrived, and each updatable handle arrived with its value now
abbrev pub is_settled_as : Past → Seen → Bool
is_settled_as past seen =
    is_opened (state_of past seen.actor)
    && seen.relevant
    && is_clear past (index_of past seen.actor)
    && list_all (is_carried past seen.actor) (updatable_pairs seen)

-- the same against the world now, at an end that is alive
abbrev pub is_settled : Table → Edits → (player : ℕ) → Past → (actor : ℕ) → Bool
is_settled table edits player past a =
    not (has_ended past) && is_relevant table edits player a && is_settled_as past (seen_of table edits player a)
