-- How what a replay keeps follows from the story of its lines.
use Rattle.std.specs.Prelude.{◌≡◌, ℕ, ◌<◌, ◌==◌, List, [], ◌∷◌, map, true, false, Option, find, is_some, ⊤}
use Rattle.protocol_model.specs.World.{Edits}
use Rattle.replication_model.specs.Story.{Story, Player}
use Rattle.class_layout.specs.Tables.{Layout}
use Rattle.net_driver.specs.Served.{Seat, Served}
use Rattle.net_driver.specs.Serves.{Drive, Serves}
use Rattle.replay_places.specs.declared.place.Place.{Place}
use Rattle.replay_places.specs.Places.{IsPlace}
use Rattle.replay_core.specs.Kept.{Kept}

-- ---- players

-- the player of a number
abbrev pub player_in : List Player → (player : ℕ) → Option Player
player_in players n = find (λ (p : Player). p.number == n) players

-- the player joined
abbrev pub IsThere : List Player → (player : ℕ) → Type 0
IsThere players n = is_some (player_in players n) ≡ true

-- the players ascend, each above this number
abbrev pub Ascend : (above : ℕ) → List Player → Type 0
Ascend above [] = ⊤
Ascend above (p ∷ players) = (above < p.number) × Ascend p.number players

-- ---- the server

-- the server's side of a player's story
abbrev pub seat_in : Player → Seat
seat_in p = record {
  number = p.number;
  budget = p.budget;
  version = p.version;
  feed = p.server_feed;
  lost = false;
}

-- the driver stands for the server's side of a story with these edits and players
pub record Serving (layout : Layout) (d : Drive) (edits : Edits)
    (players : List Player) : Type 0 where
  pub served : Served
  pub same_edits : served.edits ≡ edits
  pub same_seats : served.seats ≡ map seat_in players
  pub serves : Serves d served
  pub classes : d.layout ≡ layout

-- ---- all of it

-- a place a player
abbrev pub ArePlaces : Layout → List Place → List Player → Type 0
ArePlaces layout [] [] = ⊤
ArePlaces layout [] (p ∷ players) = ⊥
ArePlaces layout (k ∷ places) [] = ⊥
ArePlaces layout (k ∷ places) (p ∷ players) =
    IsPlace layout k p × ArePlaces layout places players

-- the replay stands for the story
pub record Stands (r : Kept) (story : Story) : Type 0 where
  pub serving : Serving r.layout r.driver story.edits story.players
  pub places : ArePlaces r.layout r.places story.players
  pub ascend : Ascend 0 story.players
  pub kept : r.spent ≡ false

-- want of memory ended the replay: each later line is answered so
abbrev pub IsSpent : Kept → Type 0
IsSpent r = r.spent ≡ true
