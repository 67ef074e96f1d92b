-- How far a run of bunches has come among messages.
use Rattle.std.specs.Prelude.{◌≡◌, ℕ, ◌<◌, List, [], ◌∷◌, ◌++◌}
use Rattle.std.specs.List.{flat_map}
use Rattle.protocol_model.specs.Packet.{Bunch}
use Rattle.protocol_model.specs.Payload.{parts_of}
use Rattle.connection_model.specs.Feed.{Past}
use Rattle.connection_model.specs.Windows.{kept_of, applied_of, received_on}
use Rattle.connection_laws.specs.Delivered.{Numbered, messages_on}
use Rattle.payload_laws.specs.Parts.{bunches_of, bunches_from, kept_parts}

-- all bunches of these messages, the oldest first
abbrev pub all_bunches : (channel : ℕ) → List Numbered → List Bunch
all_bunches ch ms = flat_map (λ (made : Numbered). bunches_of ch made.0 made.1) ms

-- the rest is the first i parts of the next message, fewer than it has; nothing where none is next
abbrev pub HasBegun : (channel : ℕ) → (later : List Numbered) → (i : ℕ) → List Bunch → Type 0
HasBegun ch [] i rest = rest ≡ []
HasBegun ch (made ∷ later) i rest = (i < parts_of made.1)
    × (rest ≡ bunches_from ch made.0 made.1 0 i)

-- these parts as they are kept, the newest first
abbrev pub kept_here : (channel : ℕ) → (later : List Numbered) → (i : ℕ) → List Bunch
kept_here ch [] i = []
kept_here ch (made ∷ later) i = kept_parts ch made.0 made.1 i

-- the run is whole messages, the first of these, and then some parts of the next one, which are kept
pub record Position (channel : ℕ) (ms : List Numbered) (run : List Bunch) : Type 0 where
  pub done : List Numbered
  pub later : List Numbered
  pub split : ms ≡ done ++ later
  pub i : ℕ
  pub rest : List Bunch
  pub begun : HasBegun channel later i rest
  pub is : run ≡ all_bunches channel done ++ rest
  pub kept : kept_of run ≡ kept_here channel later i

-- so is, on each index, the run that was applied at one end among the messages made at the other
abbrev pub PartsInPlace : (from to : Past) → Type 0
PartsInPlace from to = (ch : ℕ) → Position ch (messages_on from ch) (applied_of (received_on to ch))
