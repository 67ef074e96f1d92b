-- Messages whose bunches have arrived, and messages that the other end received whole.
use Rattle.std.specs.Prelude.{◌≡◌, ℕ, ◌+◌, ◌<◌, ◌≤◌, List, ◌∷◌, ◌++◌, map, reverse, Bool, true, Some}
use Rattle.std.specs.List.{AllByRecursion}
use Rattle.protocol_model.specs.Packet.{Bunch}
use Rattle.protocol_model.specs.Payload.{parts_of}
use Rattle.connection_model.specs.Feed.{Past}
use Rattle.connection_model.specs.Bunches.{has_arrived, is_opening}
use Rattle.connection_model.specs.Windows.{wholes_of}
use Rattle.connection_model.specs.Exports.{exports_segment}
use Rattle.connection_model.specs.State.{Mark, last_mark}
use Rattle.connection_laws.specs.Delivered.{Numbered, on_index, payload_of}

-- all bunches of the index below this number have arrived
abbrev pub ArrivedBelow : Past → (ch n : ℕ) → Type 0
ArrivedBelow past ch n = (i : ℕ) → 1 ≤ i → i < n → has_arrived past ch i ≡ true

-- when an open was made, all before it on its index had arrived
abbrev pub OpensClear : Past → Type 0
OpensClear past =
    (ch : ℕ) → AllByRecursion
    (λ (made : Numbered). is_opening made.1 ≡ true → ArrivedBelow past ch made.0)
    (on_index ch past)

-- the message was made on the index, with these before and after it, the newest first
pub record MadeAt (past : Past) (ch : ℕ) (made : Numbered) : Type 0 where
  pub newer : List Numbered
  pub older : List Numbered
  pub split : on_index ch past ≡ newer ++ made ∷ older

-- the message was received whole at the other end, and so was all before it on its index: the whole
-- payloads there begin with theirs, the oldest first
pub record IsReceived (from to : Past) (ch : ℕ) (made : Numbered) : Type 0 where
  pub at : MadeAt from ch made
  pub rest : List (Bunch × List Bool)
  pub whole : wholes_of to ch ≡ map (payload_of ch) (reverse (made ∷ at.older)) ++ rest

-- a message whose parts have all arrived, with all before it on its index, was received whole
abbrev pub ArrivesWhole : (from to : Past) → Type 0
ArrivesWhole from to = (ch : ℕ) (made : Numbered) → MadeAt from ch made
    → ArrivedBelow from ch (made.0 + parts_of made.1) → IsReceived from to ch made

-- a message that exports the segment was received whole
pub record ExportReceived (from to : Past) (guid : ℕ) : Type 0 where
  pub channel : ℕ
  pub made : Numbered
  pub exports : exports_segment guid made.1 ≡ true
  pub received : IsReceived from to channel made

-- the actor's last mark was received whole
pub record MarkReceived (from to : Past) (actor : ℕ) : Type 0 where
  pub mark : Mark
  pub last : last_mark from actor ≡ Some mark
  pub received : IsReceived from to mark.channel (mark.number, mark.message)
