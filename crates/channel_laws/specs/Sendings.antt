-- Packets that a tick sends, and one under way that carries one more item.
use Rattle.std.specs.Prelude.{◌≡◌, ℕ, ◌<◌, List, [], ◌∷◌, ◌++◌, Bool, true, is_some}
use Rattle.std.specs.List.{list_all}
use Rattle.connection_model.specs.Feed.{Past, Sent, Item}
use Rattle.connection_model.specs.Fates.{sent_in, high_of}
use Rattle.connection_model.specs.Bunches.{is_due}

-- the deeds sent packets, and did nothing else
abbrev pub are_sendings : Past → Bool
are_sendings past = list_all (λ deed. is_some (sent_in deed)) past

-- the packet with one more item
abbrev pub sent_with : (packet t : ℕ) → List Item → Item → Past → Past
sent_with packet t items item past = Sent packet t (items ++ item ∷ []) ∷ past

-- a packet above all that moved may carry this due bunch
pub record MayCarry (packet t : ℕ) (items : List Item) (past : Past) (ch n : ℕ) : Type 0 where
  pub above : high_of past < packet
  pub due : is_due (Sent packet t items ∷ past) ch n ≡ true
