-- The deeds that a sender of actors sees, and how a past goes on for it.
use Rattle.std.specs.Prelude.{◌≡◌, ◌<◌, ℕ, List, [], ◌∷◌, ◌++◌, Bool, true, false, filter, is_some}
use Rattle.std.specs.List.{list_all}
use Rattle.connection_model.specs.Feed.{Past, Deed, Ticked, Made, Waits, Sent, Took, Ended, Item}
use Rattle.connection_model.specs.Fates.{moved_of, high_of, sent_in}
use Rattle.connection_model.specs.Bunches.{has_arrived, made_count}

-- the deed ticked, made a bunch or sent a packet
abbrev pub is_act : Deed → Bool
is_act (Ticked t sight) = true
is_act (Made channel number message i) = true
is_act (Sent number t items) = true
is_act (Waits message) = false
is_act (Took number entries handed) = false
is_act (Ended ending) = false

-- those deeds
abbrev pub acts : Past → Past
acts past = filter is_act past

-- the same was done and moved; what was heard, handed on or waits may differ
pub record IsAlike (past later : Past) : Type 0 where
  pub done : acts later ≡ acts past
  pub moved : moved_of later ≡ moved_of past

-- the same was done, and packet `to` moved, the greatest moved having been `from`
pub record MovesTo (from to : ℕ) (past later : Past) : Type 0 where
  pub high : high_of past ≡ from
  pub above : from < to
  pub done : acts later ≡ acts past
  pub moved : moved_of later ≡ to ∷ moved_of past

-- what wasn't made hasn't arrived
abbrev pub ArrivesMade : Past → Type 0
ArrivesMade past = (ch n : ℕ) → made_count past ch < n → has_arrived past ch n ≡ false

-- the deeds sent packets, and did nothing else
abbrev pub are_sent : Past → Bool
are_sent past = list_all (λ deed. is_some (sent_in deed)) past

-- a packet with one more item, sent after this past
abbrev pub sent_more : (number t : ℕ) → List Item → Item → Past → Past
sent_more number t items item past = Sent number t (items ++ item ∷ []) ∷ past
