-- What one end of a connection hears, event by event, and what it does, deed by deed.
-- Both lists have their newest item first, and forget nothing.
use Rattle.std.specs.Prelude.{ℕ, ◌==◌, List, [], length, Bool, true, false, ◌&&◌, option_map, Option, Some, None, is_some, unwrap_or, find, filter_map}
use Rattle.std.specs.List.{list_any}
use Rattle.protocol_model.specs.Value.{Table, Arg}
use Rattle.protocol_model.specs.declared.Version.{Version}
use Rattle.protocol_model.specs.Packet.{Head, Bunch}
use Rattle.protocol_model.specs.Payload.{Message}
use Rattle.protocol_model.specs.declared.Cause.{Cause}
use Rattle.protocol_model.specs.Side.{Side}
use Rattle.protocol_model.specs.Sight.{Seen}
use Rattle.protocol_model.specs.Search.{newest_of, items_since}

-- what is settled at joining: the side, the packet's version, the budget in bits a tick, and the table of both
-- ends
pub record End : Type 0 where
  pub side : Side
  pub version : Version
  pub budget : ℕ
  pub table : Table

-- an end's own events, after it joined; a client's sights are empty
pub data Event : Type 0 where
  Tick : (sight : List Seen) → Event
  Got : (bytes : List ℕ) → Event
  Call : (actor number : ℕ) (args : List Arg) → Event

-- what a packet that was taken told: its head in version Two, then its entries
pub data Entry : Type 0 where
  Told : (head : Head) → Entry
  Acked : (number : ℕ) → Entry
  Heard : (bunch : Bunch) → Entry

-- a whole payload that was handed on, and whether its actor held the channel at that moment
pub record Delivered : Type 0 where
  pub channel : ℕ
  pub reliable : Bool
  pub held : Bool
  pub message : Message

-- what stands in a packet that was sent: an acknowledgement, a reliable bunch that was made, or an unreliable
-- one
pub data Item : Type 0 where
  Owed : (number : ℕ) → Item
  Carries : (channel number : ℕ) (bunch : Bunch) → Item
  Loose : (message : Message) (bunch : Bunch) → Item

-- why an end is dead
pub data Ending : Type 0 where
  ByCause : (cause : Cause) → Ending
  ByStall : Ending

-- what an end did
pub data Deed : Type 0 where
  Ticked : (t : ℕ) (sight : List Seen) → Deed
  -- one for each reliable bunch: the i-th part, from 0, of what the message says
  Made : (channel number : ℕ) (message : Message) (i : ℕ) → Deed
  -- an unreliable call waits until the end of the next tick
  Waits : (message : Message) → Deed
  Sent : (number t : ℕ) (items : List Item) → Deed
  -- the entries before the first bad one, and the whole payloads handed on, also those of the bad one; the
  -- newest first
  Took : (number : ℕ) (entries : List Entry) (handed : List Delivered) → Deed
  Ended : (ending : Ending) → Deed

-- all that an end did, the newest first
abbrev pub Past : Type 0
Past = List Deed

-- ---- what the past tells at once

-- the deed ended the end
abbrev pub is_ending : Deed → Bool
is_ending (Ended ending) = true
is_ending deed = false

-- the end is dead
abbrev pub has_ended : Past → Bool
has_ended past = is_some (find is_ending past)

-- the tick and the sight of a deed
abbrev pub tick_in : Deed → Option (ℕ × List Seen)
tick_in (Ticked t sight) = Some (t, sight)
tick_in deed = None

-- the deed began a tick
abbrev pub is_tick : Deed → Bool
is_tick deed = is_some (tick_in deed)

-- each tick's number and sight, the newest first
abbrev pub ticks_of : Past → List (ℕ × List Seen)
ticks_of past = filter_map tick_in past

-- how many ticks there were
abbrev pub tick_count : Past → ℕ
tick_count past = length (ticks_of past)

-- the last tick's sight
abbrev pub sight_of : Past → List Seen
sight_of past =
    unwrap_or (newest_of (λ deed. option_map (λ (tick : ℕ × List Seen). tick.1) (tick_in deed)) past) []

-- what was done since the last tick
abbrev pub deeds_since_tick : Past → Past
deeds_since_tick past = items_since is_tick past

-- the sight's entry of the actor
abbrev pub seen_in : List Seen → ℕ → Option Seen
seen_in sight a = find (λ (seen : Seen). seen.actor == a) sight

-- the sight shows the actor as relevant
abbrev pub is_relevant_in : List Seen → ℕ → Bool
is_relevant_in sight a = list_any (λ (seen : Seen). seen.actor == a && seen.relevant) sight
