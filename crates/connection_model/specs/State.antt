-- The state of an actor's channel at the server's end, by the last open, close or Gone made of the actor and by what
-- has arrived since. An actor that never was opened, or whose channel is gone, is Closed.
use Rattle.std.specs.Prelude.{ℕ, ◌==◌, List, length, Bool, true, false, not, ◌&&◌, Option, Some, None, filter_map, option_map, is_some, if◌then◌else◌}
use Rattle.std.specs.List.{list_any}
use Rattle.protocol_model.specs.Value.{Class}
use Rattle.protocol_model.specs.Payload.{Message, Opens, Closes, Updates, Calls, Gone, actor_of, parts_of}
use Rattle.connection_model.specs.Feed.{Past, Deed, Made}
use Rattle.connection_model.specs.Bunches.{have_arrived, channels_of, span}
use Rattle.std.specs.Bool.{then_some}
use Rattle.protocol_model.specs.Search.{newest_of, ascending_numbers, least_from}

--                 open made             all parts arrived            close made           all arrived
--   Closed, Asleep ────────▶ Opening ──────────────────▶ Opened ────────────────▶ Closing ───────────▶ Closed
--                               └──────── close made ────────────────────────────────▲   after a dormant close ▶ Asleep
--   Asleep ── Gone made ▶ Closed
pub data ActorState : Type 0 where
  Closed : ActorState
  Opening : ActorState
  Opened : ActorState
  Closing : ActorState
  Asleep : ActorState

-- a message that changes the state, with its index and the number of its first part
pub record Mark : Type 0 where
  pub channel : ℕ
  pub number : ℕ
  pub message : Message

-- the message changes the actor's state
abbrev pub is_mark : Message → Bool
is_mark (Opens exports actor class values) = true
is_mark (Closes actor sleeps) = true
is_mark (Gone actor) = true
is_mark (Updates actor class values) = false
is_mark (Calls actor number call args) = false

-- the mark of the actor that a deed made
abbrev pub mark_in : ℕ → Deed → Option Mark
mark_in a (Made channel number message i) =
    then_some (actor_of message == a && is_mark message && i == 0) (record {
      channel = channel;
      number = number;
      message = message;
    })
mark_in a deed = None

-- the last open, close or Gone made of the actor
abbrev pub last_mark : Past → ℕ → Option Mark
last_mark past a = newest_of (mark_in a) past

-- a close ends when every bunch made on its index up to it has arrived
abbrev pub closed_as : (ended sleeps : Bool) → ActorState
closed_as false sleeps = Closing
closed_as true true = Asleep
closed_as true false = Closed

-- the state that a mark leaves, by what has arrived since
abbrev pub state_after : Past → Mark → Message → ActorState
state_after past mark (Opens exports actor class values) =
    if have_arrived past mark.channel mark.number (parts_of mark.message) then Opened else Opening
state_after past mark (Closes actor sleeps) = closed_as (have_arrived past mark.channel 1 mark.number) sleeps
state_after past mark (Gone actor) = Closed
state_after past mark (Updates actor class values) = Closed
state_after past mark (Calls actor number call args) = Closed

-- the state by the last mark, Closed where there is none
abbrev pub state_at : Past → Option Mark → ActorState
state_at past None = Closed
state_at past (Some mark) = state_after past mark mark.message

-- the actor's state
abbrev pub state_of : Past → ℕ → ActorState
state_of past a = state_at past (last_mark past a)

-- the state is Opened
abbrev pub is_opened : ActorState → Bool
is_opened Opened = true
is_opened state = false

-- the open is made, and no close after it
abbrev pub is_open : ActorState → Bool
is_open Opening = true
is_open Opened = true
is_open state = false

-- the state is Asleep
abbrev pub is_asleep : ActorState → Bool
is_asleep Asleep = true
is_asleep state = false

-- the state is Closed
abbrev pub is_closed : ActorState → Bool
is_closed Closed = true
is_closed state = false

-- in this state the actor holds its index
abbrev pub holds_index : ActorState → Bool
holds_index Opening = true
holds_index Opened = true
holds_index Closing = true
holds_index Closed = false
holds_index Asleep = false

-- the mark's index, where it is held
abbrev pub index_at : Bool → Option Mark → Option ℕ
index_at false mark = None
index_at true mark = option_map (λ (m : Mark). m.channel) mark

-- the index that the actor holds
abbrev pub index_of : Past → ℕ → Option ℕ
index_of past a = index_at (holds_index (state_of past a)) (last_mark past a)

-- the index is this one
abbrev pub is_index : ℕ → Option ℕ → Bool
is_index ch None = false
is_index ch (Some index) = index == ch

-- the actor holds the channel
abbrev pub holds : Past → (actor channel : ℕ) → Bool
holds past a ch = is_index ch (index_of past a)

-- the actor whose open a deed made
abbrev pub opened_in : Deed → Option ℕ
opened_in (Made channel number (Opens exports actor class values) i) = Some actor
opened_in deed = None

-- the actors of which an open was ever made, ascending
abbrev pub opened_actors : Past → List ℕ
opened_actors past = ascending_numbers (filter_map opened_in past)

-- some actor holds the index
abbrev pub is_held : Past → ℕ → Bool
is_held past ch = list_any (λ a. holds past a ch) (opened_actors past)

-- the least index above 0 that no actor holds and whose span is 0; it is at most one above the count of those
-- used
abbrev pub free_index : Past → ℕ
free_index past = least_from (λ ch. not (is_held past ch) && span past ch == 0) (length (channels_of past)) 1

-- the class in an open of the actor that a deed made
abbrev pub open_class_in : ℕ → Deed → Option Class
open_class_in a (Made channel number (Opens exports actor class values) i) = then_some (actor == a) class
open_class_in a deed = None

-- the class that the actor was last opened with, if it ever was
abbrev pub opened_class : Past → ℕ → Option Class
opened_class past a = newest_of (open_class_in a) past

-- an open of the actor was ever made
abbrev pub was_opened : Past → ℕ → Bool
was_opened past a = is_some (opened_class past a)
