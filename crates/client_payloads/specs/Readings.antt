-- The readings of payloads at a client, by the copies that it keeps and the names that it learnt.
use Rattle.std.specs.Prelude.{ℕ, ◌==◌, List, length, Bool, false, not, ◌||◌, nat_lt, Option, Some, None, is_some, is_none, option_map, option_and_then, unwrap_or, if◌then◌else◌}
use Rattle.std.specs.List.{fold}
use Rattle.protocol_model.specs.Limits.{copy_limit}
use Rattle.protocol_model.specs.Value.{Class, Segment, goes_down}
use Rattle.protocol_model.specs.World.{class_at}
use Rattle.protocol_model.specs.Reading.{◌>>=◌, give, bit_at}
use Rattle.protocol_model.specs.Payload.{Message, Opens, Closes, Updates, Gone}
use Rattle.protocol_model.specs.declared.Cause.{Cause}
use Rattle.protocol_model.specs.declared.Cause.TheVariants.{UnknownGuid, BadChannel, Clash, ActorsFull}
use Rattle.connection_model.specs.PayloadReading.{PayloadReading, field, unless, number_at, actor_at, end_at, class_or, call_at_end, some_values_at, values_at, exports_at, is_elsewhere, is_other_class}
use Rattle.connection_model.specs.Names.{class_named, names_with}
use Rattle.class_layout.specs.Tables.{Layout, table_in}
use Rattle.actor_copies.specs.declared.copy.ActorCopy.{ActorCopy}
use Rattle.actor_copies.specs.Kept.{copy_actor, kept_of, kept_on}

-- the class of a copy
abbrev pub copy_class : Layout → ActorCopy → Class
copy_class layout c = class_at (table_in layout) c.class

-- its channel
abbrev pub copy_channel : ActorCopy → Option ℕ
copy_channel c = c.channel

-- the class of an actor's copy
abbrev pub class_kept : Layout → List ActorCopy → (actor : ℕ) → Option Class
class_kept layout copies a = option_map (copy_class layout) (kept_of copies a)

-- the channel of an actor's copy
abbrev pub channel_kept : List ActorCopy → (actor : ℕ) → Option ℕ
channel_kept copies a = option_and_then copy_channel (kept_of copies a)

-- the actor whose copy holds a channel, or 0
abbrev pub holder_kept : List ActorCopy → (channel : ℕ) → ℕ
holder_kept copies ch = unwrap_or (option_map copy_actor (kept_on copies ch)) 0

-- there is a copy, and it has no channel
abbrev pub is_asleep : Option ActorCopy → Bool
is_asleep None = false
is_asleep (Some c) = is_none c.channel

-- a Gone of a sleeping copy
abbrev pub gone_in : List ActorCopy → PayloadReading Message
gone_in copies = do
  _ ← field number_at (λ n. n == 1)
  actor ← actor_at
  _ ← unless (is_asleep (kept_of copies actor)) (UnknownGuid actor)
  _ ← end_at
  give (Gone actor)

-- a call of an actor with a copy
abbrev pub call_in : Layout → List ActorCopy → (reliable : Bool) → PayloadReading Message
call_in layout copies reliable = do
  actor ← actor_at
  class ← class_or (UnknownGuid actor) (class_kept layout copies actor)
  call_at_end class actor goes_down reliable

-- an update of the copy that holds the channel
abbrev pub update_in : Layout → List ActorCopy → (channel : ℕ) → PayloadReading Message
update_in layout copies ch = do
  class ← class_or (BadChannel ch) (option_map (copy_class layout) (kept_on copies ch))
  values ← some_values_at class
  _ ← end_at
  give (Updates (holder_kept copies ch) class values)

-- the actor of an open: no copy of it is on another channel, and there is room for one
abbrev pub opening_in : List ActorCopy → (channel : ℕ) → PayloadReading ℕ
opening_in copies ch = do
  actor ← actor_at
  _ ← unless (not (is_elsewhere ch (channel_kept copies actor))) (Clash actor)
  _ ← unless (is_some (kept_of copies actor) || nat_lt (length copies) copy_limit) ActorsFull
  give actor

-- the class of an open, by these names: no copy of the actor is of another class
abbrev pub opened_class_in : Layout → List ActorCopy → (names : List Segment) → (actor : ℕ)
    → PayloadReading Class
opened_class_in layout copies names actor = do
  guid ← number_at
  class ← class_or (UnknownGuid guid) (class_named (table_in layout) names guid)
  _ ← unless (not (is_other_class class (class_kept layout copies actor))) (Clash actor)
  give class

-- what follows the exports of an open, where these names are known by then
abbrev pub opened_in : Layout → List ActorCopy → (channel : ℕ) → (names exports : List Segment)
    → PayloadReading Message
opened_in layout copies ch names exports = do
  actor ← opening_in copies ch
  class ← opened_class_in layout copies names actor
  values ← values_at class
  _ ← end_at
  give (Opens exports actor class values)

-- what stands against an open of the actor on the channel
abbrev pub against_open : List ActorCopy → (channel actor : ℕ) → Option Cause
against_open copies ch actor =
    if is_elsewhere ch (channel_kept copies actor) then Some (Clash actor)
    else if is_some (kept_of copies actor) || nat_lt (length copies) copy_limit then None
    else Some ActorsFull

-- an open, where these names are known before it
abbrev pub open_in : Layout → List ActorCopy → (channel : ℕ) → (has_exports : Bool)
    → (known : List Segment) → PayloadReading Message
open_in layout copies ch has_exports known = do
  exports ← exports_at has_exports known
  opened_in layout copies ch (fold names_with known exports) exports

-- a close, which is empty, of the copy that holds the channel
abbrev pub close_in : List ActorCopy → (channel : ℕ) → (sleeps : Bool) → PayloadReading Message
close_in copies ch sleeps = do
  _ ← end_at
  give (Closes (holder_kept copies ch) sleeps)

-- an update is unreliable; its first bit is 0, that of a call is 1
abbrev pub plain_in : Layout → List ActorCopy → (channel : ℕ) → (reliable : Bool)
    → PayloadReading Message
plain_in layout copies ch reliable = do
  is_call ← field bit_at (λ is_call. is_call || not reliable)
  if is_call then call_in layout copies reliable else update_in layout copies ch

-- a payload that doesn't open
abbrev pub unopened_in : Layout → List ActorCopy → (channel : ℕ) → (closes sleeps reliable : Bool)
    → PayloadReading Message
unopened_in layout copies ch closes sleeps reliable =
    if ch == 0 then gone_in copies
    else if closes then close_in copies ch sleeps
    else plain_in layout copies ch reliable
