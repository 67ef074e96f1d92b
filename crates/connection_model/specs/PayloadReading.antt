-- Reading a payload from left to right: the rules in the order in which their fields come.
-- The order is part of the format: of the rules that a payload breaks the first one met gives the cause, and its bit.
use Rattle.std.specs.Prelude.{ℕ, zero, suc, ◌+◌, ◌-◌, ◌%◌, ◌==◌, List, [], ◌∷◌, length, Bool, true, false, not, ◌&&◌, ◌||◌, nat_lt, nat_le, Option, Some, None, is_none, option_map, option_and_then, unwrap_or, if◌then◌else◌, ℤ, pos}
use Rattle.std.specs.List.{fold}
use Rattle.std.specs.Bool.{beq}
use Rattle.protocol_model.specs.Limits.{copy_limit, name_bytes}
use Rattle.protocol_model.specs.declared.Kind.{Kind}
use Rattle.protocol_model.specs.declared.Kind.TheVariants.{U8, I32, U32, I64, Packed, Guid, Enum, Bytes}
use Rattle.protocol_model.specs.Value.{Arg, Scalar, Octets, goes_up, goes_down, Call, Segment, Class, Table, Pair, class_guid, handle_count, call_at}
use Rattle.protocol_model.specs.declared.Way.{Way}
use Rattle.protocol_model.specs.Reading.{Broken, Reading, ◌>>=◌, give, fault, left, must, need, bit_at, fixed_at, signed_at, int_at, packed_at}
use Rattle.protocol_model.specs.Packet.{Bunch}
use Rattle.protocol_model.specs.Payload.{Message, Opens, Closes, Updates, Calls, Gone, kind_at}
use Rattle.protocol_model.specs.declared.Cause.{Cause}
use Rattle.protocol_model.specs.declared.Cause.TheVariants.{BadChannel, UnknownGuid, Clash, ActorsFull}
use Rattle.connection_model.specs.Feed.{End, Past}
use Rattle.protocol_model.specs.Side.{AtServer, AtClient}
use Rattle.connection_model.specs.State.{opened_class}
use Rattle.connection_model.specs.Copies.{copy_class, copy_channel, copy_on, copied_actors, has_copy}
use Rattle.connection_model.specs.Names.{is_segment_name, learn_fault, names_with, names_of, class_named}

-- a broken rule has a cause of its own, or is a bad payload at its bit
abbrev pub PayloadReading : Type 0 → Type 0
PayloadReading A = Reading (Option Cause) A

-- it is a bad payload at the field's first bit unless the rule holds of its value
abbrev pub field : {A : Type 0} → PayloadReading A → (A → Bool) → PayloadReading A
field read rule = must read rule None

-- it closes with this cause unless the condition holds
abbrev pub unless : Bool → Cause → PayloadReading ℕ
unless condition cause = need condition (Some cause)

-- a packed number
abbrev pub number_at : PayloadReading ℕ
number_at = packed_at None

-- ---- values

-- a value that isn't negative
abbrev pub natural_at : PayloadReading ℕ → PayloadReading ℤ
natural_at read = do
  n ← read
  give (pos n)

-- a value by its kind
abbrev pub value_at : Kind → PayloadReading ℤ
value_at Kind.Bool = natural_at (fixed_at 1)
value_at U8 = natural_at (fixed_at 8)
value_at I32 = signed_at 31
value_at U32 = natural_at (fixed_at 32)
value_at I64 = signed_at 63
value_at Packed = natural_at number_at
value_at Guid = natural_at number_at
value_at (Enum count) = natural_at (int_at count)
value_at (Bytes most) = give (pos 0)

-- handles ascend and are in the class; at most `more` of them, above `last`
abbrev pub pairs_at : Class → (more last : ℕ) → PayloadReading (List Pair)
pairs_at class zero last = do
  _ ← field number_at (λ h. h == 0)
  give []
pairs_at class (suc more) last = do
  h ← field number_at (λ h. h == 0 || (nat_lt last h && nat_le h (handle_count class)))
  if h == 0 then give [] else do
    v ← value_at (kind_at class h)
    pairs ← pairs_at class more h
    give (record { handle = h; value = v } ∷ pairs)

-- a value list
abbrev pub values_at : Class → PayloadReading (List Pair)
values_at class = pairs_at class (handle_count class) 0

-- an update's first handle isn't 0
abbrev pub some_values_at : Class → PayloadReading (List Pair)
some_values_at class = do
  h ← field number_at (λ h. nat_lt 0 h && nat_le h (handle_count class))
  v ← value_at (kind_at class h)
  pairs ← pairs_at class (handle_count class - 1) h
  give (record { handle = h; value = v } ∷ pairs)

-- n bytes
abbrev pub octets_at : ℕ → PayloadReading (List ℕ)
octets_at zero = give []
octets_at (suc n) = do
  byte ← fixed_at 8
  bytes ← octets_at n
  give (byte ∷ bytes)

-- an argument of at most `most` bytes
abbrev pub octets_arg_at : ℕ → PayloadReading Arg
octets_arg_at most = do
  n ← int_at (most + 1)
  bytes ← octets_at n
  give (Octets bytes)

-- an argument that is a value
abbrev pub scalar_at : Kind → PayloadReading Arg
scalar_at kind = do
  v ← value_at kind
  give (Scalar v)

-- an argument by its kind
abbrev pub arg_at : Kind → PayloadReading Arg
arg_at (Bytes most) = octets_arg_at most
arg_at kind = scalar_at kind

-- the arguments of a call
abbrev pub args_at : List Kind → PayloadReading (List Arg)
args_at [] = give []
args_at (kind ∷ kinds) = do
  a ← arg_at kind
  args ← args_at kinds
  give (a ∷ args)

-- an actor's guid is even and at least 2
abbrev pub actor_at : PayloadReading ℕ
actor_at = field number_at (λ g. g % 2 == 0 && nat_le 2 g)

-- no bits are left over
abbrev pub end_at : PayloadReading ℕ
end_at = must left (λ n. n == 0) None

-- the value, or the cause that stands against it
abbrev pub may_fail : {A : Type 0} → Option Cause → A → PayloadReading A
may_fail None value = give value
may_fail (Some cause) value = do
  from ← left
  fault (Broken from (Some cause))

-- a segment's guid is odd and at least 3, and its name a name of 1 to 31 characters
abbrev pub segment_at : PayloadReading Segment
segment_at = do
  guid ← field number_at (λ g. g % 2 == 1 && nat_le 3 g)
  outer ← number_at
  n ← field (int_at 64) (λ n. nat_le 1 n && nat_le n name_bytes)
  name ← field (octets_at n) is_segment_name
  give (record { guid = guid; outer = outer; name = name })

-- each export goes to the names once it has been read whole
abbrev pub segments_at : List Segment → (count : ℕ) → PayloadReading (List Segment)
segments_at names zero = give []
segments_at names (suc count) = do
  s ← segment_at
  known ← may_fail (learn_fault names s) (names_with names s)
  segments ← segments_at known count
  give (s ∷ segments)

-- exports, where the flag says so: at least one
abbrev pub exports_at : Bool → List Segment → PayloadReading (List Segment)
exports_at false names = give []
exports_at true names = do
  count ← field number_at (λ n. nat_le 1 n)
  segments_at names count

-- the class, or the cause that stands where there is none
abbrev pub class_or : Cause → Option Class → PayloadReading Class
class_or cause (Some class) = give class
class_or cause None = do
  from ← left
  fault (Broken from (Some cause))

-- ---- payloads at the client

-- there is a channel, and it is another one
abbrev pub is_elsewhere : ℕ → Option ℕ → Bool
is_elsewhere ch None = false
is_elsewhere ch (Some channel) = not (channel == ch)

-- there is a class, and it is another one
abbrev pub is_other_class : Class → Option Class → Bool
is_other_class class None = false
is_other_class class (Some other) = not (class_guid other == class_guid class)

-- an open: exports, actor, class and values
abbrev pub open_at : Table → Past → Bunch → PayloadReading Message
open_at table past first = do
  exports ← exports_at first.exports (names_of past)
  actor ← actor_at
  _ ← unless (not (is_elsewhere first.channel (copy_channel past actor))) (Clash actor)
  _ ← unless (has_copy past actor || nat_lt (length (copied_actors past)) copy_limit) ActorsFull
  guid ← number_at
  class ← class_or (UnknownGuid guid) (class_named table (fold names_with (names_of past) exports) guid)
  _ ← unless (not (is_other_class class (copy_class past actor))) (Clash actor)
  values ← values_at class
  _ ← end_at
  give (Opens exports actor class values)

-- a call's number is in the class, of the right way and as reliable as its bunch
abbrev pub is_call_of : Class → (Way → Bool) → (reliable : Bool) → ℕ → Bool
is_call_of class way_ok reliable n =
    unwrap_or (option_map (λ (call : Call). way_ok call.way && beq call.reliable reliable) (call_at class n)) false

-- what stands in the place of a call that isn't there
abbrev pub no_call : Call
no_call = record { name = []; way = Way.Server; reliable = false; args = [] }

-- a call's number and arguments, up to the payload's end
abbrev pub call_at_end : Class → (actor : ℕ) → (Way → Bool) → (reliable : Bool) → PayloadReading Message
call_at_end class actor way_ok reliable = do
  n ← field number_at (is_call_of class way_ok reliable)
  args ← args_at (unwrap_or (call_at class n) no_call).args
  _ ← end_at
  give (Calls actor n (unwrap_or (call_at class n) no_call) args)

-- a call at the client, of an actor with a copy
abbrev pub client_call_at : Past → Bunch → PayloadReading Message
client_call_at past first = do
  actor ← actor_at
  class ← class_or (UnknownGuid actor) (copy_class past actor)
  call_at_end class actor goes_down first.reliable

-- an update of the copy that holds the channel
abbrev pub update_at : Past → Bunch → PayloadReading Message
update_at past first = do
  class ← class_or (BadChannel first.channel) (option_and_then (copy_class past) (copy_on past first.channel))
  values ← some_values_at class
  _ ← end_at
  give (Updates (unwrap_or (copy_on past first.channel) 0) class values)

-- an update is unreliable; its first bit is 0, that of a call is 1
abbrev pub plain_at : Past → Bunch → PayloadReading Message
plain_at past first = do
  is_call ← field bit_at (λ is_call. is_call || not first.reliable)
  if is_call then client_call_at past first else update_at past first

-- the actor has a copy without a channel
abbrev pub is_sleeping_copy : Past → ℕ → Bool
is_sleeping_copy past a = has_copy past a && is_none (copy_channel past a)

-- a Gone of a sleeping copy
abbrev pub gone_at : Past → PayloadReading Message
gone_at past = do
  _ ← field number_at (λ n. n == 1)
  actor ← actor_at
  _ ← unless (is_sleeping_copy past actor) (UnknownGuid actor)
  _ ← end_at
  give (Gone actor)

-- a close, which is empty
abbrev pub close_at : Past → Bunch → PayloadReading Message
close_at past first = do
  _ ← end_at
  give (Closes (unwrap_or (copy_on past first.channel) 0) first.sleeps)

-- ---- payloads at the server

-- a call on an actor channel of an actor that was ever opened
abbrev pub server_call_at : Past → Bunch → PayloadReading Message
server_call_at past first = do
  is_call ← field bit_at (λ is_call. is_call && not (first.channel == 0))
  actor ← actor_at
  class ← class_or (UnknownGuid actor) (opened_class past actor)
  call_at_end class actor goes_up first.reliable

-- a payload at the client, by the channel and the flags of its first bunch
abbrev pub client_payload_at : Table → Past → Bunch → PayloadReading Message
client_payload_at table past first =
    if first.channel == 0 then gone_at past
    else if first.closes then close_at past first
    else if first.opens then open_at table past first
    else plain_at past first

-- a payload at one side
abbrev pub payload_at : End → Past → Bunch → PayloadReading Message
payload_at end past first = elim end.side [
  | AtServer ↦ server_call_at past first
  | AtClient ↦ client_payload_at end.table past first
]
