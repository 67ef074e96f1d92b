-- When the rules let a message through: what the reader knows, in one record a message.
use Rattle.std.specs.Prelude.{◌≡◌, ℕ, ◌^◌, ◌<◌, ◌==◌, List, [], ◌∷◌, length, Bool, true, false, ◌||◌, nat_lt, Some, None, IsTrue, ⊤}
use Rattle.std.specs.List.{fold}
use Rattle.protocol_model.specs.Limits.{copy_limit}
use Rattle.protocol_model.specs.Sight.{Seen}
use Rattle.protocol_model.specs.declared.Way.{Way}
use Rattle.protocol_model.specs.Side.{Side, AtServer, AtClient}
use Rattle.protocol_model.specs.Value.{Segment, Class, Call, Arg, Pair, Table, class_guid, call_at, args_fit, goes_up, goes_down}
use Rattle.protocol_model.specs.Packet.{Bunch}
use Rattle.protocol_model.specs.Payload.{Message, Opens, Closes, Updates, Calls, Gone}
use Rattle.connection_model.specs.Feed.{End, Past}
use Rattle.connection_model.specs.Bunches.{is_opening, is_closing, is_sleeping, has_exports}
use Rattle.connection_model.specs.CallAnswers.{call_class}
use Rattle.connection_model.specs.Names.{learn_fault, names_with, names_of, class_named}
use Rattle.connection_model.specs.Copies.{copy_class, copy_channel, copy_on, copied_actors, has_copy}
use Rattle.connection_model.specs.PayloadReading.{is_elsewhere, is_other_class, is_sleeping_copy}
use Rattle.table_model.specs.Rules.{Entry, segments_of}
use Rattle.payload_laws.specs.Limits.{HasLimits, IsActor, AreValues, IsSegment}
use Rattle.payload_laws.specs.Learning.{AreAmong, KnowsOthers}

-- ---- the first bunch of a message

-- the message tells that a sleeping actor is gone, and goes on channel 0
abbrev pub is_gone : Message → Bool
is_gone (Gone actor) = true
is_gone (Opens exports actor class values) = false
is_gone (Closes actor sleeps) = false
is_gone (Updates actor class values) = false
is_gone (Calls actor number call args) = false

-- the message goes in reliable bunches
abbrev pub is_reliable : Message → Bool
is_reliable (Opens exports actor class values) = true
is_reliable (Closes actor sleeps) = true
is_reliable (Updates actor class values) = false
is_reliable (Calls actor number call args) = call.reliable
is_reliable (Gone actor) = true

-- the flags and the channel of the bunch are those of the message's first
pub record Begins (message : Message) (first : Bunch) : Type 0 where
  pub opens : first.opens ≡ is_opening message
  pub closes : first.closes ≡ is_closing message
  pub sleeps : first.sleeps ≡ is_sleeping message
  pub exports : first.exports ≡ has_exports message
  pub reliable : first.reliable ≡ is_reliable message
  pub channel : (first.channel == 0) ≡ is_gone message

-- ---- what the reader knows

-- each segment is learnt after those before it
abbrev pub AreLearnt : (names exports : List Segment) → Type 0
AreLearnt names [] = ⊤
AreLearnt names (s ∷ exports) =
    IsSegment s × (learn_fault names s ≡ None) × AreLearnt (names_with names s) exports

-- an open goes through on the channel, its class under this guid
pub record OpenPasses (table : Table) (past : Past) (channel : ℕ) (exports : List Segment)
    (actor guid : ℕ) (class : Class) (values : List Pair) : Type 0 where
  pub few : length exports < 2 ^ 32
  pub learnt : AreLearnt (names_of past) exports
  pub is_actor : IsActor actor
  -- no copy of the actor is on another channel, or of another class, and there is room for one
  pub here : is_elsewhere channel (copy_channel past actor) ≡ false
  pub room : (has_copy past actor || nat_lt (length (copied_actors past)) copy_limit) ≡ true
  pub same : is_other_class class (copy_class past actor) ≡ false
  -- the names learnt by now name the class under the guid
  pub guid_below : guid < 2 ^ 32
  pub named : class_named table (fold names_with (names_of past) exports) guid ≡ Some class
  pub limits : HasLimits class
  pub all_fit : AreValues class 0 values

-- a client may take an open of what a server shows, on the channel: its names are the table's, it
-- knows what the open leaves out, and it has no copy elsewhere or of another class, and room for
-- one
pub record MayOpen (entries : List Entry) (past : Past) (channel : ℕ) (is_exported : Segment → Bool)
    (seen : Seen) : Type 0 where
  pub among : AreAmong (segments_of entries) (names_of past)
  pub others : KnowsOthers (names_of past) is_exported seen.class.path
  pub here : is_elsewhere channel (copy_channel past seen.actor) ≡ false
  pub room : (has_copy past seen.actor || nat_lt (length (copied_actors past)) copy_limit) ≡ true
  pub same : is_other_class seen.class (copy_class past seen.actor) ≡ false

-- an update goes through on the channel of the actor's copy, and it has a handle
pub record UpdatePasses (past : Past) (channel : ℕ) (actor : ℕ) (class : Class) (values : List Pair)
    : Type 0 where
  pub holds : copy_on past channel ≡ Some actor
  pub known : copy_class past actor ≡ Some class
  pub limits : HasLimits class
  pub some : 0 < length values
  pub all_fit : AreValues class 0 values

-- a call of this way comes to this side
abbrev pub comes_to : Side → Way → Bool
comes_to AtServer way = goes_up way
comes_to AtClient way = goes_down way

-- the side that reads what this one sends
abbrev pub reading_side : Side → Side
reading_side AtServer = AtClient
reading_side AtClient = AtServer

-- a call goes through: it is one of the class that the reader knows the actor by
pub record CallPasses (side : Side) (past : Past) (actor number : ℕ) (call : Call) (args : List Arg)
    : Type 0 where
  pub class : Class
  pub known : call_class side past actor ≡ Some class
  pub limits : HasLimits class
  pub is_actor : IsActor actor
  pub found : call_at class number ≡ Some call
  pub way : comes_to side call.way ≡ true
  pub all_fit : IsTrue (args_fit call.args args)

-- the rules let the end read the message on the channel
abbrev pub Passes : End → Past → (channel : ℕ) → Message → Type 0
Passes end past ch (Opens exports actor class values) =
    (end.side ≡ AtClient)
    × OpenPasses end.table past ch exports actor (class_guid class) class values
Passes end past ch (Closes actor sleeps) =
    (end.side ≡ AtClient) × (copy_on past ch ≡ Some actor)
Passes end past ch (Updates actor class values) =
    (end.side ≡ AtClient) × UpdatePasses past ch actor class values
Passes end past ch (Calls actor number call args) =
    CallPasses end.side past actor number call args
Passes end past ch (Gone actor) =
    (end.side ≡ AtClient) × IsActor actor × (is_sleeping_copy past actor ≡ true)
