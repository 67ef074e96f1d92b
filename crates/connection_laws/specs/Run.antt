-- What an end may do next, and the pasts that come of it. Whatever feed an end hears, its past is such
-- a run, and so is each past in the middle of a tick or of a packet.
use Rattle.std.specs.Prelude.{◌≡◌, ℕ, ◌++◌, length, slice_get, ◌+◌, ◌<◌, ◌≤◌, Bool, ◌&&◌, List, [], ◌∷◌, false, true, Option, Some, None, filter_map}
use Rattle.std.specs.List.{flat_map, AllByRecursion}
use Rattle.protocol_model.specs.declared.Version.{Version}
use Rattle.protocol_model.specs.declared.Version.TheVariants.{One, Two}
use Rattle.protocol_model.specs.Packet.{Bunch}
use Rattle.protocol_model.specs.Payload.{Message, Opens, Closes, Updates, Calls, Gone, parts_of}
use Rattle.protocol_model.specs.Sight.{Seen}
use Rattle.protocol_model.specs.Search.{newest_of, is_among, greatest_of}
use Rattle.protocol_model.specs.Limits.{unresolved_limit}
use Rattle.connection_model.specs.Feed.{End, Past, Deed, Ticked, Waits, Sent, Took, Ended, Ending, Entry, Delivered, Item, Owed, Carries, Loose, has_ended, tick_count, deeds_since_tick, sight_of, seen_in}
use Rattle.connection_model.specs.Fates.{taken_of, top_of, unresolved_count}
use Rattle.connection_model.specs.Bunches.{made_count, has_arrived, span, room, after_making}
use Rattle.connection_model.specs.State.{state_of, is_open, is_opened, is_asleep, is_held, index_of}
use Rattle.connection_model.specs.CallAnswers.{call_channel, call_of, waits_in}
use Rattle.connection_model.specs.Carry.{due_pairs}
use Rattle.connection_model.specs.Items.{made_as, loose_bunch, open_message, update_message, update_pairs}
use Rattle.connection_model.specs.Settled.{is_settled_as}
use Rattle.connection_model.specs.Pack.{after_sending, is_shown}
use Rattle.connection_model.specs.Verdict.{with_told, with_handed, ack_cause}

-- one step of what an end does: a tick begins; a message is made, with all its parts; an unreliable call
-- is left waiting; a packet is sent, or taken; of the packet under way an entry is heard, or a payload is
-- handed on; the end ends
pub data Move : Type 0 where
  Ticks : (sight : List Seen) → Move
  Makes : (channel : ℕ) (message : Message) → Move
  Defers : (message : Message) → Move
  Sends : (items : List Item) → Move
  Takes : (number : ℕ) → Move
  Hears : (entry : Entry) → Move
  Hands : (delivered : Delivered) → Move
  Ends : (ending : Ending) → Move

-- the past after this move
abbrev pub after_move : Past → Move → Past
after_move past (Ticks sight) = Ticked (tick_count past + 1) sight ∷ past
after_move past (Makes ch message) = after_making past ch message
after_move past (Defers message) = Waits message ∷ past
after_move past (Sends items) = after_sending past items
after_move past (Takes number) = Took number [] [] ∷ past
after_move past (Hears entry) = with_told entry past
after_move past (Hands d) = with_handed d past
after_move past (Ends ending) = Ended ending ∷ past

-- ---- what may be made

-- the last tick's sight has this entry
abbrev pub Shows : Past → Seen → Type 0
Shows past seen = (i : ℕ) × (slice_get (sight_of past) i ≡ Some seen)

-- the message opens an actor that is relevant in the last sight, as it is seen there
pub record OpensSeen (past : Past) (message : Message) : Type 0 where
  pub seen : Seen
  pub shown : Shows past seen
  pub relevant : seen.relevant ≡ true
  pub says : message ≡ open_message past seen

-- the message updates an actor that is relevant in the last sight, by the handles that were due in some past
pub record UpdatesSeen (past : Past) (message : Message) : Type 0 where
  pub seen : Seen
  pub shown : Shows past seen
  pub relevant : seen.relevant ≡ true
  pub at : Past
  pub some : 0 < length (due_pairs at seen)
  pub says : message ≡ update_message seen (update_pairs seen (due_pairs at seen))

-- the message was left waiting for the end of a tick
abbrev pub HasWaited : Past → Message → Type 0
HasWaited past message = (newer older : List Message) × (filter_map waits_in past ≡ newer ++ message ∷ older)

-- a close that lets the actor sleep is of one that the last sight shows as dormant, and that is settled as
-- it is seen there
abbrev pub SleepsSettled : Past → (actor : ℕ) → (sleeps : Bool) → Type 0
SleepsSettled past actor false = Unit {0}
SleepsSettled past actor true =
    is_shown (λ (seen : Seen). seen.dormant && is_settled_as past seen) (seen_in (sight_of past) actor) ≡ true

-- where a message may be made: an open on an index above 0 that nobody holds and on which all has arrived,
-- of an actor that holds no index; a close on the index of its actor, which is open; a Gone on index 0, of a
-- sleeping actor that is seen as destroyed; a reliable call on its actor's channel, by the actor's class
abbrev pub HasPlace : End → Past → (channel : ℕ) → Message → Type 0
HasPlace end past ch (Opens exports actor class values) =
    (1 ≤ ch) × (is_held past ch ≡ false) × (span past ch ≡ 0) × (index_of past actor ≡ None)
    × OpensSeen past (Opens exports actor class values)
HasPlace end past ch (Closes actor sleeps) =
    (index_of past actor ≡ Some ch) × (is_open (state_of past actor) ≡ true) × SleepsSettled past actor sleeps
HasPlace end past ch (Gone actor) =
    (ch ≡ 0) × (is_asleep (state_of past actor) ≡ true)
    × (is_shown (λ (seen : Seen). seen.destroyed) (seen_in (sight_of past) actor) ≡ true)
HasPlace end past ch (Calls actor number call args) =
    (call_channel end.side past actor ≡ Some ch)
    × (call_of end.side past actor number args ≡ Some call)
    × (call.reliable ≡ true)
HasPlace end past ch (Updates actor class values) = ⊥

-- the message has its place on the index, and there is room for all its parts
pub record MayMake (end : End) (past : Past) (ch : ℕ) (message : Message) : Type 0 where
  pub fits : parts_of message ≤ room past ch
  pub place : HasPlace end past ch message

-- ---- what may be sent

-- bunch n of the index was made, as this, and hasn't arrived
pub record IsWaiting (past : Past) (ch n : ℕ) (bunch : Bunch) : Type 0 where
  pub low : 1 ≤ n
  pub high : n ≤ made_count past ch
  pub made : newest_of (made_as ch n) past ≡ Some bunch
  pub unarrived : has_arrived past ch n ≡ false

-- the message is an unreliable call, by the actor's class
abbrev pub IsLooseCall : End → Past → Message → Type 0
IsLooseCall end past (Opens exports actor class values) = ⊥
IsLooseCall end past (Closes actor sleeps) = ⊥
IsLooseCall end past (Gone actor) = ⊥
IsLooseCall end past (Updates actor class values) = ⊥
IsLooseCall end past (Calls actor number call args) =
    (call.reliable ≡ false) × (call_of end.side past actor number args ≡ Some call)

-- where an unreliable message may be sent: an update on the index that its actor holds, which is opened; a
-- call that waited on its actor's channel
abbrev pub HasLoosePlace : End → Past → (channel : ℕ) → Message → Type 0
HasLoosePlace end past ch (Opens exports actor class values) = ⊥
HasLoosePlace end past ch (Closes actor sleeps) = ⊥
HasLoosePlace end past ch (Gone actor) = ⊥
HasLoosePlace end past ch (Updates actor class values) =
    (is_opened (state_of past actor) ≡ true)
    × (index_of past actor ≡ Some ch)
    × UpdatesSeen past (Updates actor class values)
HasLoosePlace end past ch (Calls actor number call args) =
    (call.reliable ≡ false)
    × (call_channel end.side past actor ≡ Some ch)
    × HasWaited past (Calls actor number call args)

-- an item may be sent: the acknowledgement of a packet that was taken, a bunch that waits, an unreliable
-- message in its place
abbrev pub MaySend : End → Past → Item → Type 0
MaySend end past (Owed number) = is_among number (taken_of past) ≡ true
MaySend end past (Carries ch n bunch) = IsWaiting past ch n bunch
MaySend end past (Loose message bunch) =
    (ch : ℕ) × (bunch ≡ loose_bunch ch message) × HasLoosePlace end past ch message

-- the number that an item acknowledges
abbrev pub owed_in : Item → Option ℕ
owed_in (Owed number) = Some number
owed_in (Carries ch n bunch) = None
owed_in (Loose message bunch) = None

-- the numbers that items acknowledge, in their order
abbrev pub owed_by : List Item → List ℕ
owed_by items = filter_map owed_in items

-- the numbers that the packet of a deed acknowledges
abbrev pub acknowledged_in : Deed → List ℕ
acknowledged_in (Sent number t items) = owed_by items
acknowledged_in deed = []

-- each number that was acknowledged so far
abbrev pub acknowledged_of : Past → List ℕ
acknowledged_of past = flat_map acknowledged_in past

-- the numbers ascend, and the first is above `low`
abbrev pub Ascends : (low : ℕ) → List ℕ → Type 0
Ascends low [] = Unit {0}
Ascends low (n ∷ ns) = (low < n) × Ascends n ns

-- in version One acknowledgements ascend from above those of before; version Two has none among its items
abbrev pub Acknowledges : Version → (low : ℕ) → List ℕ → Type 0
Acknowledges One low ns = Ascends low ns
Acknowledges Two low ns = ns ≡ []

-- a packet with these items may be sent: a fate is free, nothing was taken since the tick began, each item
-- may be sent, and it acknowledges what no packet did before
pub record MaySendAll (end : End) (past : Past) (items : List Item) : Type 0 where
  pub unresolved : unresolved_count past < unresolved_limit
  pub in_tick : taken_of (deeds_since_tick past) ≡ []
  pub each : AllByRecursion (MaySend end past) items
  pub told : Acknowledges end.version (greatest_of (acknowledged_of past)) (owed_by items)

-- ---- runs

-- what an end that is alive may do next. What comes from the other end is bound by little: a packet that is
-- taken has a number above those taken before, and an acknowledgement that is heard names what was sent
abbrev pub May : End → Past → Move → Type 0
May end past (Ticks sight) = Unit {0}
May end past (Makes ch message) = MayMake end past ch message
May end past (Defers message) = IsLooseCall end past message
May end past (Sends items) = MaySendAll end past items
May end past (Takes number) = top_of past < number
May end past (Hears entry) = ack_cause past entry ≡ None
May end past (Hands d) = Unit {0}
May end past (Ends ending) = Unit {0}

-- a past that came of such moves, from nothing
pub data IsRun (end : End) : Past → Type 0 where
  start : IsRun end []
  does : {past : Past} (move : Move) → IsRun end past → has_ended past ≡ false → May end past move
      → IsRun end (after_move past move)
