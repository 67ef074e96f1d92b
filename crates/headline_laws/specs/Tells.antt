-- What the messages of an end say: of a server's world, and of the calls of either end.
use Rattle.std.specs.Prelude.{◌≡◌, ℕ, ◌+◌, ◌<◌, List, Bool, true, not, filter, length, Some}
use Rattle.std.specs.List.{AllByRecursion}
use Rattle.protocol_model.specs.Value.{Segment, Class, Pair, Call, Arg}
use Rattle.protocol_model.specs.Payload.{Message, Opens, Closes, Updates, Calls, Gone, parts_of}
use Rattle.protocol_model.specs.Side.{Side}
use Rattle.table_model.specs.Rules.{Entry}
use Rattle.connection_model.specs.Feed.{Past, Deed, Ticked, Made, Waits, Sent, Took, Ended, Item, Owed, Carries, Loose}
use Rattle.connection_model.specs.CallAnswers.{fitting_call}
use Rattle.connection_model.specs.Exports.{exports_segment}
use Rattle.connection_laws.specs.Delivered.{on_index, Numbered}
use Rattle.connection_laws.specs.Deeds.{EachDeed}
use Rattle.payload_laws.specs.Accepted.{StandsIn}
use Rattle.payload_laws.specs.Limits.{AreValues}
use Rattle.headline_laws.specs.Fits.{IsSpawned}
use Rattle.headline_laws.specs.Whole.{MadeAt, ArrivedBelow}

-- the actor was spawned, and its class is one of the table
pub record IsKnownActor (entries : List Entry) (classes : ℕ → Class) (actor : ℕ) : Type 0 where
  pub spawned : IsSpawned actor
  pub stands : StandsIn entries (classes actor)

-- a message says values of the actor by its class: ascending handles, each value of its kind
pub record SaysValues (entries : List Entry) (classes : ℕ → Class) (actor : ℕ) (class : Class)
    (values : List Pair) : Type 0 where
  pub known : IsKnownActor entries classes actor
  pub same : class ≡ classes actor
  pub all_fit : AreValues class 0 values

-- a message is a call that this side may make of the actor's class, with arguments that fit
pub record SaysCall (entries : List Entry) (classes : ℕ → Class) (side : Side) (actor number : ℕ)
    (call : Call) (args : List Arg) : Type 0 where
  pub known : IsKnownActor entries classes actor
  pub fits : fitting_call side number args (classes actor) ≡ Some call

-- what a message says is so of its actor: values of its class, a call of its class, or no more than the guid
abbrev pub MessageTells : List Entry → (classes : ℕ → Class) → Side → Message → Type 0
MessageTells entries classes side (Opens exports actor class values) =
    SaysValues entries classes actor class values
MessageTells entries classes side (Closes actor sleeps) = Unit {0}
MessageTells entries classes side (Updates actor class values) =
    SaysValues entries classes actor class values × (0 < length values)
MessageTells entries classes side (Calls actor number call args) =
    SaysCall entries classes side actor number call args
MessageTells entries classes side (Gone actor) = IsSpawned actor

-- so is what an item says by itself, without having been made
abbrev pub ItemTells : List Entry → (classes : ℕ → Class) → Side → Item → Type 0
ItemTells entries classes side (Owed number) = Unit {0}
ItemTells entries classes side (Carries channel number bunch) = Unit {0}
ItemTells entries classes side (Loose message bunch) = MessageTells entries classes side message

-- so is each message that a deed made, left waiting or sent by itself
abbrev pub DeedTells : List Entry → (classes : ℕ → Class) → Side → Past → Deed → Type 0
DeedTells entries classes side past (Ticked t sight) = Unit {0}
DeedTells entries classes side past (Made channel number message i) =
    MessageTells entries classes side message
DeedTells entries classes side past (Waits message) = MessageTells entries classes side message
DeedTells entries classes side past (Sent number t items) =
    AllByRecursion (ItemTells entries classes side) items
DeedTells entries classes side past (Took number told handed) = Unit {0}
DeedTells entries classes side past (Ended ending) = Unit {0}

-- so is each such message of the past
abbrev pub PastTells : List Entry → (classes : ℕ → Class) → Side → Past → Type 0
PastTells entries classes side past = EachDeed (DeedTells entries classes side) past

-- ---- what opens leave out

-- an open that exports the segment was made, and has arrived with all before it on its index
pub record ExportArrived (past : Past) (guid : ℕ) : Type 0 where
  pub channel : ℕ
  pub made : Numbered
  pub exports : exports_segment guid made.1 ≡ true
  pub at : MadeAt past channel made
  pub arrived : ArrivedBelow past channel (made.0 + parts_of made.1)

-- an open exports the segments of its class's path, but for some that arrived before
pub record ExportsOthers (past : Past) (exports path : List Segment) : Type 0 where
  pub known : ℕ → Bool
  pub is : exports ≡ filter (λ (s : Segment). not (known s.guid)) path
  pub arrived : (guid : ℕ) → known guid ≡ true → ExportArrived past guid

-- if the message is an open, it exports its class's path, but for what arrived before
abbrev pub OpenExports : Past → Message → Type 0
OpenExports past (Opens exports actor class values) = ExportsOthers past exports class.path
OpenExports past (Closes actor sleeps) = Unit {0}
OpenExports past (Updates actor class values) = Unit {0}
OpenExports past (Calls actor number call args) = Unit {0}
OpenExports past (Gone actor) = Unit {0}

-- each open that was made does
abbrev pub OpensExport : Past → Type 0
OpensExport past = (ch : ℕ)
    → AllByRecursion (λ (made : Numbered). OpenExports past made.1) (on_index ch past)
