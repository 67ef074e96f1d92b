-- What a server's end was shown, event by event, and what a datagram or a call leaves as it was.
use Rattle.std.specs.Prelude.{◌≡◌, ◌≢◌, ℕ, ◌≤◌, List, [], ◌∷◌, length, true, false, Some, None, ⊤}
use Rattle.std.specs.List.{AllByRecursion}
use Rattle.protocol_model.specs.Limits.{part_bits, waiting_limit}
use Rattle.protocol_model.specs.Payload.{Message, Calls, message_bits}
use Rattle.protocol_model.specs.Side.{AtServer}
use Rattle.protocol_model.specs.Sight.{Seen}
use Rattle.protocol_model.specs.Value.{Table, Class, Arg, Call as CallSpec}
use Rattle.protocol_model.specs.World.{Edits, spawn_of, class_of}
use Rattle.connection_model.specs.Feed.{Event, Tick, Got, Call, Past}
use Rattle.connection_model.specs.State.{state_of, is_closed, is_opened}
use Rattle.connection_model.specs.CallAnswers.{call_of, waiting_of}

-- an entry that is relevant is of such an actor and class
abbrev pub IsSo : (ℕ → Class → Type 0) → Seen → Type 0
IsSo Q seen = seen.relevant ≡ true → Q seen.actor seen.class

-- in each sight of a feed
abbrev pub AreShown : (ℕ → Class → Type 0) → List Event → Type 0
AreShown Q [] = ⊤
AreShown Q (Tick sight ∷ feed) = AllByRecursion (IsSo Q) sight × AreShown Q feed
AreShown Q (Got bytes ∷ feed) = AreShown Q feed
AreShown Q (Call actor number args ∷ feed) = AreShown Q feed

-- no more calls wait than may, and each has room in one bunch
pub record AreShort (past : Past) : Type 0 where
  pub few : length (waiting_of past) ≤ waiting_limit
  pub short : AllByRecursion (λ (m : Message). length (message_bits m) ≤ part_bits) (waiting_of past)

-- a channel that was closed is closed
abbrev pub StayClosed : (past later : Past) → Type 0
StayClosed past later = (a : ℕ) → is_closed (state_of past a) ≡ true
    → is_closed (state_of later a) ≡ true

-- the call, where its actor is opened and it is unreliable, has room in one bunch
abbrev pub IsShort : Past → (actor number : ℕ) → List Arg → Type 0
IsShort past a n args = is_opened (state_of past a) ≡ true → (call : CallSpec)
    → call_of AtServer past a n args ≡ Some call → call.reliable ≡ false
    → length (message_bits (Calls a n call args)) ≤ part_bits

-- the actor was spawned as this class
abbrev pub IsOfWorld : Table → Edits → ℕ → Class → Type 0
IsOfWorld table edits a class = (spawn_of edits a ≢ None) × (class ≡ class_of table edits a)
