-- Two ends that hear ticks, calls and each other's packets, whichever of them, in whichever order.
use Rattle.std.specs.Prelude.{◌≡◌, ℕ, ◌==◌, List, [], ◌∷◌, Option, Some, None, Ok, if◌then◌else◌}
use Rattle.protocol_model.specs.Packet.{Packet}
use Rattle.protocol_model.specs.PacketReading as Reading
use Rattle.connection_model.specs.Feed.{End, Past, Event, Tick, Got, Call, Sent}
use Rattle.connection_model.specs.Past.{past_of}
use Rattle.connection_model.specs.Pack.{packet_carrying}
use Rattle.connection_laws.specs.Link.{MayCome}

-- packet k as it was sent, if one was sent by that number
abbrev pub packet_at : End → Past → (k : ℕ) → Option Packet
packet_at end [] k = None
packet_at end (Sent number t items ∷ past) k =
    if number == k then Some (packet_carrying end past number items) else packet_at end past k
packet_at end (deed ∷ past) k = packet_at end past k

-- the bytes are read as a packet of the other end that may come
pub record IsPacketOf (mine theirs : End) (me other : Past) (bytes : List ℕ) : Type 0 where
  pub number : ℕ
  pub come : MayCome me other number
  pub packet : Packet
  pub sent : packet_at theirs other number ≡ Some packet
  pub read : Reading.packet_of mine.version bytes ≡ Ok packet

-- what an end may hear where no datagram is forged
abbrev pub MayHear : (mine theirs : End) → (me other : Past) → Event → Type 0
MayHear mine theirs me other (Tick sight) = Unit {0}
MayHear mine theirs me other (Call actor number args) = Unit {0}
MayHear mine theirs me other (Got bytes) = IsPacketOf mine theirs me other bytes

-- the feeds of two ends of whom each hears only ticks, calls and packets of the other
pub data IsTalk (left right : End) : List Event → List Event → Type 0 where
  start : IsTalk left right [] []
  left_hears : {l r : List Event} (event : Event) → IsTalk left right l r
      → MayHear left right (past_of left l) (past_of right r) event
      → IsTalk left right (event ∷ l) r
  right_hears : {l r : List Event} (event : Event) → IsTalk left right l r
      → MayHear right left (past_of right r) (past_of left l) event
      → IsTalk left right l (event ∷ r)
