-- A client that hears its server alone: what it handed on is what the server made and sent.
use Rattle.std.specs.Prelude.{◌≡◌, ℕ, ◌==◌, List, [], ◌∷◌, reverse, not, true, false, Option, Some, None, filter_map, if◌then◌else◌}
use Rattle.std.specs.Bool.{then_some}
use Rattle.protocol_model.specs.Value.{Class, Segment}
use Rattle.protocol_model.specs.Search.{is_among}
use Rattle.protocol_model.specs.Payload.{Message}
use Rattle.protocol_model.specs.Side.{AtServer}
use Rattle.protocol_model.specs.World.{Edits, class_of}
use Rattle.connection_model.specs.Carry.{Carry}
use Rattle.connection_model.specs.Fates.{moved_of}
use Rattle.table_model.specs.Facts.{IsTable}
use Rattle.table_model.specs.Rules.{Entry}
use Rattle.table_model.specs.Grammar.{table_of}
use Rattle.connection_model.specs.Past.{past_of}
use Rattle.connection_model.specs.Feed.{End, Event, Past, Deed, Ticked, Made, Waits, Sent, Took, Ended, Item, Owed, Carries, Loose, Delivered}
use Rattle.connection_laws.specs.Deeds.{EachDeed}
use Rattle.connection_laws.specs.Delivered.{is_closed_by}
use Rattle.connection_laws.specs.Talk.{IsTalk}
use Rattle.payload_laws.specs.Accepted.{AreAccepted}
use Rattle.headline_laws.specs.Sights.{sights_of, Seeing}
use Rattle.headline_laws.specs.Follows.{Follows}

-- the items that packet k was sent with, and none where it wasn't sent
abbrev pub items_of : Past → (k : ℕ) → List Item
items_of [] k = []
items_of (Sent number t items ∷ past) k = if number == k then items else items_of past k
items_of (deed ∷ past) k = items_of past k

-- the message of an unreliable item
abbrev pub loose_in : Item → Option Message
loose_in (Owed number) = None
loose_in (Carries channel number bunch) = None
loose_in (Loose message bunch) = Some message

-- the unreliable messages in packet k, in order
abbrev pub loose_of : Past → (k : ℕ) → List Message
loose_of past k = filter_map loose_in (items_of past k)

-- the message of an unreliable payload that was handed on
abbrev pub handed_loosely : Delivered → Option Message
handed_loosely d = then_some (not d.reliable) d.message

-- of a packet that was taken the unreliable payloads were all handed on, in order, each as it was
-- sent
abbrev pub AppliesPacket : (from : Past) → Past → Deed → Type 0
AppliesPacket from before (Took n entries handed) =
    reverse (filter_map handed_loosely handed) ≡ loose_of from n
AppliesPacket from before (Ticked t sight) = Unit {0}
AppliesPacket from before (Made ch n message i) = Unit {0}
AppliesPacket from before (Waits message) = Unit {0}
AppliesPacket from before (Sent n t items) = Unit {0}
AppliesPacket from before (Ended ending) = Unit {0}

-- so were those of each packet that the second end took of the first one's
abbrev pub AppliesLoose : (from to : Past) → Type 0
AppliesLoose from to = EachDeed (AppliesPacket from) to

-- no datagram closed the client, its copies are those that the server's messages leave, and it
-- handed on all that is unreliable in each packet that it took
pub record IsFaithful (segments : List Segment) (classes : ℕ → Class) (server client : Past)
    : Type 0 where
  pub unbroken : is_closed_by client ≡ false
  pub follows : Follows segments classes server client
  pub loose : AppliesLoose server client

-- two ends talked over a network that loses, repeats and reorders packets, the server saw a world
-- grow to these edits, and the client is faithful
pub record IsFaithfulTalk (server client : End) (server_feed client_feed : List Event) (player : ℕ)
    (edits : Edits) (segments : List Segment) : Type 0 where
  pub side : server.side ≡ AtServer
  pub version : server.version ≡ client.version
  pub talk : IsTalk server client server_feed client_feed
  pub seeing : Seeing server.table player edits (sights_of (past_of server server_feed))
  pub faithful : IsFaithful segments (class_of server.table edits) (past_of server server_feed)
      (past_of client client_feed)

-- such a talk, where the server has an accepted table and the edits are accepted over it
pub record IsSoundTalk (entries : List Entry) (server client : End)
    (server_feed client_feed : List Event) (player : ℕ) (edits : Edits) (segments : List Segment)
    : Type 0 where
  pub is_table : IsTable entries
  pub accepted : AreAccepted (table_of entries) edits
  pub same : server.table ≡ table_of entries
  pub faithful : IsFaithfulTalk server client server_feed client_feed player edits segments

-- the packet that carried the value has arrived, as far as the server knows
abbrev pub HasArrived : (server : Past) → Carry → Type 0
HasArrived server carry =
    (k : ℕ) → carry.packet ≡ Some k → is_among k (moved_of server) ≡ true
