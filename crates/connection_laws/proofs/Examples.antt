-- Two ends that talk: the first packet of a server, which opens a Pawn, comes to the client.
use Rattle.std.specs.Prelude.{◌≡◌, ◌≤◌, refl, ℕ, List, [], ◌∷◌, Some, Ok, unwrap_or, slice_get, pos, negsuc}
use Rattle.std.proofs.Common.{arith}
use Rattle.protocol_model.specs.Numbers.{leading_groups}
use Rattle.protocol_model.specs.Bits.{int_width, digits, packed_in, bytes_in}
use Rattle.protocol_model.specs.BuiltIn.{built_in_table, pawn, flag, purse}
use Rattle.protocol_model.specs.declared.Version.TheVariants.{One}
use Rattle.protocol_model.specs.Packet.{Packet}
use Rattle.protocol_model.specs.PacketReading as Reading
use Rattle.protocol_model.specs.Side.{AtServer, AtClient}
use Rattle.protocol_model.specs.Sight.{Seen, seen_of}
use Rattle.protocol_model.specs.World.{Spawn}
use Rattle.connection_model.specs.Feed.{End, Event, Tick, Got, Past}
use Rattle.protocol_model.specs.Limits.{span_limit}
use Rattle.connection_model.specs.Bunches.{span}
use Rattle.connection_model.specs.Fates.{last_sent}
use Rattle.connection_model.specs.Past.{past_of, sent_bytes}
use Rattle.connection_laws.specs.Talk.{packet_at, IsPacketOf, IsTalk}
use Rattle.connection_laws.proofs.Feeds.{feed_runs}
use Rattle.connection_laws.proofs.Spans.{spans_fit}
use Rattle.connection_laws.specs.Talk.IsTalk.{start, left_hears, right_hears}

server : End
server = record { side = AtServer; version = One; budget = 8000; table = built_in_table }

client : End
client = record { side = AtClient; version = One; budget = 1000000; table = built_in_table }

seen : Seen
seen = seen_of built_in_table (Spawn 0 (pos 10) (negsuc 2) ∷ []) 1 2

ticked : Past
unfolding server seen
ticked = past_of server (Tick (seen ∷ []) ∷ [])

opening : Packet
unfolding ticked server
opening = unwrap_or (packet_at server ticked 1) (record { number = 0; head = record { top = 0; words = [] }; recs = [] })

bytes : List ℕ
unfolding ticked server
bytes = unwrap_or (slice_get (sent_bytes server ticked) 0) []

was_sent : packet_at server ticked 1 ≡ Some opening
unfolding server seen ticked opening pawn flag purse digits packed_in bytes_in int_width leading_groups
was_sent = refl

is_read : Reading.packet_of One bytes ≡ Ok opening
unfolding server seen ticked opening bytes pawn flag purse digits packed_in bytes_in int_width leading_groups
is_read = refl

one_sent : last_sent ticked ≡ 1
unfolding server seen ticked pawn flag purse digits packed_in bytes_in int_width leading_groups
one_sent = refl

comes : IsPacketOf client server [] ticked bytes
unfolding client
comes = record {
  number = 1;
  come = record { first = omega arith; sent = omega (arith, one_sent); recent = omega arith };
  packet = opening;
  sent = was_sent;
  read = is_read;
}

-- so the premises can be met where a packet comes
they_talk : IsTalk server client (Tick (seen ∷ []) ∷ []) (Got bytes ∷ [])
unfolding ticked
they_talk = right_hears (Got bytes) (left_hears (Tick (seen ∷ [])) start tt) comes

-- a law at a feed: whatever an end heard, no index is further ahead of what has arrived than the limit
spans_are_short : (end : End) (feed : List Event) (ch : ℕ) → span (past_of end feed) ch ≤ span_limit
spans_are_short end feed ch = (spans_fit end (past_of end feed) (feed_runs end feed)).each ch
