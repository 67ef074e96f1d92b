-- What a link answers.
use Rattle.std.specs.List.{sum_by}
use Rattle.std.specs.Prelude.{◌≡◌, ℕ, ◌+◌, List, [], ◌∷◌, map, length, drop, option_map, Result, Ok, Err, ⊤, IsTrue, false, pos}
use Rattle.protocol_model.specs.Packet.{Packet}
use Rattle.protocol_model.specs.PacketReading.{packet_of}
use Rattle.protocol_model.specs.declared.Cause.{Cause}
use Rattle.protocol_model.specs.declared.Cause.TheVariants.{BadAck}
use Rattle.connection_model.specs.Feed.{End, Past}
use Rattle.protocol_model.specs.Sight.{Seen}
use Rattle.connection_model.specs.Fates.{is_new, number_near, top_of}
use Rattle.connection_model.specs.Pack.{Packing}
use Rattle.connection_model.specs.Past.{sent_bytes}
use Rattle.connection_model.specs.Verdict.{entries_in}
use Rattle.packing_laws.specs.Beginning as laws
use Rattle.packet_codec.specs.Values.{bunch_of}
use Rattle.ack_book.specs.declared.answer.BadAck.{BadAck as BadAckValue}
use Rattle.link_end.specs.declared.arrival.Entry.{Entry as EntryValue}
use Rattle.link_end.specs.declared.arrival.Entry.TheVariants as Told
use Rattle.link_end.specs.declared.arrival.Arrival.{Arrival}
use Rattle.link_end.specs.declared.arrival.TakeRefusal.{TakeRefusal}
use Rattle.link_end.specs.declared.arrival.TakeRefusal.TheVariants.{Malformed, Old, Memory}
use Rattle.link_end.specs.declared.sent.Sent.{Sent as SentValue}
use Rattle.link_end.specs.News.{News, Moves, Hears, news_of, bad_of, taking}

-- an entry as it is handed up
abbrev pub news_value : EntryValue → News
news_value (Told.Moved m) = Moves m.from m.to
news_value (Told.Bunch b) = Hears (bunch_of b)

-- a bad acknowledgement as the cause that it is
abbrev pub cause_value : BadAckValue → Cause
cause_value bad = BadAck bad.acked bad.sent

-- what arrived is this packet
pub record IsArrival (past : Past) (end : End) (p : Packet) (a : Arrival) : Type 0 where
  pub number : pos a.number ≡ number_near past p.number
  pub entries : map news_value a.entries ≡ news_of (taking past p) (entries_in end.version p)
  pub bad : option_map cause_value a.bad ≡ bad_of (taking past p) (entries_in end.version p)

-- a packet that is new arrives; bytes that are none, or a packet that isn't new, are refused
abbrev pub IsTake : End → Past → (bytes : List ℕ) → Result Arrival TakeRefusal → Type 0
IsTake end past bytes (Ok a) =
    (p : Packet) × (packet_of end.version bytes ≡ Ok p) × IsTrue (is_new past p.number) × IsArrival past end p a
IsTake end past bytes (Err (Malformed at why)) = packet_of end.version bytes ≡ Err (at, why)
IsTake end past bytes (Err (Old number last)) =
    (p : Packet) × (packet_of end.version bytes ≡ Ok p) × (is_new past p.number ≡ false)
    × (number ≡ number_near past p.number) × (last ≡ top_of past)
IsTake end past bytes (Err Memory) = ⊤

-- as a tick begins: the acknowledgements owed stand in the first packet
abbrev pub beginning : End → Past → List Seen → Packing
beginning end past sight = laws.beginning end past sight

-- a packet with its number
abbrev pub sent_value : SentValue → ℕ × List ℕ
sent_value s = (s.number, s.bytes)

-- how many bytes packets have
abbrev pub sent_size : List SentValue → ℕ
sent_size sent = sum_by (λ (s : SentValue). length s.bytes) sent

-- packets with their numbers, the first of which has this one
abbrev pub numbered : ℕ → List (List ℕ) → List (ℕ × List ℕ)
numbered n [] = []
numbered n (bytes ∷ packets) = (n, bytes) ∷ numbered (n + 1) packets

-- the packets that were sent from the one past to the other
abbrev pub new_packets : End → (before after : Past) → List (ℕ × List ℕ)
new_packets end before after =
    let count = length (sent_bytes end before) in numbered (count + 1) (drop count (sent_bytes end after))
