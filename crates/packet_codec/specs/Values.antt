-- The packets that the program's values stand for.
use Rattle.std.specs.Prelude.{List, map, Bool}
use Rattle.std.specs.List.{flat_map, list_all}
use Rattle.protocol_model.specs.Packet.{Bunch, Rec, Ack, Sends, Packet, is_rec, rec_bits}
use Rattle.protocol_model.specs.declared.Version.{Version}
use Rattle.bit_io.specs.HeadOf.{head_of}
use Rattle.bit_io.specs.Lent.{slice_bits}
use Rattle.protocol_laws.specs.Fields.{Opening, Standing}
use Rattle.packet_codec.specs.declared.entries.Opening.{Opening as OpeningValue}
use Rattle.packet_codec.specs.declared.entries.Standing.{Standing as StandingValue}
use Rattle.packet_codec.specs.declared.packet.Bunch.{Bunch as BunchValue}
use Rattle.packet_codec.specs.declared.packet.Rec.{Rec as RecValue}
use Rattle.packet_codec.specs.declared.packet.Packet.{Packet as PacketValue}

-- what the header says before the channel
abbrev pub opening_of : OpeningValue → Opening
opening_of o = record { opens = o.opens; closes = o.closes; sleeps = o.sleeps; reliable = o.reliable }

-- what it says from the channel up to the number
abbrev pub standing_of : StandingValue → Standing
standing_of s = record { channel = s.channel; exports = s.exports; partial = s.partial }

-- the bunch, with the bits of its payload
abbrev pub bunch_of : BunchValue → Bunch
bunch_of b = record {
  opens = b.opens;
  closes = b.closes;
  sleeps = b.sleeps;
  reliable = b.reliable;
  channel = b.channel;
  exports = b.exports;
  part = b.part;
  seq = b.seq;
  kind = b.kind;
  payload = slice_bits b.payload;
}

-- the entry
abbrev pub rec_of : RecValue → Rec
rec_of (RecValue.Ack number) = Ack number
rec_of (RecValue.Bunch bunch) = Sends (bunch_of bunch)

-- the packet
abbrev pub packet_value : PacketValue → Packet
packet_value p = record { number = p.number; head = head_of p.head; recs = map rec_of p.recs }

-- each entry has a spelling
abbrev pub are_recs : Version → List RecValue → Bool
are_recs version recs = list_all (λ rec. is_rec version (rec_of rec)) recs

-- the spellings of the entries, one behind the other
abbrev pub recs_bits : Version → List RecValue → List Bool
recs_bits version recs = flat_map (λ rec. rec_bits version (rec_of rec)) recs
