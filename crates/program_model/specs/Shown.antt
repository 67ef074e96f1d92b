-- The packets of a file of hex lines.
use Rattle.std.specs.Prelude.{ℕ, ◌+◌, ◌-◌, ◌/◌, ◌%◌, ◌^◌, List, [], ◌∷◌, ◌++◌, map, length, Bool, true, false, Option, Some, None, Result, Ok, Err, codes, decimal}
use Rattle.std.specs.List.{flat_map, range_with_len}
use Rattle.protocol_model.specs.declared.Part.{Part}
use Rattle.protocol_model.specs.declared.Part.TheVariants.{Whole, First, Middle, Last, Lone}
use Rattle.protocol_model.specs.declared.Version.{Version}
use Rattle.protocol_model.specs.declared.Version.TheVariants.{One, Two}
use Rattle.protocol_model.specs.declared.Why.{Why}
use Rattle.protocol_model.specs.Packet.{Bunch, Head, Rec, Ack, Sends, Packet}
use Rattle.protocol_model.specs.PacketReading.{packet_of}
use Rattle.script_model.specs.Lines.{Text}
use Rattle.script_model.specs.Reports.{hex_digit, why_word}
use Rattle.script_model.specs.Script.{pieces, hex_bytes}
use Rattle.program_model.specs.Checked.{line}

-- ---- lines

-- the pieces but a last one that is empty
abbrev pub without_empty_last : List Text → List Text
without_empty_last [] = []
without_empty_last ([] ∷ []) = []
without_empty_last (piece ∷ pieces) = piece ∷ without_empty_last pieces

-- lines end with a newline, which the last may lack
abbrev pub file_lines : List ℕ → List Text
file_lines bytes = without_empty_last (pieces 10 bytes)

-- why a line isn't shown
pub data LineFault : Type 0 where
  NotHex : LineFault
  NoPacket : (at : ℕ) (why : Why) → LineFault

-- the packet that the bytes spell
abbrev pub packet_read : Version → Option (List ℕ) → Result Packet LineFault
packet_read version None = Err NotHex
packet_read version (Some bytes) =
    elim (packet_of version bytes) [ Ok packet ↦ Ok packet | Err bad ↦ Err (NoPacket bad.0 bad.1) ]

-- the packet whose bytes the line has in hex; an empty line is an empty datagram
abbrev pub packet_in : Version → Text → Result Packet LineFault
packet_in version text = packet_read version (hex_bytes text)

-- the packet before the others, if they are good
abbrev pub cons_ok : Packet → Result (List Packet) (ℕ × LineFault)
    → Result (List Packet) (ℕ × LineFault)
cons_ok packet (Ok packets) = Ok (packet ∷ packets)
cons_ok packet (Err bad) = Err bad

-- the packets of the lines from this number on, or the first bad line
abbrev pub packets_from : Version → (number : ℕ) → List Text → Result (List Packet) (ℕ × LineFault)
packets_from version n [] = Ok []
packets_from version n (text ∷ texts) = elim (packet_in version text) [
  | Ok packet ↦ cons_ok packet (packets_from version (n + 1) texts)
  | Err fault ↦ Err (n, fault)
]

-- the packets of a file, or its first bad line
abbrev pub packets_of : Version → List ℕ → Result (List Packet) (ℕ × LineFault)
packets_of version bytes = packets_from version 1 (file_lines bytes)

-- ---- texts

-- the word, where it holds
abbrev pub word_if : Bool → Text → List Text
word_if b word = elim b [ true ↦ word ∷ [] | false ↦ [] ]

-- the word of a part
abbrev pub part_words : Part → List Text
part_words Whole = []
part_words First = codes "first" ∷ []
part_words Middle = codes "middle" ∷ []
part_words Last = codes "last" ∷ []
part_words Lone = codes "lone" ∷ []

-- a reliable bunch's number and kind
abbrev pub number_words : (reliable : Bool) → Bunch → List Text
number_words reliable b = elim reliable [
  | true ↦ codes "seq" ∷ decimal b.seq ∷ codes "kind" ∷ decimal b.kind ∷ []
  | false ↦ []
]

-- an acknowledgement, or a bunch by its channel, those of its flags that hold, and its bits
abbrev pub rec_words : Rec → List Text
rec_words (Ack number) = codes "ack" ∷ decimal number ∷ []
rec_words (Sends b) =
    codes "bunch" ∷ decimal b.channel ∷ word_if b.opens (codes "open")
    ++ word_if b.closes (codes "close")
    ++ word_if b.sleeps (codes "dormant")
    ++ word_if b.reliable (codes "reliable")
    ++ word_if b.exports (codes "exports")
    ++ part_words b.part
    ++ number_words b.reliable b
    ++ codes "bits" ∷ decimal (length b.payload) ∷ []

-- eight hex digits, the highest first
abbrev pub word_text : ℕ → Text
word_text word = map (λ i. hex_digit (word / 16 ^ (7 - i) % 16)) (range_with_len 0 8)

-- in version Two the head: its top, and each word of its history
abbrev pub head_text : Version → Head → Text
head_text One head = []
head_text Two head = line (codes "head" ∷ decimal head.top ∷ map word_text head.words)

-- a packet with its entries
abbrev pub packet_text : Version → Packet → Text
packet_text version p =
    line (codes "packet" ∷ decimal p.number ∷ decimal (length p.recs) ∷ []) ++ head_text version p.head
    ++ flat_map (λ rec. line (rec_words rec)) p.recs

-- all packets
abbrev pub show_text : Version → List Packet → Text
show_text version packets = flat_map (packet_text version) packets

-- why the file isn't shown
abbrev pub fault_text : LineFault → Text
fault_text NotHex = codes "not hex"
fault_text (NoPacket at why) = codes "bit " ++ decimal at ++ 32 ∷ why_word why

-- the first bad line
abbrev pub line_refused_text : ℕ × LineFault → Text
line_refused_text bad = codes "unet: line " ++ decimal bad.0 ++ codes ": " ++ fault_text bad.1 ++ 10 ∷ []
