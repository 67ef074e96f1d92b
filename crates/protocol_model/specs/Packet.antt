-- Packets in both versions, and the one spelling of each.
use Rattle.std.specs.Prelude.{◌≡◌, ℕ, ◌-◌, ◌^◌, ◌≤◌, ◌==◌, List, [], ◌∷◌, ◌++◌, length, Bool, true, false, not, ◌&&◌, ◌||◌, nat_lt, nat_le, IsTrue, if◌then◌else◌}
use Rattle.std.specs.List.{flat_map, list_all}
use Rattle.protocol_model.specs.Limits.{bunch_bits_limit, channels_one, channels_two, head_words, packet_bytes, packet_modulus, sequence_modulus}
use Rattle.protocol_model.specs.Bits.{int_bits, packed_bits, fixed_bits, bytes_of}
use Rattle.protocol_model.specs.declared.Version.{Version}
use Rattle.protocol_model.specs.declared.Version.TheVariants.{One, Two}
use Rattle.protocol_model.specs.declared.Part.{Part}
use Rattle.protocol_model.specs.declared.Part.TheVariants.{Whole, First, Middle, Last, Lone}

-- a part of a payload, or a whole one, as it goes on a channel
pub record Bunch : Type 0 where
  pub opens : Bool
  pub closes : Bool
  pub sleeps : Bool
  pub reliable : Bool
  pub channel : ℕ
  pub exports : Bool
  pub part : Part
  pub seq : ℕ
  pub kind : ℕ
  pub payload : List Bool

-- the greatest number taken, and a history of 32 numbers a word from it downwards; nothing in version One
pub record Head : Type 0 where
  pub top : ℕ
  pub words : List ℕ

-- an entry of a packet
pub data Rec : Type 0 where
  Ack : (number : ℕ) → Rec
  Sends : (bunch : Bunch) → Rec

-- a number, what it tells of the packets taken, and entries
pub record Packet : Type 0 where
  pub number : ℕ
  pub head : Head
  pub recs : List Rec

-- the bunch is one of several parts
abbrev pub is_partial : Part → Bool
is_partial Whole = false
is_partial First = true
is_partial Middle = true
is_partial Last = true
is_partial Lone = true

-- the part is marked as the first
abbrev pub is_initial : Part → Bool
is_initial First = true
is_initial Lone = true
is_initial Whole = false
is_initial Middle = false
is_initial Last = false

-- the part is marked as the last
abbrev pub is_final : Part → Bool
is_final Last = true
is_final Lone = true
is_final Whole = false
is_final First = false
is_final Middle = false

-- ---- the spelling, a field a line

-- one bit
abbrev pub flag : Bool → List Bool
flag b = b ∷ []

-- a field that stands only where its condition holds
abbrev pub field_if : Bool → List Bool → List Bool
field_if true bits = bits
field_if false bits = []

-- a channel's index
abbrev pub channel_bits : Version → ℕ → List Bool
channel_bits One channel = int_bits channels_one channel
channel_bits Two channel = packed_bits channel

-- a header in the order of its fields, and the payload
abbrev pub bunch_bits : Version → Bunch → List Bool
bunch_bits version b =
    flag (b.opens || b.closes)
    ++ field_if (b.opens || b.closes) (flag b.opens ++ flag b.closes)
    ++ field_if b.closes (flag b.sleeps)
    ++ flag false
    ++ flag b.reliable
    ++ channel_bits version b.channel
    ++ flag b.exports
    ++ flag false
    ++ flag (is_partial b.part)
    ++ field_if b.reliable (int_bits sequence_modulus b.seq)
    ++ field_if (is_partial b.part) (flag (is_initial b.part) ++ flag (is_final b.part))
    ++ field_if b.reliable (int_bits 8 b.kind)
    ++ int_bits bunch_bits_limit (length b.payload)
    ++ b.payload

-- an entry; a bit before it tells the two apart in version One, and version Two has bunches alone
abbrev pub rec_bits : Version → Rec → List Bool
rec_bits One (Ack number) = flag true ++ int_bits packet_modulus number
rec_bits One (Sends bunch) = flag false ++ bunch_bits One bunch
rec_bits Two (Ack number) = []
rec_bits Two (Sends bunch) = bunch_bits Two bunch

-- what stands before the entries
abbrev pub start_bits : Version → ℕ → Head → List Bool
start_bits One number head = int_bits packet_modulus number
start_bits Two number head =
    int_bits packet_modulus number ++ int_bits packet_modulus head.top ++ int_bits 8 (length head.words - 1)
    ++ flat_map (λ word. fixed_bits 32 word) head.words

-- the content, one 1 bit, and 0 bits to the byte's end
abbrev pub spelling_of : Version → Packet → List ℕ
spelling_of version p =
    bytes_of (start_bits version p.number p.head ++ flat_map (λ rec. rec_bits version rec) p.recs ++ flag true)

-- ---- what has a spelling

-- where the first holds the second does
abbrev pub implies : Bool → Bool → Bool
implies a b = not a || b

-- indices are below this
abbrev pub channel_limit : Version → ℕ
channel_limit One = channels_one
channel_limit Two = channels_two

-- the rules of the table hold of the header
abbrev pub is_bunch : Version → Bunch → Bool
is_bunch version b =
    not (b.opens && b.closes)
    && implies b.sleeps b.closes
    && implies (b.opens || b.closes) b.reliable
    && nat_lt b.channel (channel_limit version)
    && implies b.exports b.opens
    && implies (is_partial b.part) b.reliable
    && (if b.reliable then nat_lt b.seq sequence_modulus && (b.kind == 1 || b.kind == 2) else b.seq == 0 && b.kind == 0)
    && nat_lt (length b.payload) bunch_bits_limit

-- the entry has a spelling
abbrev pub is_rec : Version → Rec → Bool
is_rec One (Ack number) = nat_lt number packet_modulus
is_rec Two (Ack number) = false
is_rec version (Sends bunch) = is_bunch version bunch

-- the head has a spelling: nothing in version One, 1 to 8 words in version Two
abbrev pub is_head : Version → Head → Bool
is_head One head = head.top == 0 && length head.words == 0
is_head Two head =
    nat_lt head.top packet_modulus && nat_le 1 (length head.words) && nat_le (length head.words) head_words
    && list_all (λ word. nat_lt word (2 ^ 32)) head.words

-- the bytes spell the packet
pub record Spells (version : Version) (p : Packet) (bytes : List ℕ) : Type 0 where
  pub number : IsTrue (nat_lt p.number packet_modulus)
  pub head : IsTrue (is_head version p.head)
  pub recs : IsTrue (list_all (λ rec. is_rec version rec) p.recs)
  pub spelling : bytes ≡ spelling_of version p
  pub size : length bytes ≤ packet_bytes
