-- Reading a packet: the rules of its fields from left to right, and the first that is broken.
use Rattle.std.specs.Prelude.{◌≡◌, ℕ, zero, suc, ◌+◌, ◌-◌, ◌*◌, ◌==◌, List, [], ◌∷◌, length, reverse, Bool, true, false, not, ◌&&◌, ◌||◌, nat_lt, Result, Ok, Err, if◌then◌else◌, slice_index_or}
use Rattle.protocol_model.specs.Limits.{bunch_bits_limit, channels_one, channels_two, packet_bytes, packet_modulus, sequence_modulus}
use Rattle.protocol_model.specs.Bits.{bits_of}
use Rattle.protocol_model.specs.Reading.{Fault, Broken, Reading, ◌>>=◌, give, must, left, bit_at, bits_at, fixed_at, int_at, packed_at, place_of}
use Rattle.protocol_model.specs.declared.Version.{Version}
use Rattle.protocol_model.specs.declared.Version.TheVariants.{One, Two}
use Rattle.protocol_model.specs.declared.Part.{Part}
use Rattle.protocol_model.specs.declared.Part.TheVariants.{Whole, First, Middle, Last, Lone}
use Rattle.protocol_model.specs.Packet.{Bunch, Head, Rec, Ack, Sends, Packet, implies}
use Rattle.protocol_model.specs.declared.Why.{Why}
use Rattle.protocol_model.specs.declared.Why.TheVariants.{Empty, TooLong, NoEnd, Control, Reserved, OpenUnreliable, CloseUnreliable, ExportsUnopened, PartialUnreliable, BadKind, Short, Padded, Wide}

-- a field that stands only where its condition holds, and else has this value
abbrev pub read_if : {A : Type 0} → Bool → Reading Why A → A → Reading Why A
read_if true read value = read
read_if false read value = give value

-- a flag of which the rule holds
abbrev pub flag_at : (Bool → Bool) → Why → Reading Why Bool
flag_at rule why = must bit_at rule why

-- what an unreliable bunch with a control flag breaks
abbrev pub why_unreliable : Bool → Why
why_unreliable opens = if opens then OpenUnreliable else CloseUnreliable

-- an index; in version Two one of 32,768 or more is too wide
abbrev pub channel_at : Version → Reading Why ℕ
channel_at One = int_at channels_one
channel_at Two = must (packed_at Padded) (λ c. nat_lt c channels_two) Wide

-- the part by its three flags
abbrev pub part_of : (partial initial final : Bool) → Part
part_of false initial final = Whole
part_of true true false = First
part_of true false false = Middle
part_of true false true = Last
part_of true true true = Lone

-- a bunch, by the table of its fields
abbrev pub bunch_at : Version → Reading Why Bunch
bunch_at version = do
  control ← bit_at
  opens ← read_if control bit_at false
  closes ← read_if control (flag_at (λ closes. not (closes && opens) && (closes || opens)) Control) false
  sleeps ← read_if closes bit_at false
  _ ← flag_at not Reserved
  reliable ← flag_at (λ reliable. implies control reliable) (why_unreliable opens)
  channel ← channel_at version
  exports ← flag_at (λ exports. implies exports opens) ExportsUnopened
  _ ← flag_at not Reserved
  partial ← flag_at (λ partial. implies partial reliable) PartialUnreliable
  seq ← read_if reliable (int_at sequence_modulus) 0
  initial ← read_if partial bit_at false
  final ← read_if partial bit_at false
  kind ← read_if reliable (must (int_at 8) (λ kind. kind == 1 || kind == 2) BadKind) 0
  size ← int_at bunch_bits_limit
  payload ← bits_at size
  give (record {
    opens = opens;
    closes = closes;
    sleeps = sleeps;
    reliable = reliable;
    channel = channel;
    exports = exports;
    part = part_of partial initial final;
    seq = seq;
    kind = kind;
    payload = payload;
  })

-- an entry that is a bunch
abbrev pub sends_at : Version → Reading Why Rec
sends_at version = do
  bunch ← bunch_at version
  give (Sends bunch)

-- an entry that is an acknowledgement
abbrev pub ack_at : Reading Why Rec
ack_at = do
  number ← int_at packet_modulus
  give (Ack number)

-- an entry
abbrev pub rec_at : Version → Reading Why Rec
rec_at One = do
  is_ack ← bit_at
  if is_ack then ack_at else sends_at One
rec_at Two = sends_at Two

-- so many words of history
abbrev pub words_at : ℕ → Reading Why (List ℕ)
words_at zero = give []
words_at (suc count) = do
  word ← fixed_at 32
  words ← words_at count
  give (word ∷ words)

-- the head, which version One doesn't have
abbrev pub head_at : Version → Reading Why Head
head_at One = give (record { top = 0; words = [] })
head_at Two = do
  top ← int_at packet_modulus
  count ← int_at 8
  words ← words_at (count + 1)
  give (record { top = top; words = words })

-- entries until the content is used up, of at most so many bits
abbrev pub recs_at : Version → ℕ → Reading Why (List Rec)
recs_at version zero = give []
recs_at version (suc most) = do
  bits ← left
  if bits == 0 then give [] else do
    rec ← rec_at version
    recs ← recs_at version most
    give (rec ∷ recs)

-- a packet's content
abbrev pub packet_at : Version → Reading Why Packet
packet_at version = do
  number ← int_at packet_modulus
  head ← head_at version
  bits ← left
  recs ← recs_at version bits
  give (record { number = number; head = head; recs = recs })

-- the bits without the 0 bits before their first 1 bit, and without that bit
abbrev pub after_first_one : List Bool → List Bool
after_first_one [] = []
after_first_one (true ∷ bits) = bits
after_first_one (false ∷ bits) = after_first_one bits

-- what stands before the last 1 bit
abbrev pub content_of : List ℕ → List Bool
content_of bytes = reverse (after_first_one (reverse (bits_of bytes)))

-- where, and why
abbrev pub Refusal : Type 0
Refusal = ℕ × Why

-- the reason that a fault gives
abbrev pub why_of : Fault Why → Why
why_of Fault.Short = Short
why_of (Broken from why) = why

-- the packet that the content spells, or where and why it spells none
abbrev pub content_read : Version → List Bool → Result Packet Refusal
content_read version content =
    elim (packet_at version content) [ Ok got ↦ Ok got.0 | Err fault ↦ Err (place_of (length content) fault, why_of fault) ]

-- the packet that the bytes spell, or the first broken rule with its bit
abbrev pub packet_of : Version → List ℕ → Result Packet Refusal
packet_of version bytes =
    if length bytes == 0 then Err (0, Empty)
    else if nat_lt packet_bytes (length bytes) then Err (8 * packet_bytes, TooLong)
    else if slice_index_or bytes (length bytes - 1) 0 == 0 then Err (8 * (length bytes - 1), NoEnd)
    else content_read version (content_of bytes)

-- the bytes are no packet, by this rule at this bit
abbrev pub Bad : Version → List ℕ → ℕ → Why → Type 0
Bad version bytes at why = packet_of version bytes ≡ Err (at, why)
