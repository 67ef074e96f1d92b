-- The packets of a tick under way, and how they grow.
use Rattle.std.specs.Prelude.{⊤, ℕ, ◌+◌, ◌*◌, ◌%◌, ◌<◌, ◌==◌, ◌&&◌, ◌||◌, if◌then◌else◌, List, [], ◌∷◌, ◌++◌, length, Bool, true, false, nat_le, nat_lt, ◌≤◌, ◌-◌, IsTrue, Option, Some, None, option_map}
use Rattle.std.specs.List.{flat_map, sum_by}
use Rattle.protocol_model.specs.Bits.{bytes_of}
use Rattle.protocol_model.specs.Limits.{packet_bytes, packet_modulus, unresolved_limit}
use Rattle.protocol_model.specs.Packet.{Rec, Ack, is_rec, rec_bits, start_bits}
use Rattle.protocol_model.specs.declared.Version.{Version}
use Rattle.connection_model.specs.Feed.{Past}
use Rattle.connection_model.specs.Fates.{owed_of, last_sent, head_of}
use Rattle.ack_book.specs.Book.{Book}
use Rattle.link_end.specs.Link.{Begun, silence_most}

-- the most bits of a packet beside its entries: its number, the longest head and the end bit
abbrev pub frame_most : ℕ
frame_most = 288

-- the most bits of an entry that fits into a packet by itself, whatever head that has
abbrev pub entry_most : ℕ
entry_most = 8 * packet_bytes - frame_most

-- an entry has a spelling, and fits into a packet by itself
abbrev pub IsPackable : Version → Rec → Type 0
IsPackable v rec = IsTrue (is_rec v rec) × (length (rec_bits v rec) ≤ entry_most)

-- a packet's bytes, with the end bit
abbrev pub closed_bytes : List Bool → List ℕ
closed_bytes bits = bytes_of (bits ++ true ∷ [])

-- the current packet's bytes, if there is one
abbrev pub current_bytes : Option (List Bool) → List (List ℕ)
current_bytes None = []
current_bytes (Some bits) = closed_bytes bits ∷ []

-- the bytes of all packets begun, as if each were whole
abbrev pub all_bytes : Begun → List (List ℕ)
all_bytes b = b.whole ++ current_bytes b.current

-- how many bytes the whole packets have
abbrev pub whole_bytes : Begun → ℕ
whole_bytes b = sum_by length b.whole

-- and all packets begun
abbrev pub total_size : Begun → ℕ
total_size b = sum_by length (all_bytes b)

-- so many more bits fit into the current packet
abbrev pub fits_after : Option (List Bool) → (more : ℕ) → Bool
fits_after None more = false
fits_after (Some bits) more = nat_le (length bits + more + 1) (8 * packet_bytes)

-- one more packet is begun with these bits
abbrev pub with_packet : List Bool → Begun → Begun
with_packet bits b = record b { whole = all_bytes b; current = Some bits }

-- the current packet has more bits
abbrev pub with_bits : List Bool → Begun → Begun
with_bits more b = record b { current = option_map (λ bits. bits ++ more) b.current }

-- a packet's start after a past
abbrev pub next_start : Version → Past → List Bool
next_start v past = start_bits v ((last_sent past + 1) % packet_modulus) (head_of v past)

-- acknowledgements
abbrev pub acks_bits : Version → List ℕ → List Bool
acks_bits v ns = flat_map (λ n. rec_bits v (Ack (n % packet_modulus))) ns

-- the current packet with which a tick begins: one with all acknowledgements owed, where there are any
abbrev pub first_current : Version → Past → List ℕ → Option (List Bool)
first_current v past [] = None
first_current v past (n ∷ ns) = Some (next_start v past ++ acks_bits v (n ∷ ns))

-- the packets with which a tick begins
abbrev pub first_begun : Version → Past → Begun
first_begun v past =
    record { first = last_sent past + 1; whole = []; current = first_current v past (owed_of v past); full = false }

-- an empty packet is asked for, and none was begun
abbrev pub is_asked : (asks : Bool) → Begun → Bool
is_asked asks b = asks && length (all_bytes b) == 0

-- and then there is one
abbrev pub with_asked : Version → Past → (asks : Bool) → Begun → Begun
with_asked v past asks b = if is_asked asks b then with_packet (next_start v past) b else b

-- all packets but the current one have fewer bits than the budget, since one more was begun
abbrev pub IsWithin : (budget : ℕ) → Option Begun → Type 0
IsWithin budget None = ⊤
IsWithin budget (Some b) = 8 * whole_bytes b < budget

-- the budget and the count of open packets let a new packet begin
abbrev pub may_with : (budget : ℕ) → Book → Begun → Bool
may_with budget book b = nat_lt (8 * total_size b) budget && nat_lt book.last_sent (book.high + unresolved_limit)

-- an empty packet is called for
abbrev pub asks_with : (heard : Bool) → (silent unresolved : ℕ) → Bool
asks_with heard silent unresolved = heard || (nat_lt 0 unresolved && nat_le silence_most silent)
