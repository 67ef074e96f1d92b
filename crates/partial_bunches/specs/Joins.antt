-- Parts joined to payloads.
use Rattle.std.specs.Prelude.{◌≡◌, ℕ, ◌+◌, ◌-◌, ◌*◌, ◌≤◌, List, [], ◌∷◌, length, take, drop, reverse, Bool, true, false, Option, Some, None, min, Result, Ok, Err, ⊤, if◌then◌else◌}
use Rattle.std.specs.List.{flat_map}
use Rattle.bit_io.specs.Written.{Written}
use Rattle.protocol_model.specs.Limits.{part_bits, part_limit, payload_bits}
use Rattle.protocol_model.specs.Packet.{Bunch}
use Rattle.protocol_model.specs.Payload.{part_count, part_at}
use Rattle.protocol_model.specs.declared.Part.{Part}
use Rattle.protocol_model.specs.declared.Part.TheVariants.{Whole, First, Middle, Last, Lone}
use Rattle.connection_model.specs.Windows.{part_fault, ends_payload, joined_bits}
use Rattle.partial_bunches.specs.declared.joiner.Joined.{Joined}
use Rattle.partial_bunches.specs.declared.joiner.Joined.TheVariants as joined
use Rattle.partial_bunches.specs.declared.joiner.PartRefusal.{PartRefusal}
use Rattle.partial_bunches.specs.declared.joiner.PartRefusal.TheVariants as refusal
use Rattle.partial_bunches.specs.declared.pieces.Piece.{Piece}

-- the i-th piece of a payload of that size, counted from 0
abbrev pub piece_of : (bits i : ℕ) → Piece
piece_of bits i = record {
  start = part_bits * i;
  end = min bits (part_bits * i + part_bits);
  part = part_at (part_count bits) i;
}

-- the bits of a piece
abbrev pub piece_bits : List Bool → Piece → List Bool
piece_bits bits p = take (p.end - p.start) (drop p.start bits)

-- how many parts are kept, and their bits
pub record Kept : Type 0 where
  pub count : ℕ
  pub bits : List Bool

-- a payload ends with this part
abbrev pub ends_with : Part → Bool
ends_with part = elim part [ Whole ↦ true | Last ↦ true | Lone ↦ true | First ↦ false | Middle ↦ false ]

-- the bits written so far
abbrev pub bits_kept : Option Written → List Bool
bits_kept None = []
bits_kept (Some w) = w.bits

-- there is room for parts of 7,000 bits up to the tenth
abbrev pub HasRoom : (count : ℕ) → Option Written → Type 0
HasRoom count None = count ≡ 0
HasRoom count (Some w) = (1 ≤ count) × (count ≤ part_limit) × (payload_bits ≤ w.spare + part_bits * count)

-- the parts kept are these bunches, the newest first
pub record Joins (k : Kept) (kept : List Bunch) : Type 0 where
  pub count : k.count ≡ length kept
  pub bits : k.bits ≡ flat_map (λ (b : Bunch). b.payload) (reverse kept)

-- the parts that a bunch joins
abbrev pub joins_to : List Bunch → Bunch → List Bunch
joins_to kept b = if b.reliable then kept else []

-- the answer to a bunch, where these parts are kept
abbrev pub IsAdded : List Bunch → Bunch → Result Joined PartRefusal → Type 0
IsAdded kept b (Ok joined.More) = (part_fault kept b b.part ≡ None) × (ends_payload b ≡ false)
IsAdded kept b (Ok (joined.Whole bits)) =
    (part_fault kept b b.part ≡ None) × (ends_payload b ≡ true) × (bits ≡ joined_bits (joins_to kept b) b)
IsAdded kept b (Err (refusal.BadPart why)) = part_fault kept b b.part ≡ Some why
IsAdded kept b (Err refusal.Memory) = ⊤

-- the parts kept after it
abbrev pub kept_after : List Bunch → Bunch → List Bunch
kept_after kept b = if ends_payload b then (if b.reliable then [] else kept) else b ∷ kept
