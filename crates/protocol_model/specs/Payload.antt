-- What a payload says, its one spelling, and how it is cut into parts.
use Rattle.std.specs.Prelude.{ℕ, ◌+◌, ◌-◌, ◌*◌, ◌/◌, ◌==◌, List, [], ◌∷◌, ◌++◌, length, take, drop, Bool, true, false, nat_le, unwrap_or, option_map, if◌then◌else◌, ℤ, pos, negsuc}
use Rattle.std.specs.List.{flat_map}
use Rattle.protocol_model.specs.Limits.{part_bits}
use Rattle.protocol_model.specs.declared.Kind.{Kind}
use Rattle.protocol_model.specs.declared.Kind.TheVariants.{U8, I32, U32, I64, Packed, Guid, Enum, Bytes}
use Rattle.protocol_model.specs.Value.{Arg, Scalar, Octets, Prop, Call, Segment, Class, Pair, class_guid, prop_at}
use Rattle.protocol_model.specs.Bits.{int_bits, packed_bits, fixed_bits, signed_bits}
use Rattle.protocol_model.specs.declared.Part.{Part}
use Rattle.protocol_model.specs.declared.Part.TheVariants.{Whole, First, Middle, Last}

-- what one payload says; a close has no bits, and an update doesn't spell its actor, which the channel tells
pub data Message : Type 0 where
  Opens : (exports : List Segment) (actor : ℕ) (class : Class) (values : List Pair) → Message
  Closes : (actor : ℕ) (sleeps : Bool) → Message
  Updates : (actor : ℕ) (class : Class) (values : List Pair) → Message
  Calls : (actor number : ℕ) (call : Call) (args : List Arg) → Message
  Gone : (actor : ℕ) → Message

-- the actor that a message is of
abbrev pub actor_of : Message → ℕ
actor_of (Opens exports actor class values) = actor
actor_of (Closes actor sleeps) = actor
actor_of (Updates actor class values) = actor
actor_of (Calls actor number call args) = actor
actor_of (Gone actor) = actor

-- ---- values

-- a value that isn't negative, as a natural number
abbrev pub natural : ℤ → ℕ
natural (pos n) = n
natural (negsuc n) = 0

-- a value by its kind
abbrev pub value_bits : Kind → ℤ → List Bool
value_bits Kind.Bool v = fixed_bits 1 (natural v)
value_bits U8 v = fixed_bits 8 (natural v)
value_bits I32 v = signed_bits 32 v
value_bits U32 v = fixed_bits 32 (natural v)
value_bits I64 v = signed_bits 64 v
value_bits Packed v = packed_bits (natural v)
value_bits Guid v = packed_bits (natural v)
value_bits (Enum count) v = int_bits count (natural v)
value_bits (Bytes most) v = []

-- the kind of a handle's values
abbrev pub kind_at : Class → ℕ → Kind
kind_at class h = unwrap_or (option_map (λ (p : Prop). p.kind) (prop_at class h)) Kind.Bool

-- a handle's number and its value
abbrev pub pair_bits : Class → Pair → List Bool
pair_bits class p = packed_bits p.handle ++ value_bits (kind_at class p.handle) p.value

-- for each handle its number and its value, and then 0
abbrev pub list_bits : Class → List Pair → List Bool
list_bits class pairs = flat_map (λ p. pair_bits class p) pairs ++ packed_bits 0

-- bytes of eight bits each
abbrev pub octets_bits : List ℕ → List Bool
octets_bits bytes = flat_map (λ b. fixed_bits 8 b) bytes

-- an argument by its kind: a value, or a length and that many bytes
abbrev pub arg_bits : Kind → Arg → List Bool
arg_bits (Bytes most) (Octets bytes) = int_bits (most + 1) (length bytes) ++ octets_bits bytes
arg_bits kind (Octets bytes) = []
arg_bits kind (Scalar v) = value_bits kind v

-- the arguments one after another
abbrev pub args_bits : List Kind → List Arg → List Bool
args_bits (k ∷ kinds) (a ∷ args) = arg_bits k a ++ args_bits kinds args
args_bits [] args = []
args_bits (k ∷ kinds) [] = []

-- ---- payloads

-- an exported segment: guid, outer guid, length and name
abbrev pub segment_bits : Segment → List Bool
segment_bits s = packed_bits s.guid ++ packed_bits s.outer ++ int_bits 64 (length s.name) ++ octets_bits s.name

-- the segments that the client doesn't know, where there are some
abbrev pub exports_bits : List Segment → List Bool
exports_bits [] = []
exports_bits (s ∷ segments) = packed_bits (length (s ∷ segments)) ++ flat_map segment_bits (s ∷ segments)

-- the bits of a payload
abbrev pub message_bits : Message → List Bool
message_bits (Opens exports actor class values) =
    exports_bits exports ++ packed_bits actor ++ packed_bits (class_guid class) ++ list_bits class values
message_bits (Closes actor sleeps) = []
message_bits (Updates actor class values) = false ∷ list_bits class values
message_bits (Calls actor number call args) =
    true ∷ (packed_bits actor ++ packed_bits number ++ args_bits call.args args)
message_bits (Gone actor) = packed_bits 1 ++ packed_bits actor

-- ---- parts

-- a payload of at most 7,000 bits is whole, a longer one has parts of 7,000 bits and a last one of 1 to 7,000
abbrev pub part_count : ℕ → ℕ
part_count bits = if nat_le bits part_bits then 1 else (bits + (part_bits - 1)) / part_bits

-- the part that is the i-th of so many, counted from 0
abbrev pub part_at : (count i : ℕ) → Part
part_at count i =
    if count == 1 then Whole else if i == 0 then First else if i + 1 == count then Last else Middle

-- the bits of the i-th part, counted from 0
abbrev pub piece_at : List Bool → ℕ → List Bool
piece_at bits i = take part_bits (drop (part_bits * i) bits)

-- how many bunches a message takes
abbrev pub parts_of : Message → ℕ
parts_of message = part_count (length (message_bits message))
