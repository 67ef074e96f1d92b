-- The room that is taken before something is written, in bits: no less than what is put, and than
-- what a `put` asks for.
use Rattle.std.specs.Prelude.{ℕ, ◌+◌, ◌*◌, List, [], ◌∷◌, length}
use Rattle.protocol_model.specs.Limits.{name_bytes}
use Rattle.value_codec.specs.declared.args.Arg.{Arg}

-- a handle and a value
abbrev pub pair_room : ℕ
pair_room = 40 + 64

-- a segment: two guids, a length and a name
abbrev pub segment_room : ℕ
segment_room = 40 + 40 + 32 + 8 * name_bytes

-- an argument: a value, or a length and bytes
abbrev pub arg_room : Arg → ℕ
arg_room (Arg.Scalar v) = 64
arg_room (Arg.Bytes bytes) = 32 + 8 * length bytes

-- arguments
abbrev pub args_room : List Arg → ℕ
args_room [] = 0
args_room (a ∷ args) = arg_room a + args_room args
