-- Values and arguments as the whole numbers and bytes that they stand for.
use Rattle.std.specs.Prelude.{if◌then◌else◌, ℤ, pos, Bool, true, false, ◌&&◌, List, [], ◌∷◌, map}
use Rattle.protocol_model.specs.declared.Kind.{Kind}
use Rattle.protocol_model.specs.Value as Model
use Rattle.value_codec.specs.declared.value.Value.{Value}
use Rattle.value_codec.specs.declared.args.Arg.{Arg}

-- the whole number that a value is; a bool is 0 or 1
abbrev pub whole_of : Value → ℤ
whole_of (Value.Bool b) = pos (if b then 1 else 0)
whole_of (Value.U8 n) = pos n
whole_of (Value.I32 z) = z
whole_of (Value.U32 n) = pos n
whole_of (Value.I64 z) = z
whole_of (Value.Enum n) = pos n
whole_of (Value.Packed n) = pos n
whole_of (Value.Guid n) = pos n

-- the value's tag is the kind's; no value is of bytes
abbrev pub is_of : Kind → Value → Bool
is_of Kind.Bool (Value.Bool b) = true
is_of Kind.U8 (Value.U8 n) = true
is_of Kind.I32 (Value.I32 z) = true
is_of Kind.U32 (Value.U32 n) = true
is_of Kind.I64 (Value.I64 z) = true
is_of (Kind.Enum count) (Value.Enum n) = true
is_of Kind.Packed (Value.Packed n) = true
is_of Kind.Guid (Value.Guid n) = true
is_of kind v = false

-- the value has the kind's tag, and is one of its numbers
abbrev pub value_fits : Kind → Value → Bool
value_fits kind v = is_of kind v && Model.fits kind (whole_of v)

-- the argument that contracts see
abbrev pub arg_of : Arg → Model.Arg
arg_of (Arg.Scalar v) = Model.Scalar (whole_of v)
arg_of (Arg.Bytes bytes) = Model.Octets bytes

-- the argument's tag is the kind's
abbrev pub arg_is_of : Kind → Arg → Bool
arg_is_of (Kind.Bytes most) (Arg.Bytes bytes) = true
arg_is_of kind (Arg.Bytes bytes) = false
arg_is_of kind (Arg.Scalar v) = is_of kind v

-- the argument has the kind's tag, and is one of its values
abbrev pub argument_fits : Kind → Arg → Bool
argument_fits kind a = arg_is_of kind a && Model.arg_fits kind (arg_of a)

-- each argument's tag is its kind's, as far as both lists go
abbrev pub args_are_of : List Kind → List Arg → Bool
args_are_of (k ∷ kinds) (a ∷ args) = arg_is_of k a && args_are_of kinds args
args_are_of [] args = true
args_are_of (k ∷ kinds) [] = true

-- there are as many arguments as kinds, and each fits its kind
abbrev pub arguments_fit : List Kind → List Arg → Bool
arguments_fit kinds args = args_are_of kinds args && Model.args_fit kinds (map arg_of args)
