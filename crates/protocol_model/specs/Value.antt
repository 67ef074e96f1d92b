-- Kinds and values, properties, calls, classes and their table.
use Rattle.std.specs.Prelude.{if◌then◌else◌, ℕ, zero, suc, ◌+◌, ◌^◌, List, [], ◌∷◌, ◌++◌, length, Bool, true, false, ◌&&◌, not, nat_lt, nat_le, ◌==◌, Option, Some, None, ℤ, pos, negsuc, slice_get, unwrap_or, option_map}
use Rattle.std.specs.List.{list_all}
use Rattle.protocol_model.specs.declared.Cond.{Cond}
use Rattle.protocol_model.specs.declared.Kind.{Kind}
use Rattle.protocol_model.specs.declared.Kind.TheVariants.{U8, I32, U32, I64, Packed, Guid, Enum, Bytes}
use Rattle.protocol_model.specs.declared.Way.{Way}
use Rattle.protocol_model.specs.declared.Way.TheVariants.{Server, Client, Multicast}
use Rattle.protocol_model.specs.declared.Reach.{Reach}
use Rattle.protocol_model.specs.declared.Reach.TheVariants.{Always, Near, Owner}

-- v is one of 0 to max - 1
abbrev pub is_below : ℕ → ℤ → Bool
is_below max (pos n) = nat_lt n max
is_below max (negsuc n) = false

-- v is one of -half to half - 1
abbrev pub is_within : ℕ → ℤ → Bool
is_within half (pos n) = nat_lt n half
is_within half (negsuc n) = nat_lt n half

-- the value is one of its kind; a value is a whole number, and a bool is 0 or 1
abbrev pub fits : Kind → ℤ → Bool
fits Kind.Bool v = is_below 2 v
fits U8 v = is_below (2 ^ 8) v
fits I32 v = is_within (2 ^ 31) v
fits U32 v = is_below (2 ^ 32) v
fits I64 v = is_within (2 ^ 63) v
fits Packed v = is_below (2 ^ 32) v
fits Guid v = is_below (2 ^ 32) v
fits (Enum count) v = is_below count v
fits (Bytes most) v = false

-- an argument of a call
pub data Arg : Type 0 where
  Scalar : (value : ℤ) → Arg
  Octets : (bytes : List ℕ) → Arg

-- at most so many bytes
abbrev pub are_octets : ℕ → List ℕ → Bool
are_octets most bytes = nat_le (length bytes) most && list_all (λ b. nat_lt b 256) bytes

-- the argument is one of its kind
abbrev pub arg_fits : Kind → Arg → Bool
arg_fits (Bytes most) (Octets bytes) = are_octets most bytes
arg_fits kind (Octets bytes) = false
arg_fits kind (Scalar v) = fits kind v

-- each argument is one of its kind, and there are as many as kinds
abbrev pub args_fit : List Kind → List Arg → Bool
args_fit [] [] = true
args_fit [] (a ∷ args) = false
args_fit (k ∷ kinds) [] = false
args_fit (k ∷ kinds) (a ∷ args) = arg_fits k a && args_fit kinds args

-- a property of a class
pub record Prop : Type 0 where
  pub name : List ℕ
  pub kind : Kind
  pub cond : Cond
  pub init : ℤ

-- the call goes from the client to the server
abbrev pub goes_up : Way → Bool
goes_up Server = true
goes_up Client = false
goes_up Multicast = false

-- the call goes from the server to clients
abbrev pub goes_down : Way → Bool
goes_down way = not (goes_up way)

-- a remote procedure call of a class
pub record Call : Type 0 where
  pub name : List ℕ
  pub way : Way
  pub reliable : Bool
  pub args : List Kind

-- one step of a path, under its outer's guid; 0 is no outer
pub record Segment : Type 0 where
  pub guid : ℕ
  pub outer : ℕ
  pub name : List ℕ

-- the actor is relevant to its owner alone
abbrev pub is_owner_only : Reach → Bool
is_owner_only Owner = true
is_owner_only Always = false
is_owner_only (Near cull) = false

-- the actor is relevant to everyone
abbrev pub is_always : Reach → Bool
is_always Always = true
is_always Owner = false
is_always (Near cull) = false

-- a class, with the properties and calls that it inherits before its own, and its path outermost first
pub record Class : Type 0 where
  pub name : List ℕ
  pub path : List Segment
  pub reach : Reach
  pub priority : ℕ
  pub props : List Prop
  pub calls : List Call

-- the classes in the table's order
abbrev pub Table : Type 0
Table = List Class

-- the guid of the class: that of the last segment of its path
abbrev pub guid_of : List Segment → ℕ
guid_of [] = 0
guid_of (s ∷ []) = s.guid
guid_of (s ∷ t ∷ path) = guid_of (t ∷ path)

-- the guid of a class
abbrev pub class_guid : Class → ℕ
class_guid class = guid_of class.path

-- x and y are whole numbers of 32 bits; the role is 1 exactly where the connection's player owns the actor
abbrev pub built_in : List Prop
built_in = record { name = 120 ∷ []; kind = I32; cond = Cond.Always; init = pos 0 }
    ∷ record { name = 121 ∷ []; kind = I32; cond = Cond.Always; init = pos 0 }
    ∷ record { name = 114 ∷ 111 ∷ 108 ∷ 101 ∷ []; kind = Kind.Bool; cond = Cond.Always; init = pos 0 }
    ∷ []

-- the properties in the order of their handles, which count from 1: x, y and role, and then the class's
abbrev pub props_of : Class → List Prop
props_of class = built_in ++ class.props

-- the property of a handle
abbrev pub prop_at : Class → (handle : ℕ) → Option Prop
prop_at class zero = None
prop_at class (suc h) = slice_get (props_of class) h

-- how many handles a class has
abbrev pub handle_count : Class → ℕ
handle_count class = length (props_of class)

-- each handle of the class, ascending
abbrev pub numbered_from : ℕ → List Prop → List (ℕ × Prop)
numbered_from h [] = []
numbered_from h (p ∷ props) = (h, p) ∷ numbered_from (h + 1) props

-- each handle with its property
abbrev pub handles_of : Class → List (ℕ × Prop)
handles_of class = numbered_from 1 (props_of class)

-- the call of a number, counted from 1
abbrev pub call_at : Class → (number : ℕ) → Option Call
call_at class zero = None
call_at class (suc n) = slice_get class.calls n

-- a property by its handle, with a value
pub record Pair : Type 0 where
  pub handle : ℕ
  pub value : ℤ

-- the value of a handle in a list of values
abbrev pub value_among : List Pair → ℕ → Option ℤ
value_among [] h = None
value_among (p ∷ pairs) h = if p.handle == h then Some p.value else value_among pairs h

-- a handle's value before anything was said of it
abbrev pub initial_value : Class → ℕ → ℤ
initial_value class h = unwrap_or (option_map (λ (p : Prop). p.init) (prop_at class h)) (pos 0)
