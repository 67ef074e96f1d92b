-- The texts of a class table: names, paths, and the words for types, conditions and kinds.
use Rattle.std.specs.Prelude.{ℕ, ◌==◌, List, [], ◌∷◌, length, Bool, true, false, ◌&&◌, ◌||◌, nat_lt, nat_le, Option, Some, None, option_and_then, Result, Ok, Err, if◌then◌else◌, codes}
use Rattle.std.specs.Bool.{then_some}
use Rattle.std.specs.Char.{is_ascii_alphabetic, is_ascii_alphanumeric}
use Rattle.std.specs.List.{list_all}
use Rattle.std.specs.Str.{bytes_eq}
use Rattle.protocol_model.specs.Limits.{depth_limit, name_bytes}
use Rattle.protocol_model.specs.declared.Cond.{Cond}
use Rattle.protocol_model.specs.declared.Kind.{Kind}
use Rattle.protocol_model.specs.declared.Way.{Way}
use Rattle.protocol_model.specs.declared.Way.TheVariants.{Server, Client, Multicast}
use Rattle.script_model.specs.Script.{pieces, natural_of}
use Rattle.table_model.specs.declared.TableWhy.{TableWhy}
use Rattle.table_model.specs.declared.TableWhy.TheVariants.{Range, BadType}

-- what a list of words has for this one
abbrev pub meaning_in : {A : Type 0} → List (List ℕ × A) → List ℕ → Option A
meaning_in [] word = None
meaning_in (w ∷ words) word = if bytes_eq w.0 word then Some w.1 else meaning_in words word

-- ---- names and paths

-- a letter or digit of ASCII, or `_`
abbrev pub is_name_byte : ℕ → Bool
is_name_byte c = is_ascii_alphanumeric c || c == 95

-- 1 to 31 of these, of which the first is a letter
abbrev pub is_name : List ℕ → Bool
is_name [] = false
is_name (c ∷ cs) = is_ascii_alphabetic c && list_all is_name_byte cs && nat_lt (length cs) name_bytes

-- the names of a path, outermost first; nothing stands before the first `/`
abbrev pub names_behind : List (List ℕ) → Option (List (List ℕ))
names_behind ([] ∷ names) = Some names
names_behind pieces = None

-- 1 to 8 times `/` and a name
abbrev pub path_of : List ℕ → Option (List (List ℕ))
path_of text = option_and_then (λ names. then_some (is_path names) names) (names_behind (pieces 47 text))
  where
    is_path : List (List ℕ) → Bool
    is_path names = nat_le 1 (length names) && nat_le (length names) depth_limit && list_all is_name names

-- ---- types

-- the types without a number
abbrev pub plain_types : List (List ℕ × Kind)
plain_types =
    (codes "bool", Kind.Bool) ∷ (codes "u8", Kind.U8) ∷ (codes "i32", Kind.I32) ∷ (codes "u32", Kind.U32)
    ∷ (codes "i64", Kind.I64) ∷ (codes "packed", Kind.Packed) ∷ (codes "guid", Kind.Guid) ∷ []

-- what stands behind a text that begins with this one
abbrev pub behind : List ℕ → List ℕ → Option (List ℕ)
behind [] text = Some text
behind (c ∷ cs) [] = None
behind (c ∷ cs) (b ∷ text) = if c == b then behind cs text else None

-- the number behind a word, without a sign or leading zeros and with nothing after it
abbrev pub number_behind : List ℕ → List ℕ → Option ℕ
number_behind word text = option_and_then natural_of (behind word text)

-- the kind of a number within its range
abbrev pub counted : (low high : ℕ) → (ℕ → Kind) → ℕ → Result Kind TableWhy
counted low high kind n = if nat_le low n && nat_le n high then Ok (kind n) else Err Range

-- bytes are a type among arguments alone
abbrev pub bytes_type : (argument : Bool) → Option ℕ → Result Kind TableWhy
bytes_type true (Some n) = counted 1 2048 Kind.Bytes n
bytes_type true None = Err BadType
bytes_type false n = Err BadType

-- `enum:M` with M from 2 to 65,535, `bytes:N` with N from 1 to 2,048
abbrev pub counted_type : (argument : Bool) → List ℕ → Result Kind TableWhy
counted_type argument text = elim (number_behind (codes "enum:") text) [
  | Some m ↦ counted 2 65535 Kind.Enum m
  | None ↦ bytes_type argument (number_behind (codes "bytes:") text)
]

-- the kind of a type's word
abbrev pub type_of : (argument : Bool) → List ℕ → Result Kind TableWhy
type_of argument text = elim (meaning_in plain_types text) [ Some kind ↦ Ok kind | None ↦ counted_type argument text ]

-- ---- conditions, and kinds of calls

-- the words for conditions
abbrev pub conditions : List (List ℕ × Cond)
conditions =
    (codes "none", Cond.Always) ∷ (codes "initial", Cond.InitialOnly) ∷ (codes "owner", Cond.OwnerOnly)
    ∷ (codes "skip", Cond.SkipOwner) ∷ (codes "initialowner", Cond.InitialOrOwner) ∷ (codes "custom", Cond.Custom) ∷ []

-- the words for the ways of calls
abbrev pub ways : List (List ℕ × Way)
ways = (codes "server", Server) ∷ (codes "client", Client) ∷ (codes "multicast", Multicast) ∷ []
