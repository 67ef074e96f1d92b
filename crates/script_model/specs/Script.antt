-- The lines of a script as they are spelled: a word, and fields of the right shape between single spaces.
use Rattle.std.specs.Prelude.{ℕ, zero, suc, ◌+◌, ◌-◌, ◌*◌, ◌==◌, List, [], ◌∷◌, length, Bool, true, false, not, ◌&&◌, nat_le, Option, Some, None, option_map, option_and_then, if◌then◌else◌, ℤ, pos, negsuc, codes}
use Rattle.std.specs.List.{list_all}
use Rattle.std.specs.Str.{bytes_eq}
use Rattle.protocol_model.specs.declared.Version.{Version}
use Rattle.protocol_model.specs.declared.Version.TheVariants.{One, Two}
use Rattle.protocol_model.specs.Side.{Side, AtServer, AtClient}
use Rattle.std.specs.Bool.{then_some}
use Rattle.script_model.specs.Lines.{Text}

-- the byte before the first piece
abbrev pub add_to_first : ℕ → List Text → List Text
add_to_first b [] = (b ∷ []) ∷ []
add_to_first b (piece ∷ pieces) = (b ∷ piece) ∷ pieces

-- what stands between the separators
abbrev pub pieces : (separator : ℕ) → Text → List Text
pieces separator [] = [] ∷ []
pieces separator (b ∷ bytes) =
    let rest = pieces separator bytes in if b == separator then [] ∷ rest else add_to_first b rest

-- ---- numbers: decimal without leading zeros, with `-` before negative ones only

-- an ASCII digit
abbrev pub is_digit : ℕ → Bool
is_digit c = nat_le 48 c && nat_le c 57

-- the number that begins with n and goes on with these digits
abbrev pub digits_value : ℕ → Text → ℕ
digits_value n [] = n
digits_value n (c ∷ cs) = digits_value (10 * n + (c - 48)) cs

-- a number that isn't negative, without leading zeros
abbrev pub natural_of : Text → Option ℕ
natural_of [] = None
natural_of (c ∷ []) = then_some (is_digit c) (c - 48)
natural_of (c ∷ d ∷ cs) =
    then_some (not (c == 48) && list_all is_digit (c ∷ d ∷ cs)) (digits_value 0 (c ∷ d ∷ cs))

-- -n, for an n above 0
abbrev pub negative_of : ℕ → Option ℤ
negative_of zero = None
negative_of (suc n) = Some (negsuc n)

-- a whole number
abbrev pub number_of : Text → Option ℤ
number_of [] = None
number_of (c ∷ cs) =
    if c == 45 then option_and_then negative_of (natural_of cs) else option_map (λ n. pos n) (natural_of (c ∷ cs))

-- ---- bytes: an even number of hex digits of either case, or `-` for none

-- the value of a hex digit of either case
abbrev pub hex_value : ℕ → Option ℕ
hex_value c =
    if is_digit c then Some (c - 48)
    else if nat_le 97 c && nat_le c 102 then Some (c - 87)
    else if nat_le 65 c && nat_le c 70 then Some (c - 55)
    else None

-- the byte of two hex digits
abbrev pub byte_of : Option ℕ → Option ℕ → Option ℕ
byte_of (Some high) (Some low) = Some (16 * high + low)
byte_of (Some high) None = None
byte_of None low = None

-- both, if both are there
abbrev pub cons_if : Option ℕ → Option (List ℕ) → Option (List ℕ)
cons_if (Some b) (Some bytes) = Some (b ∷ bytes)
cons_if (Some b) None = None
cons_if None bytes = None

-- an even number of hex digits
abbrev pub hex_bytes : Text → Option (List ℕ)
hex_bytes [] = Some []
hex_bytes (c ∷ []) = None
hex_bytes (c ∷ d ∷ cs) = cons_if (byte_of (hex_value c) (hex_value d)) (hex_bytes cs)

-- bytes in hex, `-` for none
abbrev pub octets_of : Text → Option (List ℕ)
octets_of [] = None
octets_of (c ∷ cs) = if bytes_eq (c ∷ cs) (codes "-") then Some [] else hex_bytes (c ∷ cs)

-- ---- lines

-- a line by its word and number of fields; values and arguments aren't looked at yet
pub data Spelled : Type 0 where
  Join : (version : Version) (player budget : ℤ) → Spelled
  Spawn : (class : Text) (x y : ℤ) → Spelled
  Destroy : (actor : ℤ) → Spelled
  Set : (actor : ℤ) (name value : Text) → Spelled
  Own : (actor player : ℤ) → Spelled
  View : (player x y : ℤ) → Spelled
  Add : (on : Bool) (actor player : ℤ) → Spelled
  Dormant : (actor : ℤ) → Spelled
  Wake : (actor : ℤ) → Spelled
  Flush : (actor : ℤ) → Spelled
  Switch : (actor : ℤ) (name : Text) (on : Bool) → Spelled
  Team : (player team : ℤ) → Spelled
  Give : (actor team : ℤ) → Spelled
  Tick : Spelled
  ClientTick : (player : ℤ) → Spelled
  Deliver : (to : Side) (player number : ℤ) → Spelled
  DeliverNew : (to : Side) (player every : ℤ) → Spelled
  CallTo : (from : Side) (player actor : ℤ) (name : Text) (args : List Text) → Spelled
  CallAll : (actor : ℤ) (name : Text) (args : List Text) → Spelled
  Dump : (player : ℤ) → Spelled
  AskSettled : (player actor : ℤ) → Spelled
  Forge : (to : Side) (player : ℤ) (bytes : List ℕ) → Spelled

infixl 10 ◌>>=◌
-- the second reading, of what the first one gives
abbrev pub ◌>>=◌ : {A B : Type 0} → Option A → (A → Option B) → Option B
x >>= f = option_and_then f x

-- a name isn't empty
abbrev pub name_of : Text → Option Text
name_of [] = None
name_of (c ∷ cs) = Some (c ∷ cs)

-- 0 or 1
abbrev pub on_of : Text → Option Bool
on_of text =
    if bytes_eq text (codes "0") then Some false else if bytes_eq text (codes "1") then Some true else None

-- at most 2,048 bytes
abbrev pub datagram_of : Text → Option (List ℕ)
datagram_of text = do
  bytes ← octets_of text
  then_some (nat_le (length bytes) 2048) bytes

-- a line of one number
abbrev pub one_number : (ℤ → Spelled) → List Text → Option Spelled
one_number make (a ∷ []) = do
  a ← number_of a
  Some (make a)
one_number make fields = None

-- a line of two numbers
abbrev pub two_numbers : (ℤ → ℤ → Spelled) → List Text → Option Spelled
two_numbers make (a ∷ b ∷ []) = do
  a ← number_of a
  b ← number_of b
  Some (make a b)
two_numbers make fields = None

-- a line of three numbers
abbrev pub three_numbers : (ℤ → ℤ → ℤ → Spelled) → List Text → Option Spelled
three_numbers make (a ∷ b ∷ c ∷ []) = do
  a ← number_of a
  b ← number_of b
  c ← number_of c
  Some (make a b c)
three_numbers make fields = None

-- a line without fields
abbrev pub no_fields : Spelled → List Text → Option Spelled
no_fields line [] = Some line
no_fields line (f ∷ fields) = None

-- a class and where it is spawned
abbrev pub spawn_of : List Text → Option Spelled
spawn_of (class ∷ x ∷ y ∷ []) = do
  class ← name_of class
  x ← number_of x
  y ← number_of y
  Some (Spawn class x y)
spawn_of fields = None

-- an actor, a property and a value
abbrev pub set_of : List Text → Option Spelled
set_of (actor ∷ name ∷ value ∷ []) = do
  actor ← number_of actor
  name ← name_of name
  Some (Set actor name value)
set_of fields = None

-- an actor, a property and 0 or 1
abbrev pub switch_of : List Text → Option Spelled
switch_of (actor ∷ name ∷ on ∷ []) = do
  actor ← number_of actor
  name ← name_of name
  on ← on_of on
  Some (Switch actor name on)
switch_of fields = None

-- a player, an actor, a call and its arguments
abbrev pub call_of : Side → List Text → Option Spelled
call_of side (player ∷ actor ∷ name ∷ args) = do
  player ← number_of player
  actor ← number_of actor
  name ← name_of name
  Some (CallTo side player actor name args)
call_of side fields = None

-- an actor, a call and its arguments
abbrev pub multi_of : List Text → Option Spelled
multi_of (actor ∷ name ∷ args) = do
  actor ← number_of actor
  name ← name_of name
  Some (CallAll actor name args)
multi_of fields = None

-- a player and a datagram
abbrev pub forge_of : Side → List Text → Option Spelled
forge_of side (player ∷ bytes ∷ []) = do
  player ← number_of player
  bytes ← datagram_of bytes
  Some (Forge side player bytes)
forge_of side fields = None

-- the words, each with the reading of its fields
abbrev pub words : List (Text × (List Text → Option Spelled))
words =
    (codes "join", two_numbers (Join One)) ∷
    (codes "join2", two_numbers (Join Two)) ∷
    (codes "spawn", spawn_of) ∷
    (codes "destroy", one_number Destroy) ∷
    (codes "set", set_of) ∷
    (codes "own", two_numbers Own) ∷
    (codes "view", three_numbers View) ∷
    (codes "add", two_numbers (Add true)) ∷
    (codes "unadd", two_numbers (Add false)) ∷
    (codes "dormant", one_number Dormant) ∷
    (codes "wake", one_number Wake) ∷
    (codes "flush", one_number Flush) ∷
    (codes "switch", switch_of) ∷
    (codes "team", two_numbers Team) ∷
    (codes "give", two_numbers Give) ∷
    (codes "tick", no_fields Tick) ∷
    (codes "ctick", one_number ClientTick) ∷
    (codes "down", two_numbers (Deliver AtClient)) ∷
    (codes "up", two_numbers (Deliver AtServer)) ∷
    (codes "downnew", two_numbers (DeliverNew AtClient)) ∷
    (codes "upnew", two_numbers (DeliverNew AtServer)) ∷
    (codes "call", call_of AtServer) ∷
    (codes "ccall", call_of AtClient) ∷
    (codes "multi", multi_of) ∷
    (codes "dump", one_number Dump) ∷
    (codes "settled", two_numbers AskSettled) ∷
    (codes "forge", forge_of AtServer) ∷
    (codes "cforge", forge_of AtClient) ∷
    []

-- the fields by the first word that is this one
abbrev pub read_by : List (Text × (List Text → Option Spelled)) → Text → List Text → Option Spelled
read_by [] word fields = None
read_by (w ∷ ws) word fields = elim (bytes_eq w.0 word) [ true ↦ w.1 fields | false ↦ read_by ws word fields ]

-- a word and its fields
abbrev pub spelled_as : List Text → Option Spelled
spelled_as [] = None
spelled_as (word ∷ fields) = read_by words word fields

-- the line, by the single spaces between its fields; nothing where it has another shape
abbrev pub spelled_of : Text → Option Spelled
spelled_of line = spelled_as (pieces 32 line)
