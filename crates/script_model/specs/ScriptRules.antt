-- Which lines may follow those before, why a line is refused, and so which bytes are a script and what it reads as.
use Rattle.std.specs.Prelude.{◌≡◌, ℕ, ◌+◌, ◌-◌, ◌*◌, ◌^◌, ◌==◌, List, [], ◌∷◌, ◌++◌, length, Bool, true, false, not, ◌&&◌, nat_lt, nat_le, Option, Some, None, is_some, is_none, option_map, option_to_list, unwrap_or, position, Result, Ok, Err, if◌then◌else◌, ℤ, pos, negsuc, int_le}
use Rattle.std.specs.List.{list_all}
use Rattle.std.specs.Str.{bytes_eq}
use Rattle.protocol_model.specs.Value.{Table, Class, Prop, Call, Arg, Scalar, Octets, fits, goes_up, props_of, prop_at, call_at}
use Rattle.protocol_model.specs.declared.Way.{Way}
use Rattle.protocol_model.specs.declared.Way.TheVariants.{Multicast}
use Rattle.protocol_model.specs.declared.Kind.{Kind}
use Rattle.protocol_model.specs.declared.Kind.TheVariants.{Bytes}
use Rattle.protocol_model.specs.Payload.{natural}
use Rattle.protocol_model.specs.Side.{AtServer, AtClient}
use Rattle.protocol_model.specs.World as world
use Rattle.protocol_model.specs.World.{Edits, Edit, lives, spawn_count, class_of, is_custom, spawn_of}
use Rattle.script_model.specs.Lines as story
use Rattle.script_model.specs.Lines.{Line, Text}
use Rattle.script_model.specs.Script.{Spelled, Join, Spawn, Destroy, Set, Own, View, Add, Dormant, Wake, Flush, Switch, Team, Give, Tick, ClientTick, Deliver, DeliverNew, CallTo, CallAll, Dump, AskSettled, Forge, pieces, number_of, octets_of, spelled_of, ◌>>=◌}
use Rattle.std.specs.Bool.{then_some}
use Rattle.protocol_model.specs.Limits.{budget_limit, connection_limit, line_bytes, player_limit, script_bytes, spawn_limit, team_limit}
use Rattle.protocol_model.specs.Search.{is_among}
use Rattle.protocol_model.specs.declared.LineWhy.{LineWhy}
use Rattle.protocol_model.specs.declared.LineWhy.TheVariants.{TooLong, NotText, Shape, Place, Range, NoPlayer, Taken, NoClass, NoActor, NoName, Full}

-- what the lines before leave: the edits, the newest first, and the players who joined
pub record Before : Type 0 where
  pub edits : Edits
  pub joined : List ℕ

-- ---- numbers in range

-- from low to high, both included
abbrev pub is_from_to : ℕ → ℕ → ℤ → Bool
is_from_to low high z = int_le (pos low) z && int_le z (pos high)

-- a player's number
abbrev pub is_player : ℤ → Bool
is_player p = is_from_to 1 player_limit p

-- a whole number of 32 bits
abbrev pub is_coordinate : ℤ → Bool
is_coordinate z = int_le (negsuc (2 ^ 31 - 1)) z && int_le z (pos (2 ^ 31 - 1))

-- the players, budgets, packets, teams and coordinates of the line are in range
abbrev pub is_in_range : Spelled → Bool
is_in_range (Join version player budget) = is_player player && is_from_to 1 budget_limit budget
is_in_range (Spawn class x y) = is_coordinate x && is_coordinate y
is_in_range (Own actor player) = is_from_to 0 player_limit player
is_in_range (View player x y) = is_player player && is_coordinate x && is_coordinate y
is_in_range (Add on actor player) = is_player player
is_in_range (Team player team) = is_player player && is_from_to 0 team_limit team
is_in_range (Give actor team) = is_from_to 0 team_limit team
is_in_range (ClientTick player) = is_player player
is_in_range (Deliver side player number) = is_player player && is_from_to 1 1000000 number
is_in_range (DeliverNew side player every) = is_player player && is_from_to 0 1000 every
is_in_range (CallTo side player actor name args) = is_player player
is_in_range (Dump player) = is_player player
is_in_range (AskSettled player actor) = is_player player
is_in_range (Forge side player bytes) = is_player player
is_in_range (Destroy actor) = true
is_in_range (Set actor name value) = true
is_in_range (Dormant actor) = true
is_in_range (Wake actor) = true
is_in_range (Flush actor) = true
is_in_range (Switch actor name on) = true
is_in_range Tick = true
is_in_range (CallAll actor name args) = true

-- ---- what a line names

-- the player who must have joined
abbrev pub player_in : Spelled → Option ℤ
player_in (ClientTick player) = Some player
player_in (Deliver side player number) = Some player
player_in (DeliverNew side player every) = Some player
player_in (CallTo side player actor name args) = Some player
player_in (Dump player) = Some player
player_in (AskSettled player actor) = Some player
player_in (Forge side player bytes) = Some player
player_in line = None

-- the player who joins in the line
abbrev pub joining_player : Spelled → Option ℤ
joining_player (Join version player budget) = Some player
joining_player line = None

-- the player joined in a line before
abbrev pub has_joined : Before → ℤ → Bool
has_joined before player = is_among (natural player) before.joined

-- the actor that must have been spawned, and whether it may be destroyed
abbrev pub actor_in : Spelled → Option (ℤ × Bool)
actor_in (Destroy actor) = Some (actor, false)
actor_in (Set actor name value) = Some (actor, false)
actor_in (Own actor player) = Some (actor, false)
actor_in (Add on actor player) = Some (actor, false)
actor_in (Dormant actor) = Some (actor, false)
actor_in (Wake actor) = Some (actor, false)
actor_in (Flush actor) = Some (actor, false)
actor_in (Switch actor name on) = Some (actor, false)
actor_in (Give actor team) = Some (actor, false)
actor_in (CallTo AtServer player actor name args) = Some (actor, false)
actor_in (CallTo AtClient player actor name args) = Some (actor, true)
actor_in (CallAll actor name args) = Some (actor, false)
actor_in (AskSettled player actor) = Some (actor, true)
actor_in line = None

-- an actor is named by its spawn's number
abbrev pub guid_of : ℤ → ℕ
guid_of actor = 2 * natural actor

-- the actor was spawned, and lives unless it may be destroyed
abbrev pub is_actor : Edits → ℤ × Bool → Bool
is_actor edits named =
    if named.1 then is_some (spawn_of edits (guid_of named.0)) else lives edits (guid_of named.0)

-- the test passes, or there is nothing to test
abbrev pub if_there : {A : Type 0} → (A → Bool) → Option A → Bool
if_there test None = true
if_there test (Some x) = test x

-- the number of the class of that name, from 0
abbrev pub class_named : Table → Text → Option ℕ
class_named table name = position (λ (class : Class). bytes_eq class.name name) table

-- the class that the line names
abbrev pub class_in : Spelled → Option Text
class_in (Spawn class x y) = Some class
class_in line = None

-- the handle of the property of that name
abbrev pub handle_named : Class → Text → Option ℕ
handle_named class name =
    option_map (λ n. n + 1) (position (λ (p : Prop). bytes_eq p.name name) (props_of class))

-- the number of the call of that name with `count` arguments
abbrev pub call_named : Class → Text → (count : ℕ) → Option ℕ
call_named class name count =
    option_map (λ n. n + 1)
    (position (λ (call : Call). bytes_eq call.name name && length call.args == count) class.calls)

-- the handle of a property that can be set: any but the role
abbrev pub settable_handle : Class → Text → Option ℕ
settable_handle class name = do
  h ← handle_named class name
  then_some (not (h == 3)) h

-- the handle of a custom property
abbrev pub switchable_handle : Class → Text → Option ℕ
switchable_handle class name = do
  h ← handle_named class name
  p ← prop_at class h
  then_some (is_custom p.cond) h

-- the class of the actor that the line names
abbrev pub class_at_line : Table → Before → ℤ → Class
class_at_line table before actor = class_of table before.edits (guid_of actor)

-- the handle or the call that the line names
abbrev pub named_in : Table → Before → Spelled → Option ℕ
named_in table before (Set actor name value) = settable_handle (class_at_line table before actor) name
named_in table before (Switch actor name on) = switchable_handle (class_at_line table before actor) name
named_in table before (CallTo side player actor name args) =
    call_named (class_at_line table before actor) name (length args)
named_in table before (CallAll actor name args) =
    call_named (class_at_line table before actor) name (length args)
named_in table before line = Some 0

-- the way that a call of this line must go
abbrev pub goes_right : Spelled → Way → Bool
goes_right (CallTo AtServer player actor name args) way = not (goes_up way)
goes_right (CallTo AtClient player actor name args) way = goes_up way
goes_right (CallAll actor name args) Multicast = true
goes_right (CallAll actor name args) way = false
goes_right line way = true

-- the call that the line names
abbrev pub call_in : Table → Before → Spelled → Option Call
call_in table before (CallTo side player actor name args) = do
  n ← call_named (class_at_line table before actor) name (length args)
  call_at (class_at_line table before actor) n
call_in table before (CallAll actor name args) = do
  n ← call_named (class_at_line table before actor) name (length args)
  call_at (class_at_line table before actor) n
call_in table before line = None

-- ---- values

-- a value of the kind
abbrev pub scalar_of : Kind → Text → Option Arg
scalar_of kind text = do
  v ← number_of text
  then_some (fits kind v) (Scalar v)

-- at most `most` bytes
abbrev pub octets_arg : ℕ → Text → Option Arg
octets_arg most text = do
  bytes ← octets_of text
  then_some (nat_le (length bytes) most) (Octets bytes)

-- a value or an argument as its kind asks
abbrev pub arg_of : Kind → Text → Option Arg
arg_of (Bytes most) text = octets_arg most text
arg_of kind text = scalar_of kind text

-- as many arguments as kinds
abbrev pub args_of : List Kind → List Text → Option (List Arg)
args_of [] texts = Some []
args_of (kind ∷ kinds) [] = None
args_of (kind ∷ kinds) (text ∷ texts) = do
  a ← arg_of kind text
  args ← args_of kinds texts
  Some (a ∷ args)

-- the value of a property
abbrev pub value_of : Class → Text → Text → Option ℤ
value_of class name text = do
  h ← settable_handle class name
  p ← prop_at class h
  v ← number_of text
  then_some (fits p.kind v) v

-- the value or the arguments are spelled as their types ask, and fit
abbrev pub has_value : Table → Before → Spelled → Bool
has_value table before (Set actor name value) = is_some (value_of (class_at_line table before actor) name value)
has_value table before (CallTo side player actor name args) =
    if_there (λ (call : Call). is_some (args_of call.args args))
    (call_in table before (CallTo side player actor name args))
has_value table before (CallAll actor name args) =
    if_there (λ (call : Call). is_some (args_of call.args args)) (call_in table before (CallAll actor name args))
has_value table before line = true

-- ---- the reasons

-- a live script has edits, ticks and calls alone
abbrev pub is_live : Spelled → Bool
is_live (Join version player budget) = false
is_live (ClientTick player) = false
is_live (Deliver side player number) = false
is_live (DeliverNew side player every) = false
is_live (CallTo AtClient player actor name args) = false
is_live (Dump player) = false
is_live (AskSettled player actor) = false
is_live (Forge side player bytes) = false
is_live line = true

-- as many players joined, or actors were spawned, as may
abbrev pub is_past_last : Before → Spelled → Bool
is_past_last before (Join version player budget) = nat_le connection_limit (length before.joined)
is_past_last before (Spawn class x y) = nat_le spawn_limit (spawn_count before.edits)
is_past_last before line = false

-- the first reason that holds against the line; the order of the reasons is part of the format
abbrev pub refusal_of : Table → (live : Bool) → Before → Spelled → Option LineWhy
refusal_of table live before line =
    if live && not (is_live line) then Some Place
    else if not (is_in_range line) then Some Range
    else if not live && not (if_there (has_joined before) (player_in line)) then Some NoPlayer
    else if is_some (joining_player line) && if_there (has_joined before) (joining_player line) then Some Taken
    else if not (if_there (λ name. is_some (class_named table name)) (class_in line)) then Some NoClass
    else if not (if_there (is_actor before.edits) (actor_in line)) then Some NoActor
    else if is_none (named_in table before line) then Some NoName
    else if not (if_there (λ (call : Call). goes_right line call.way) (call_in table before line))
    then Some LineWhy.Kind
    else if not (has_value table before line) then Some LineWhy.Value
    else if is_past_last before line then Some Full
    else None

-- ---- accepted lines

-- the edit that the line is
abbrev pub edit_of : Table → Before → Spelled → Option Edit
edit_of table before (Spawn class x y) = Some (world.Spawn (unwrap_or (class_named table class) 0) x y)
edit_of table before (Destroy actor) = Some (world.Destroy (guid_of actor))
edit_of table before (Set actor name value) =
    Some (world.Set (guid_of actor) (unwrap_or (settable_handle (class_at_line table before actor) name) 0)
    (unwrap_or (value_of (class_at_line table before actor) name value) (pos 0)))
edit_of table before (Own actor player) = Some (world.Own (guid_of actor) (natural player))
edit_of table before (View player x y) = Some (world.View (natural player) x y)
edit_of table before (Add on actor player) = Some (world.Add (guid_of actor) (natural player) on)
edit_of table before (Dormant actor) = Some (world.Dormant (guid_of actor))
edit_of table before (Wake actor) = Some (world.Wake (guid_of actor))
edit_of table before (Flush actor) = Some (world.Flush (guid_of actor))
edit_of table before (Switch actor name on) =
    Some (world.Switch (guid_of actor) (unwrap_or (switchable_handle (class_at_line table before actor) name) 0) on)
edit_of table before (Team player team) = Some (world.Team (natural player) (natural team))
edit_of table before (Give actor team) = Some (world.Give (guid_of actor) (natural team))
edit_of table before line = None

-- the arguments of the call that the line names
abbrev pub call_args : Table → Before → Spelled → List Text → List Arg
call_args table before line args =
    unwrap_or (call_in table before line >>= (λ (call : Call). args_of call.args args)) []

-- the number of the call that the line names
abbrev pub call_number : Table → Before → Spelled → ℕ
call_number table before line = unwrap_or (named_in table before line) 0

-- the line with its names and values read
abbrev pub line_of : Table → Before → Spelled → Line
line_of table before (Join version player budget) = story.Join (natural player) (natural budget) version
line_of table before Tick = story.TickAll
line_of table before (ClientTick player) = story.TickClient (natural player)
line_of table before (Deliver side player number) = story.Deliver side (natural player) (natural number)
line_of table before (DeliverNew side player every) = story.DeliverNew side (natural player) (natural every)
line_of table before (CallTo side player actor name args) =
    story.CallTo side (natural player) (guid_of actor)
    (call_number table before (CallTo side player actor name args))
    (call_args table before (CallTo side player actor name args) args)
line_of table before (CallAll actor name args) =
    story.CallAll (guid_of actor) (call_number table before (CallAll actor name args))
    (call_args table before (CallAll actor name args) args)
line_of table before (Dump player) = story.Dump (natural player)
line_of table before (AskSettled player actor) = story.AskSettled (natural player) (guid_of actor)
line_of table before (Forge side player bytes) = story.Forge side (natural player) bytes
line_of table before line = edit_line (edit_of table before line)
  where
    edit_line : Option Edit → Line
    edit_line None = story.TickAll
    edit_line (Some edit) = story.ApplyEdit edit

-- what the line leaves for those after it
abbrev pub after_spelled : Table → Before → Spelled → Before
after_spelled table before line = record {
  edits = option_to_list (edit_of table before line) ++ before.edits;
  joined = option_to_list (option_map natural (joining_player line)) ++ before.joined;
}

-- ---- the whole script

-- an empty line, or one that begins with `#`
abbrev pub does_nothing : Text → Bool
does_nothing [] = true
does_nothing (c ∷ cs) = c == 35

-- a line's reading: nothing for an empty line or a comment
abbrev pub reading_of : Table → (live : Bool) → Before → Text → Result (Option Spelled) LineWhy
reading_of table live before text =
    if nat_lt line_bytes (length text) then Err TooLong
    else if not (list_all (λ c. nat_lt c 128) text) then Err NotText
    else if does_nothing text then Ok None
    else shaped (spelled_of text)
  where
    allowed : Spelled → Option LineWhy → Result (Option Spelled) LineWhy
    allowed line None = Ok (Some line)
    allowed line (Some why) = Err why

    shaped : Option Spelled → Result (Option Spelled) LineWhy
    shaped None = Err Shape
    shaped (Some line) = allowed line (refusal_of table live before line)

-- the line before the others, if they are good
abbrev pub cons_ok : Line → Result (List Line) (ℕ × LineWhy) → Result (List Line) (ℕ × LineWhy)
cons_ok line (Ok lines) = Ok (line ∷ lines)
cons_ok line (Err bad) = Err bad

-- the lines from this number on, after those before
abbrev pub lines_from : Table → (live : Bool) → Before → (number : ℕ) → List Text → Result (List Line) (ℕ × LineWhy)
lines_from table live before n [] = Ok []
lines_from table live before n (text ∷ texts) = elim (reading_of table live before text) [
  | Err why ↦ Err (n, why)
  | Ok None ↦ lines_from table live before (n + 1) texts
  | Ok (Some line) ↦ cons_ok (line_of table before line)
      (lines_from table live (after_spelled table before line) (n + 1) texts)
]

-- the lines of a script, or its first bad line with the first reason
abbrev pub script_of : Table → (live : Bool) → List ℕ → Result (List Line) (ℕ × LineWhy)
script_of table live bytes =
    if nat_lt script_bytes (length bytes) then Err (1, TooLong)
    else lines_from table live (record { edits = []; joined = [] }) 1 (pieces 10 bytes)

-- the script is accepted, and these are its lines
abbrev pub Reads : Table → (live : Bool) → List ℕ → List Line → Type 0
Reads table live script lines = script_of table live script ≡ Ok lines

-- the script's first bad line, and the first reason against it
abbrev pub BadLine : Table → (live : Bool) → List ℕ → ℕ → LineWhy → Type 0
BadLine table live script n why = script_of table live script ≡ Err (n, why)
