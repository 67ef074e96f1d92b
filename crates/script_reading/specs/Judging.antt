-- What a line comes to, by what is kept of those before it: the line with its names and values read, or the first
-- reason against it. Each kind of line asks for what it needs, one thing after another.
use Rattle.std.specs.Prelude.{⊤, ℕ, List, [], length, Bool, true, false, not, ◌||◌, nat_le, nat_lt, Option, Some, None, Result, Ok, Err, if◌then◌else◌, ℤ, ◌∷◌, ◌+◌}
use Rattle.std.specs.Bool.{then_some}
use Rattle.std.specs.List.{list_all}
use Rattle.std.specs.Option.{ok_or}
use Rattle.protocol_model.specs.declared.Kind.{Kind}
use Rattle.protocol_model.specs.declared.LineWhy.{LineWhy}
use Rattle.protocol_model.specs.declared.LineWhy.TheVariants.{TooLong, NotText, Shape, Place, Range, NoPlayer, Taken, NoClass, NoActor, NoName, Full}
use Rattle.protocol_model.specs.declared.LineWhy.TheVariants as why
use Rattle.protocol_model.specs.declared.Way.{Way}
use Rattle.protocol_model.specs.declared.Way.TheVariants.{Multicast}
use Rattle.protocol_model.specs.Limits.{budget_limit, connection_limit, line_bytes, player_limit, spawn_limit, team_limit}
use Rattle.protocol_model.specs.Payload.{natural}
use Rattle.protocol_model.specs.Search.{is_among}
use Rattle.protocol_model.specs.Side.{AtServer, AtClient}
use Rattle.protocol_model.specs.Value.{Table, Class, Call, Arg, fits, prop_at, call_at, goes_up}
use Rattle.protocol_model.specs.World as world
use Rattle.script_model.specs.Lines as story
use Rattle.script_model.specs.Lines.{Line, Text}
use Rattle.script_model.specs.Script.{Spelled, Join, Spawn, Destroy, Set, Own, View, Add, Dormant, Wake, Flush, Switch, Team, Give, Tick, ClientTick, Deliver, DeliverNew, CallTo, CallAll, Dump, AskSettled, Forge, number_of, spelled_of}
use Rattle.script_model.specs.ScriptRules.{is_from_to, is_player, is_coordinate, class_named, settable_handle, switchable_handle, call_named, args_of, does_nothing, cons_ok}
use Rattle.script_reading.specs.Kept.{Kept, Actor, actor_at, kept_after}

infixl 10 ◌>>=◌
-- the second reading, of what the first one gives
abbrev pub ◌>>=◌ : {A B : Type 0} → Result A LineWhy → (A → Result B LineWhy) → Result B LineWhy
Ok x >>= f = f x
Err why >>= f = Err why

-- the reason, unless the test passes
abbrev pub must : Bool → LineWhy → Result ⊤ LineWhy
must true why = Ok tt
must false why = Err why

-- ---- what lines ask for

-- the script isn't live
unfoldable pub not_live : (live : Bool) → Result ⊤ LineWhy
not_live live = must (not live) Place

-- a player
unfoldable pub player_of : ℤ → Result ℕ LineWhy
player_of z = if is_player z then Ok (natural z) else Err Range

-- a number from low to high
unfoldable pub within : (low high : ℕ) → ℤ → Result ℕ LineWhy
within low high z = if is_from_to low high z then Ok (natural z) else Err Range

-- a whole number of 32 bits
unfoldable pub coordinate_of : ℤ → Result ℤ LineWhy
coordinate_of z = if is_coordinate z then Ok z else Err Range

-- the player joined before; a live script doesn't ask
unfoldable pub must_join : (live : Bool) → Kept → (player : ℕ) → Result ⊤ LineWhy
must_join live kept p = must (live || is_among p kept.players) NoPlayer

-- the player didn't join before, and one more may
unfoldable pub may_join : Kept → (player : ℕ) → Result ⊤ LineWhy
may_join kept p = do
  _ ← must (not (is_among p kept.players)) Taken
  must (not (nat_le connection_limit (length kept.players))) Full

-- one more actor may be spawned
unfoldable pub may_spawn : Kept → Result ⊤ LineWhy
may_spawn kept = must (not (nat_le spawn_limit (length kept.actors))) Full

-- a player who joined, in a script that isn't live
unfoldable pub joined_in : (live : Bool) → Kept → ℤ → Result ℕ LineWhy
joined_in live kept z = do
  _ ← not_live live
  p ← player_of z
  _ ← must_join live kept p
  Ok p

-- a player who joined, and a number from low to high
unfoldable pub numbered_in : (live : Bool) → Kept → (low high : ℕ) → (player number : ℤ) → Result (ℕ × ℕ) LineWhy
numbered_in live kept low high z n = do
  _ ← not_live live
  p ← player_of z
  k ← within low high n
  _ ← must_join live kept p
  Ok (p, k)

-- its guid and its class, if it lives or may be destroyed
abbrev pub allowed : (destroyed : Bool) → Option (ℕ × Actor) → Result (ℕ × Class) LineWhy
allowed destroyed None = Err NoActor
allowed destroyed (Some a) = if destroyed || a.1.alive then Ok (a.0, a.1.class) else Err NoActor

-- an actor that lives, or that was spawned, with its class
unfoldable pub actor_of : Kept → (destroyed : Bool) → ℤ → Result (ℕ × Class) LineWhy
actor_of kept destroyed z = allowed destroyed (actor_at kept z)

-- the place of the class of that name
unfoldable pub class_of : Table → Text → Result ℕ LineWhy
class_of table name = ok_or (class_named table name) NoClass

-- the handle of the property of that name that can be set, and its kind
unfoldable pub settable_of : Class → Text → Result (ℕ × Kind) LineWhy
settable_of class name = do
  h ← ok_or (settable_handle class name) NoName
  p ← ok_or (prop_at class h) NoName
  Ok (h, p.kind)

-- the number that the text spells, one of the kind
unfoldable pub value_of : Kind → Text → Result ℤ LineWhy
value_of kind text = do
  v ← ok_or (number_of text) why.Value
  ok_or (then_some (fits kind v) v) why.Value

-- the handle of the custom property of that name
unfoldable pub switchable_of : Class → Text → Result ℕ LineWhy
switchable_of class name = ok_or (switchable_handle class name) NoName

-- the call of that name with so many arguments, and its number
unfoldable pub called_of : Class → Text → (count : ℕ) → Result (ℕ × Call) LineWhy
called_of class name count = do
  n ← ok_or (call_named class name count) NoName
  call ← ok_or (call_at class n) NoName
  Ok (n, call)

-- the arguments of the call
unfoldable pub args_in : Call → List Text → Result (List Arg) LineWhy
args_in call texts = ok_or (args_of call.args texts) why.Value

-- ---- lines

-- only multicasts go to every player
abbrev pub is_multicast : Way → Bool
is_multicast Multicast = true
is_multicast way = false

-- an edit of an actor that lives
abbrev pub edit_in : Kept → ℤ → (ℕ → world.Edit) → Result Line LineWhy
edit_in kept z make = do
  actor ← actor_of kept false z
  Ok (story.ApplyEdit (make actor.0))

-- the line, or why not
abbrev pub judged : Table → (live : Bool) → Kept → Spelled → Result Line LineWhy
judged table live kept (Join version player budget) = do
  _ ← not_live live
  p ← player_of player
  bits ← within 1 budget_limit budget
  _ ← may_join kept p
  Ok (story.Join p bits version)
judged table live kept (Spawn class x y) = do
  x ← coordinate_of x
  y ← coordinate_of y
  n ← class_of table class
  _ ← may_spawn kept
  Ok (story.ApplyEdit (world.Spawn n x y))
judged table live kept (Destroy actor) = edit_in kept actor world.Destroy
judged table live kept (Dormant actor) = edit_in kept actor world.Dormant
judged table live kept (Wake actor) = edit_in kept actor world.Wake
judged table live kept (Flush actor) = edit_in kept actor world.Flush
judged table live kept (Set actor name text) = do
  a ← actor_of kept false actor
  h ← settable_of a.1 name
  v ← value_of h.1 text
  Ok (story.ApplyEdit (world.Set a.0 h.0 v))
judged table live kept (Switch actor name on) = do
  a ← actor_of kept false actor
  h ← switchable_of a.1 name
  Ok (story.ApplyEdit (world.Switch a.0 h on))
judged table live kept (Own actor player) = do
  p ← within 0 player_limit player
  edit_in kept actor (λ a. world.Own a p)
judged table live kept (View player x y) = do
  p ← player_of player
  x ← coordinate_of x
  y ← coordinate_of y
  Ok (story.ApplyEdit (world.View p x y))
judged table live kept (Add on actor player) = do
  p ← player_of player
  edit_in kept actor (λ a. world.Add a p on)
judged table live kept (Team player team) = do
  p ← player_of player
  t ← within 0 team_limit team
  Ok (story.ApplyEdit (world.Team p t))
judged table live kept (Give actor team) = do
  t ← within 0 team_limit team
  edit_in kept actor (λ a. world.Give a t)
judged table live kept Tick = Ok story.TickAll
judged table live kept (ClientTick player) = do
  p ← joined_in live kept player
  Ok (story.TickClient p)
judged table live kept (Dump player) = do
  p ← joined_in live kept player
  Ok (story.Dump p)
judged table live kept (Deliver to player number) = do
  n ← numbered_in live kept 1 1000000 player number
  Ok (story.Deliver to n.0 n.1)
judged table live kept (DeliverNew to player every) = do
  n ← numbered_in live kept 0 1000 player every
  Ok (story.DeliverNew to n.0 n.1)
judged table live kept (Forge to player bytes) = do
  p ← joined_in live kept player
  Ok (story.Forge to p bytes)
judged table live kept (AskSettled player actor) = do
  p ← joined_in live kept player
  a ← actor_of kept true actor
  Ok (story.AskSettled p a.0)
judged table live kept (CallTo AtServer player actor name args) = do
  p ← player_of player
  _ ← must_join live kept p
  a ← actor_of kept false actor
  called ← called_of a.1 name (length args)
  _ ← must (not (goes_up called.1.way)) why.Kind
  values ← args_in called.1 args
  Ok (story.CallTo AtServer p a.0 called.0 values)
judged table live kept (CallTo AtClient player actor name args) = do
  p ← joined_in live kept player
  a ← actor_of kept true actor
  called ← called_of a.1 name (length args)
  _ ← must (goes_up called.1.way) why.Kind
  values ← args_in called.1 args
  Ok (story.CallTo AtClient p a.0 called.0 values)
judged table live kept (CallAll actor name args) = do
  a ← actor_of kept false actor
  called ← called_of a.1 name (length args)
  _ ← must (is_multicast called.1.way) why.Kind
  values ← args_in called.1 args
  Ok (story.CallAll a.0 called.0 values)

-- ---- scripts

-- a line that does something
abbrev pub some_line : Result Line LineWhy → Result (Option Line) LineWhy
some_line told = told >>= (λ line. Ok (Some line))

-- the line that the text spells
unfoldable pub spelled_line : Table → (live : Bool) → Kept → Text → Result (Option Line) LineWhy
spelled_line table live kept text = some_line (ok_or (spelled_of text) Shape >>= judged table live kept)

-- a line's reading: nothing for an empty line or a comment
abbrev pub read_by : Table → (live : Bool) → Kept → Text → Result (Option Line) LineWhy
read_by table live kept text =
    if nat_lt line_bytes (length text) then Err TooLong
    else if not (list_all (λ c. nat_lt c 128) text) then Err NotText
    else if does_nothing text then Ok None
    else spelled_line table live kept text

-- the lines from this number on
abbrev pub lines_by : Table → (live : Bool) → Kept → (number : ℕ) → List Text → Result (List Line) (ℕ × LineWhy)
lines_by table live kept n [] = Ok []
lines_by table live kept n (text ∷ texts) = elim (read_by table live kept text) [
  | Err why ↦ Err (n, why)
  | Ok None ↦ lines_by table live kept (n + 1) texts
  | Ok (Some line) ↦ cons_ok line (lines_by table live (kept_after table kept line) (n + 1) texts)
]
