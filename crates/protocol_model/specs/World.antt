-- The world that a list of accepted edits leaves. The newest edit stands first, and each cell is a search in
-- the whole list.
use Rattle.std.specs.Prelude.{ℕ, ◌+◌, ◌*◌, List, [], ◌∷◌, map, length, Bool, true, false, not, ◌&&◌, ◌||◌, ◌==◌, nat_lt, nat_le, count_by, Option, Some, None, is_some, unwrap_or, option_map, if◌then◌else◌, slice_index_or, ℤ, pos}
use Rattle.std.specs.List.{list_any, range_with_len}
use Rattle.protocol_model.specs.declared.Cond.{Cond}
use Rattle.protocol_model.specs.declared.Cond.TheVariants.{Custom}
use Rattle.protocol_model.specs.Value.{Table, Class, Prop, fits, prop_at, initial_value}
use Rattle.protocol_model.specs.declared.Reach.{Reach}
use Rattle.std.specs.Bool.{then_some}
use Rattle.protocol_model.specs.Limits.{player_limit, spawn_limit, team_limit}
use Rattle.protocol_model.specs.Search.{newest_of}

-- actors are named by guid, players by number; player 0 is no owner, team 0 no team
pub data Edit : Type 0 where
  Spawn : (class : ℕ) (x y : ℤ) → Edit
  Destroy : (actor : ℕ) → Edit
  Set : (actor handle : ℕ) (value : ℤ) → Edit
  Own : (actor player : ℕ) → Edit
  View : (player : ℕ) (x y : ℤ) → Edit
  Add : (actor player : ℕ) (on : Bool) → Edit
  Dormant : (actor : ℕ) → Edit
  Wake : (actor : ℕ) → Edit
  Flush : (actor : ℕ) → Edit
  Switch : (actor handle : ℕ) (on : Bool) → Edit
  Team : (player team : ℕ) → Edit
  Give : (actor team : ℕ) → Edit

-- accepted edits, the newest first
abbrev pub Edits : Type 0
Edits = List Edit

-- ---- spawns

-- the edit spawns an actor
abbrev pub is_spawn : Edit → Bool
is_spawn (Spawn class x y) = true
is_spawn edit = false

-- how many actors were spawned
abbrev pub spawn_count : Edits → ℕ
spawn_count edits = count_by is_spawn edits

-- what the actor was spawned as
pub record Spawned : Type 0 where
  pub class : ℕ
  pub x : ℤ
  pub y : ℤ

-- the n-th spawn has guid 2n
abbrev pub spawn_of : Edits → (actor : ℕ) → Option Spawned
spawn_of [] a = None
spawn_of (Spawn class x y ∷ edits) a =
    if a == 2 * (spawn_count edits + 1) then Some (record { class = class; x = x; y = y }) else spawn_of edits a
spawn_of (edit ∷ edits) a = spawn_of edits a

-- each actor ever spawned, ascending
abbrev pub actors_of : Edits → List ℕ
actors_of edits = map (λ n. 2 * n) (range_with_len 1 (spawn_count edits))

-- ---- cells

-- what stands in the place of a class that the table hasn't
abbrev pub no_class : Class
no_class = record { name = []; path = []; reach = Reach.Owner; priority = 0; props = []; calls = [] }

-- the class of a number, counted from 0
abbrev pub class_at : Table → ℕ → Class
class_at table n = slice_index_or table n no_class

-- the class of a spawn
abbrev pub class_in : Table → Option Spawned → Class
class_in table None = no_class
class_in table (Some spawned) = class_at table spawned.class

-- an actor's class
abbrev pub class_of : Table → Edits → ℕ → Class
class_of table edits a = class_in table (spawn_of edits a)

-- the edit destroys the actor
abbrev pub destroys : ℕ → Edit → Bool
destroys a (Destroy b) = a == b
destroys a edit = false

-- it was spawned and not destroyed
abbrev pub lives : Edits → ℕ → Bool
lives edits a = is_some (spawn_of edits a) && not (list_any (destroys a) edits)

-- the value that an edit gives the handle
abbrev pub value_in : (actor handle : ℕ) → Edit → Option ℤ
value_in a h (Set b k v) = then_some (a == b && h == k) v
value_in a h edit = None

-- x and y as the spawn gave them, and the class's initial values
abbrev pub spawned_value : Table → Option Spawned → ℕ → ℤ
spawned_value table None h = pos 0
spawned_value table (Some spawned) h =
    if h == 1 then spawned.x else if h == 2 then spawned.y else initial_value (class_at table spawned.class) h

-- the value in the last edit that names it, or else the one given at the spawn
abbrev pub value_of : Table → Edits → (actor handle : ℕ) → ℤ
value_of table edits a h = unwrap_or (newest_of (value_in a h) edits) (spawned_value table (spawn_of edits a) h)

-- the owner that an edit gives the actor
abbrev pub owner_in : ℕ → Edit → Option ℕ
owner_in a (Own b player) = then_some (a == b) player
owner_in a edit = None

-- the player of the last edit that gave it an owner
abbrev pub owner_of : Edits → ℕ → ℕ
owner_of edits a = unwrap_or (newest_of (owner_in a) edits) 0

-- the player owns the actor
abbrev pub owns : Edits → (player actor : ℕ) → Bool
owns edits player a = owner_of edits a == player && not (player == 0)

-- where an edit puts the player's viewer
abbrev pub view_in : ℕ → Edit → Option (ℤ × ℤ)
view_in player (View p x y) = then_some (player == p) (x, y)
view_in player edit = None

-- where the player looks from: the last view, or (0, 0)
abbrev pub viewer_of : Edits → ℕ → ℤ × ℤ
viewer_of edits player = unwrap_or (newest_of (view_in player) edits) (pos 0, pos 0)

-- whether an edit adds the actor for the player, or takes it away
abbrev pub added_in : (actor player : ℕ) → Edit → Option Bool
added_in a player (Add b p on) = then_some (a == b && player == p) on
added_in a player edit = None

-- the actor is added for the player
abbrev pub is_added : Edits → (actor player : ℕ) → Bool
is_added edits a player = unwrap_or (newest_of (added_in a player) edits) false

-- whether an edit makes the actor dormant, or wakes it
abbrev pub dormant_in : ℕ → Edit → Option Bool
dormant_in a (Dormant b) = then_some (a == b) true
dormant_in a (Wake b) = then_some (a == b) false
dormant_in a edit = None

-- the actor is dormant
abbrev pub is_dormant : Edits → ℕ → Bool
is_dormant edits a = unwrap_or (newest_of (dormant_in a) edits) false

-- the edit flushes the actor
abbrev pub flushes : ℕ → Edit → Bool
flushes a (Flush b) = a == b
flushes a edit = false

-- the flush number counts the flushes
abbrev pub flush_of : Edits → ℕ → ℕ
flush_of edits a = count_by (flushes a) edits

-- how an edit sets the switch
abbrev pub switch_in : (actor handle : ℕ) → Edit → Option Bool
switch_in a h (Switch b k on) = then_some (a == b && h == k) on
switch_in a h edit = None

-- the switch of a custom property, on at the spawn
abbrev pub is_on : Edits → (actor handle : ℕ) → Bool
is_on edits a h = unwrap_or (newest_of (switch_in a h) edits) true

-- the team that an edit gives the player
abbrev pub team_in : ℕ → Edit → Option ℕ
team_in player (Team p team) = then_some (player == p) team
team_in player edit = None

-- a player's team, 0 for none
abbrev pub team_of : Edits → ℕ → ℕ
team_of edits player = unwrap_or (newest_of (team_in player) edits) 0

-- the team that an edit gives the actor to
abbrev pub given_in : ℕ → Edit → Option ℕ
given_in a (Give b team) = then_some (a == b) team
given_in a edit = None

-- the team that an actor is given to, 0 for none
abbrev pub given_of : Edits → ℕ → ℕ
given_of edits a = unwrap_or (newest_of (given_in a) edits) 0

-- ---- which edits are refused

-- why an edit isn't taken
pub data EditRefusal : Type 0 where
  NoActor : EditRefusal
  OutOfRange : EditRefusal
  ActorsFull : EditRefusal

-- the actor that an edit names
abbrev pub named_actor : Edit → Option ℕ
named_actor (Destroy a) = Some a
named_actor (Set a h v) = Some a
named_actor (Own a player) = Some a
named_actor (Add a player on) = Some a
named_actor (Dormant a) = Some a
named_actor (Wake a) = Some a
named_actor (Flush a) = Some a
named_actor (Switch a h on) = Some a
named_actor (Give a team) = Some a
named_actor (Spawn class x y) = None
named_actor (View player x y) = None
named_actor (Team player team) = None

-- it names no actor, or one that lives
abbrev pub names_living : Edits → Option ℕ → Bool
names_living edits None = true
names_living edits (Some a) = lives edits a

-- a player's number
abbrev pub is_player : ℕ → Bool
is_player player = nat_le 1 player && nat_le player player_limit

-- a handle that can be set: one of the class but the role
abbrev pub takes : Class → ℕ → ℤ → Bool
takes class h v = settable (prop_at class h)
  where
    settable : Option Prop → Bool
    settable None = false
    settable (Some p) = not (h == 3) && fits p.kind v

-- the condition is the custom one
abbrev pub is_custom : Cond → Bool
is_custom Custom = true
is_custom cond = false

-- the handle is a custom property of the class
abbrev pub has_switch : Class → ℕ → Bool
has_switch class h = unwrap_or (option_map (λ (p : Prop). is_custom p.cond) (prop_at class h)) false

-- the class, players, handle, value and team are ones that there are
abbrev pub is_in_range : Table → Edits → Edit → Bool
is_in_range table edits (Spawn class x y) = nat_lt class (length table)
is_in_range table edits (Set a h v) = takes (class_of table edits a) h v
is_in_range table edits (Own a player) = player == 0 || is_player player
is_in_range table edits (View player x y) = is_player player
is_in_range table edits (Add a player on) = is_player player
is_in_range table edits (Switch a h on) = has_switch (class_of table edits a) h
is_in_range table edits (Team player team) = is_player player && nat_le team team_limit
is_in_range table edits (Give a team) = nat_le team team_limit
is_in_range table edits (Destroy a) = true
is_in_range table edits (Dormant a) = true
is_in_range table edits (Wake a) = true
is_in_range table edits (Flush a) = true

-- it is a spawn after the 8,192nd
abbrev pub is_past_last : Edits → Edit → Bool
is_past_last edits edit = is_spawn edit && nat_le spawn_limit (spawn_count edits)

-- why the edit isn't taken, the first that holds
abbrev pub refusal_of : Table → Edits → Edit → Option EditRefusal
refusal_of table edits edit =
    if not (names_living edits (named_actor edit)) then Some NoActor
    else if not (is_in_range table edits edit) then Some OutOfRange
    else if is_past_last edits edit then Some ActorsFull
    else None
