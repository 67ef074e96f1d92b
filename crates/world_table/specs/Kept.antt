-- What a world keeps, and how it is found there.
use Rattle.std.specs.Prelude.{ℕ, ◌+◌, ◌-◌, ◌/◌, ◌%◌, ◌==◌, nat_lt, nat_le, pos, List, Bool, true, false, not, ◌&&◌, Option, Some, None, option_map, option_and_then, slice_get, unwrap_or, if◌then◌else◌}
use Rattle.std.specs.Bool.{then_some}
use Rattle.std.specs.List.{list_any}
use Rattle.protocol_model.specs.World.{is_custom}
use Rattle.class_layout.specs.Tables.{Layout}
use Rattle.class_layout.specs.declared.class.Class.{Class}
use Rattle.class_members.specs.declared.members.Prop.{Prop}
use Rattle.value_codec.specs.declared.value.Value.{Value}
use Rattle.world_table.specs.declared.edit.Look.{Look}
use Rattle.world_table.specs.declared.actor.Actor.{Actor}
use Rattle.world_table.specs.declared.actor.Cell.{Cell}
use Rattle.world_table.specs.declared.seat.Seat.{Seat}

-- the classes, a record an actor in the order of their spawns, the cells of their properties, a seat a player, and
-- each actor with a player for whom it is added
pub record Kept : Type 0 where
  pub layout : Layout
  pub actors : List Actor
  pub cells : List Cell
  pub seats : List Seat
  pub added : List (ℕ × ℕ)

-- the place of an actor's record: n - 1 for guid 2n
abbrev pub place_of : (actor : ℕ) → Option ℕ
place_of a = then_some (a % 2 == 0 && not (a == 0)) (a / 2 - 1)

-- the record of an actor
abbrev pub actor_at : List Actor → (actor : ℕ) → Option Actor
actor_at actors a = option_and_then (slice_get actors) (place_of a)

-- a record that says that its actor lives
abbrev pub if_living : Actor → Option Actor
if_living r = then_some r.look.alive r

-- the record of a living actor
abbrev pub living_at : List Actor → (actor : ℕ) → Option Actor
living_at actors a = option_and_then if_living (actor_at actors a)

-- the place of the cell that a record has for a handle; the class's own begin at 4
abbrev pub place_in : Actor → (handle : ℕ) → Option ℕ
place_in r h = then_some (nat_le 4 h && nat_lt (h - 4) (r.past - r.first)) (r.first + (h - 4))

-- the cell that a record has for a handle
abbrev pub cell_at : List Cell → Actor → (handle : ℕ) → Option Cell
cell_at cells r h = option_and_then (slice_get cells) (place_in r h)

-- the value that a record and its cells have for a handle
abbrev pub record_value : List Cell → Actor → (handle : ℕ) → Option Value
record_value cells r h =
    if h == 1 then Some (Value.I32 r.look.x)
    else if h == 2 then Some (Value.I32 r.look.y)
    else option_map (λ (c : Cell). c.value) (cell_at cells r h)

-- the switch that an actor has for a handle, off where it has none
abbrev pub switch_at : List Actor → List Cell → (actor handle : ℕ) → Bool
switch_at actors cells a h =
    unwrap_or
    (option_map (λ (c : Cell). c.on) (option_and_then (λ (r : Actor). cell_at cells r h) (actor_at actors a))) false

-- the values have one tag, and it is no enum's: a kind that the one fits, the other fits
abbrev pub are_alike : Value → Value → Bool
are_alike (Value.Bool a) (Value.Bool b) = true
are_alike (Value.U8 a) (Value.U8 b) = true
are_alike (Value.I32 a) (Value.I32 b) = true
are_alike (Value.U32 a) (Value.U32 b) = true
are_alike (Value.I64 a) (Value.I64 b) = true
are_alike (Value.Packed a) (Value.Packed b) = true
are_alike (Value.Guid a) (Value.Guid b) = true
are_alike held v = false

-- how an actor stands once a value of x or y is set
abbrev pub moved_look : Look → (handle : ℕ) → Value → Look
moved_look look h (Value.I32 z) =
    if h == 1 then record look { x = z } else if h == 2 then record look { y = z } else look
moved_look look h value = look

-- the cell of a property of an actor that was just spawned
abbrev pub first_cell : Prop → Cell
first_cell p = record { value = p.init; on = is_custom p.cond }

-- the seat of a player of whom nothing is known
abbrev pub empty_seat : Seat
empty_seat = record { x = pos 0; y = pos 0; team = 0 }

-- the seat of a player
abbrev pub seat_at : List Seat → (player : ℕ) → Seat
seat_at seats player = unwrap_or (slice_get seats player) empty_seat

-- the actor is added for the player
abbrev pub has_pair : List (ℕ × ℕ) → (actor player : ℕ) → Bool
has_pair pairs a player = list_any (λ (pair : ℕ × ℕ). a == pair.0 && player == pair.1) pairs

-- the property of a class behind x, y and role
abbrev pub own_at : Layout → (class handle : ℕ) → Option Prop
own_at layout n h =
    if nat_le 4 h then option_and_then (λ (c : Class). slice_get c.props (h - 4)) (slice_get layout.classes n) else None
