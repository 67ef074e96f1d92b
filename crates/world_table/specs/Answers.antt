-- What a world answers, over the list of the edits that it took.
use Rattle.std.specs.Prelude.{◌≡◌, ℕ, ◌+◌, ◌*◌, ◌==◌, Result, Ok, Err, ℤ, Bool, true, not, ◌&&◌, Option, Some, None, is_some, unwrap_or, option_map, if◌then◌else◌}
use Rattle.std.specs.Bool.{then_some}
use Rattle.protocol_model.specs.Search.{or_else}
use Rattle.protocol_model.specs.Value.{Table, Class, Prop, prop_at}
use Rattle.protocol_model.specs.World as model
use Rattle.protocol_model.specs.World.{Edits, Spawned, spawn_count, spawn_of, class_of, lives, value_of, owner_of, is_dormant, flush_of, is_on, has_switch, viewer_of, team_of, is_player, refusal_of}
use Rattle.value_codec.specs.Values.{whole_of, is_of}
use Rattle.value_codec.specs.declared.value.Value.{Value}
use Rattle.world_table.specs.declared.edit.Edit.{Edit}
use Rattle.world_table.specs.declared.edit.EditRefusal.{EditRefusal}
use Rattle.world_table.specs.declared.edit.Look.{Look}

-- the edit that the definitions speak of, in which player 0 is no owner
abbrev pub edit_of : Edit → model.Edit
edit_of (Edit.Spawn class x y) = model.Spawn class x y
edit_of (Edit.Destroy actor) = model.Destroy actor
edit_of (Edit.Set actor prop value) = model.Set actor prop (whole_of value)
edit_of (Edit.Own actor player) = model.Own actor (unwrap_or player 0)
edit_of (Edit.View player x y) = model.View player x y
edit_of (Edit.Add actor player on) = model.Add actor player on
edit_of (Edit.Dormant actor) = model.Dormant actor
edit_of (Edit.Wake actor) = model.Wake actor
edit_of (Edit.Flush actor) = model.Flush actor
edit_of (Edit.Switch actor prop on) = model.Switch actor prop on
edit_of (Edit.Team player team) = model.Team player team
edit_of (Edit.Give actor team) = model.Give actor team

-- ---- refusals

-- the value's tag is the one of the handle's kind, where the class has the handle
abbrev pub has_tag : Class → (handle : ℕ) → Value → Bool
has_tag class h v = unwrap_or (option_map (λ (p : Prop). is_of p.kind v) (prop_at class h)) true

-- none, or a player's number
abbrev pub may_own : Option ℕ → Bool
may_own None = true
may_own (Some player) = is_player player

-- what the definitions' edits can't tell: a value that is set has its handle's tag, and an owner that is named isn't
-- player 0
abbrev pub is_told_right : Table → Edits → Edit → Bool
is_told_right table edits (Edit.Set actor prop value) = has_tag (class_of table edits actor) prop value
is_told_right table edits (Edit.Own actor (Some player)) = not (player == 0)
is_told_right table edits (Edit.Own actor None) = true
is_told_right table edits (Edit.Spawn class x y) = true
is_told_right table edits (Edit.Destroy actor) = true
is_told_right table edits (Edit.View player x y) = true
is_told_right table edits (Edit.Add actor player on) = true
is_told_right table edits (Edit.Dormant actor) = true
is_told_right table edits (Edit.Wake actor) = true
is_told_right table edits (Edit.Flush actor) = true
is_told_right table edits (Edit.Switch actor prop on) = true
is_told_right table edits (Edit.Team player team) = true
is_told_right table edits (Edit.Give actor team) = true

-- why an edit isn't taken: as the definitions say, and what isn't told right is out of range
abbrev pub refusal_in : Table → Edits → Edit → Option model.EditRefusal
refusal_in table edits edit =
    or_else (refusal_of table edits (edit_of edit))
    (then_some (not (is_told_right table edits edit)) model.OutOfRange)

-- the guid of the actor that an edit spawns
abbrev pub spawned_guid : Edits → Edit → Option ℕ
spawned_guid edits (Edit.Spawn class x y) = Some (2 * (spawn_count edits + 1))
spawned_guid edits edit = None

-- an edit is answered by the guid where nothing stands against it, and otherwise by what stands against it
-- first; memory is missing only where nothing does
abbrev pub IsAnswer : Option model.EditRefusal → (guid : Option ℕ) → Result (Option ℕ) EditRefusal → Type 0
IsAnswer why guid (Ok got) = (why ≡ None) × (got ≡ guid)
IsAnswer why guid (Err EditRefusal.NoActor) = why ≡ Some model.NoActor
IsAnswer why guid (Err EditRefusal.OutOfRange) = why ≡ Some model.OutOfRange
IsAnswer why guid (Err EditRefusal.ActorsFull) = why ≡ Some model.ActorsFull
IsAnswer why guid (Err EditRefusal.Memory) = why ≡ None

-- ---- answers

-- the player of a number, 0 for none
abbrev pub player_of : ℕ → Option ℕ
player_of n = then_some (not (n == 0)) n

-- how an actor that was spawned stands
abbrev pub spawned_look : Table → Edits → (actor : ℕ) → Spawned → Look
spawned_look table edits a spawned = record {
  class = spawned.class;
  alive = lives edits a;
  x = value_of table edits a 1;
  y = value_of table edits a 2;
  owner = player_of (owner_of edits a);
  dormant = is_dormant edits a;
  flush = flush_of edits a;
}

-- how an actor stands, if it was spawned
abbrev pub look_of : Table → Edits → (actor : ℕ) → Option Look
look_of table edits a = option_map (spawned_look table edits a) (spawn_of edits a)

-- the property of a handle that can be set: one of the class but the role
abbrev pub settable_at : Class → (handle : ℕ) → Option Prop
settable_at class h = if h == 3 then None else prop_at class h

-- the value of a handle that can be set, of an actor that was spawned
abbrev pub named_value : Table → Edits → (actor handle : ℕ) → Option ℤ
named_value table edits a h =
    then_some (is_some (spawn_of edits a) && is_some (settable_at (class_of table edits a) h))
    (value_of table edits a h)

-- the property is a custom one, and its switch is on
abbrev pub is_switched : Table → Edits → (actor handle : ℕ) → Bool
is_switched table edits a h = has_switch (class_of table edits a) h && is_on edits a h
