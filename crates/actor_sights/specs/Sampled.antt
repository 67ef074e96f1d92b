-- What a tick samples of an actor.
use Rattle.std.specs.Prelude.{◌≡◌, ℕ, ◌-◌, List, map, ℤ, Some, slice_get, IsTrue}
use Rattle.std.specs.List.{range_with_len}
use Rattle.protocol_model.specs.Value.{Table, Class, Prop, prop_at, handle_count}
use Rattle.protocol_model.specs.World.{Edits, class_of, value_of}
use Rattle.change_model.specs.Changes.{handle_of}
use Rattle.value_codec.specs.Values.{value_fits}
use Rattle.value_codec.specs.declared.value.Value.{Value}

-- the actor's values by handle, without the role
abbrev pub values_of : Table → Edits → (actor : ℕ) → List ℤ
values_of table edits a =
    map (λ i. value_of table edits a (handle_of i)) (range_with_len 0 (handle_count (class_of table edits a) - 1))

-- each value is one of its handle's kind
abbrev pub AreOf : Class → List Value → Type 0
AreOf class values = (i : ℕ) (p : Prop) (v : Value) → slice_get values i ≡ Some v
    → prop_at class (handle_of i) ≡ Some p → IsTrue (value_fits p.kind v)
