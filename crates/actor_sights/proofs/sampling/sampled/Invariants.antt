use Rattle.std.proofs.Common.{◌≡◌, ◌≢◌, ◌+◌, map, None}
use Rattle.std.specs.List.{range_with_len}
use Rattle.protocol_model.specs.World.{Edits, spawn_of, class_of, value_of}
use Rattle.change_model.specs.Changes.{handle_of}
use Rattle.value_codec.specs.Values.{whole_of}
use Rattle.class_layout.specs.Tables.{table_in}
use Rattle.class_layout.specs.Tables.{class_of as class_value}
use Rattle.world_table.specs.Stands.{Stands}
use Rattle.actor_sights.specs.Sampled.{AreOf}
use Rattle.actor_sights.proofs.sampling.sampled.Given as goal

abbrev pub invariant-loop-i : goal.invariant-loop-i
invariant-loop-i g l = record {
  steps : l.steps ≡ l.initial.steps + l.i;
  values : (edits : Edits) → Stands l.world edits → spawn_of edits l.actor ≢ None
      → class_of (table_in l.world.layout) edits l.actor ≡ class_value l.world.layout.segments l.class
      → map whole_of l.values.items ≡ map (λ i. value_of (table_in l.world.layout) edits l.actor (handle_of i))
      (range_with_len 0 l.i);
  fit : (edits : Edits) → Stands l.world edits → spawn_of edits l.actor ≢ None
      → class_of (table_in l.world.layout) edits l.actor ≡ class_value l.world.layout.segments l.class
      → AreOf (class_of (table_in l.world.layout) edits l.actor) l.values.items;
}
