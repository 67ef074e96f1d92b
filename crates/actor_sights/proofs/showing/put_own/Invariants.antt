use Rattle.std.specs.Prelude.{IsTrue}
use Rattle.payload_writing.specs.Values.{pairs_fit}
use Rattle.std.proofs.Common.{◌≡◌, ◌++◌, ℕ, map, take}
use Rattle.protocol_model.specs.Value.{Class, numbered_from}
use Rattle.protocol_model.specs.World.{Edits, class_of, owns}
use Rattle.value_codec.specs.Values.{whole_of}
use Rattle.class_members.specs.Members.{prop_of}
use Rattle.class_layout.specs.Tables.{table_in}
use Rattle.class_layout.specs.Tables.{class_of as class_value}
use Rattle.world_table.specs.Stands.{Stands}
use Rattle.sender_records.specs.Handles.{pairs_of}
use Rattle.actor_sights.specs.Sampled.{values_of, AreOf}
use Rattle.actor_sights.specs.Visible.{visible_among}
use Rattle.actor_sights.proofs.showing.put_own.Given as goal

abbrev pub invariant-loop-i : goal.invariant-loop-i
invariant-loop-i l = record {
  pairs : (edits : Edits) (player : ℕ) → Stands l.world edits → l.owns ≡ owns edits player l.actor
      → class_of (table_in l.world.layout) edits l.actor ≡ class_value l.world.layout.segments l.class
      → map whole_of l.values ≡ values_of (table_in l.world.layout) edits l.actor
      → pairs_of l.pairs ≡ pairs_of l.initial.pairs
      ++ visible_among (table_in l.world.layout) edits player l.actor
      (numbered_from 4 (take l.i (map prop_of l.class.props)));
  fit : (k : Class) → k ≡ class_value l.world.layout.segments l.class → AreOf k l.values
      → IsTrue (pairs_fit k l.initial.pairs) → IsTrue (pairs_fit k l.pairs);
}
