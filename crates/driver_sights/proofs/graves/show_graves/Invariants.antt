use Rattle.std.proofs.Common.{◌≡◌, ℕ, take, false}
use Rattle.std.specs.List.{AllByRecursion}
use Rattle.protocol_model.specs.World.{Edits}
use Rattle.connection_model.specs.Feed.{Past}
use Rattle.class_layout.specs.Tables.{Layout, table_in}
use Rattle.shadow_changes.specs.Samples.{Samples}
use Rattle.sender_steps.specs.Sights.{sight_value}
use Rattle.sender_steps.specs.Stands.{Keeps}
use Rattle.driver_laws.specs.Given.{given_sight}
use Rattle.driver_sights.specs.Graves.{AreGraves, is_left}
use Rattle.driver_sights.specs.Looking.{IsMade}
use Rattle.driver_sights.proofs.graves.show_graves.Given as goal

abbrev pub invariant-loop-grave : goal.invariant-loop-grave
invariant-loop-grave l = record {
  given : (layout : Layout) (edits : Edits) (player : ℕ) (past : Past) (kept : Samples) → Keeps l.sender past kept
      → AreGraves layout edits l.graves
      → sight_value layout l.initial.sight.items ≡ given_sight (table_in layout) edits player past (λ a. false)
      → sight_value layout l.sight.items
      ≡ given_sight (table_in layout) edits player past (is_left (take l.grave-index l.graves) past);
  made : (layout : Layout) (edits : Edits) → AreGraves layout edits l.graves
      → AllByRecursion (IsMade layout) l.initial.sight.items → AllByRecursion (IsMade layout) l.sight.items;
}
