use Rattle.std.proofs.Common.{◌≡◌, ℕ, ◌&&◌, ◌||◌, map, take}
use Rattle.std.specs.List.{AllByRecursion}
use Rattle.protocol_model.specs.Search.{is_among}
use Rattle.protocol_model.specs.Sight.{seen_of}
use Rattle.protocol_model.specs.World.{Edits}
use Rattle.connection_model.specs.Feed.{Past}
use Rattle.class_layout.specs.Tables.{table_in}
use Rattle.shadow_changes.specs.Samples.{Samples}
use Rattle.sender_steps.specs.Sights.{sight_value}
use Rattle.driver_laws.specs.Given.{shown_as}
use Rattle.driver_sights.specs.Noted.{is_noted}
use Rattle.driver_sights.specs.Looking.{IsLooking, IsMade, is_awake, AreRelevant, AreSteps}
use Rattle.driver_sights.proofs.looking.relevant_sight.Given as goal

abbrev pub invariant-loop-actor : goal.invariant-loop-actor
invariant-loop-actor g l = record {
  given : (edits : Edits) (past : Past) (kept samples : Samples)
      → IsLooking l.world l.sender l.initial.noted l.initial.changes edits past kept samples
      → AreRelevant (table_in l.world.layout) edits l.player l.relevant
      → sight_value l.world.layout l.sight.items
      ≡ map (λ a. shown_as past (seen_of (table_in l.world.layout) edits l.player a)) (take l.actor-index l.relevant);
  made : (edits : Edits) (past : Past) (kept samples : Samples)
      → IsLooking l.world l.sender l.initial.noted l.initial.changes edits past kept samples
      → AreRelevant (table_in l.world.layout) edits l.player l.relevant
      → AllByRecursion (IsMade l.world.layout) l.sight.items;
  looking : (edits : Edits) (past : Past) (kept samples : Samples)
      → IsLooking l.world l.sender l.initial.noted l.initial.changes edits past kept samples
      → AreRelevant (table_in l.world.layout) edits l.player l.relevant
      → IsLooking l.world l.sender l.noted l.changes edits past kept samples;
  noted : (edits : Edits) (past : Past) (kept samples : Samples)
      → IsLooking l.world l.sender l.initial.noted l.initial.changes edits past kept samples
      → AreRelevant (table_in l.world.layout) edits l.player l.relevant
      → (a : ℕ) → is_noted l.noted a
      ≡ (is_among a (take l.actor-index l.relevant) && is_awake (table_in l.world.layout) edits l.player past a
      || is_noted l.initial.noted a);
  tick : l.noted.tick ≡ l.initial.noted.tick;
  steps : (edits : Edits) (past : Past) (kept samples : Samples)
      → IsLooking l.world l.sender l.initial.noted l.initial.changes edits past kept samples
      → AreRelevant (table_in l.world.layout) edits l.player l.relevant
      → AreSteps (table_in l.world.layout) edits l.initial.steps l.actor-index (is_noted l.initial.noted)
      (is_noted l.noted) l.steps;
}
