use Rattle.std.proofs.Common.{◌≡◌, ◌+◌, ◌≤◌, take, filter}
use Rattle.graph_model.specs.Nodes.{viewer_at}
use Rattle.protocol_model.specs.Sight.{is_relevant}
use Rattle.protocol_model.specs.World.{Edits}
use Rattle.class_layout.specs.Tables.{table_in}
use Rattle.graph_nodes.specs.Held.{viewer_in}
use Rattle.world_table.specs.Stands.{Stands}
use Rattle.rep_graph.proofs.gathering.relevant_of.Given as goal

abbrev pub invariant-loop-actor : goal.invariant-loop-actor
invariant-loop-actor g l = record {
  kept : (edits : Edits) → Stands l.world edits → viewer_in l.viewer ≡ viewer_at edits l.viewer.player
      → l.relevant
      ≡ filter (is_relevant (table_in l.world.layout) edits l.viewer.player) (take l.actor-index l.actor-items);
  counted : l.steps ≤ l.fn.steps + l.actor-index;
}
