use Rattle.std.proofs.Common.{◌+◌, ◌^◌, ◌<◌, length}
use Rattle.protocol_model.specs.World.{Edits}
use Rattle.world_table.specs.Stands.{Stands}
use Rattle.actor_sights.proofs.tests.play.Given as goal

-- the world stands for some list, which leaves room for the edits to come
abbrev pub invariant-loop-edit : goal.invariant-loop-edit
invariant-loop-edit l =
    (past : Edits) × Stands l.world past × (length past + length l.edits < 2 ^ 61 + l.edit-index)
