use Rattle.std.proofs.Common.{◌+◌, ◌^◌, ◌<◌, length}
use Rattle.protocol_model.specs.World.{Edits}
use Rattle.world_table.specs.Stands.{Stands}
use Rattle.table_tests.proofs.worlds.play.Given as goal

-- the world stands for some list, which leaves room for the steps to come
abbrev pub invariant-loop-edit : goal.invariant-loop-edit
invariant-loop-edit l =
    (edits : Edits) × Stands l.world edits × (length edits + length l.steps < 2 ^ 61 + l.edit-index)
