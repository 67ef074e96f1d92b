use Rattle.std.proofs.Common.{◌≡◌, ◌++◌, map, length, take}
use Rattle.world_table.specs.Kept.{first_cell}
use Rattle.world_table.proofs.actor.push_cells.Given as goal

abbrev pub invariant-loop-prop : goal.invariant-loop-prop
invariant-loop-prop l = record {
  first : l.first ≡ length l.fn.cells.items;
  pushed : l.cells.items ≡ l.fn.cells.items ++ map first_cell (take l.prop-index l.props);
}
