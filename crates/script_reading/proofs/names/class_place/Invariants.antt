use Rattle.std.proofs.Common.{◌≡◌, ◌<◌, ℕ, false}
use Rattle.std.specs.Str.{bytes_eq}
use Rattle.protocol_model.specs.World.{class_at}
use Rattle.class_layout.specs.Tables.{table_in}
use Rattle.script_reading.proofs.names.class_place.Given as goal

abbrev pub invariant-loop-place : goal.invariant-loop-place
invariant-loop-place l =
    (k : ℕ) → k < l.place → bytes_eq (class_at (table_in l.classes) k).name l.name ≡ false
