use Rattle.std.proofs.Common.{◌≡◌, ◌++◌, drop, string_bytes}
use Rattle.class_layout.specs.Tables.{table_in}
use Rattle.table_text.proofs.Lines.{lines_of}
use Rattle.table_text.proofs.check.put_classes.Given as goal

-- the lines of the classes from this place on are still to come
abbrev pub invariant-loop-place : goal.invariant-loop-place
invariant-loop-place l =
    string_bytes l.text ++ lines_of l.classes.segments (drop l.place l.classes.classes)
    ≡ string_bytes l.fn.text ++ lines_of l.classes.segments l.classes.classes
