use Rattle.std.proofs.Common.{◌∙◌, sym, ap}
use Rattle.sha1.specs.Sha1.{sha1}
use Rattle.table_model.specs.BuiltInFile.{built_in_file}
use Rattle.table_model.specs.Grammar.{entries_of}
use Rattle.class_layout.specs.Tables.{entries_in}
use Rattle.class_layout.proofs.Few.{built_in_read}
use Rattle.class_layout.proofs.classes.Classes.builtin.Goals as goal

pub returns-in-Ok-clause-table : goal.returns-in-Ok-clause-table
unfolding built_in_file
returns-in-Ok-clause-table c =
    built_in_read (entries_in c.in-Ok.classes) (ap entries_of (sym c.as_bytes.ensures.value) ∙ c.in-Ok.ensures.reads)

pub returns-in-Ok-clause-digest : goal.returns-in-Ok-clause-digest
unfolding built_in_file
returns-in-Ok-clause-digest c = c.in-Ok.ensures.digest ∙ ap sha1 c.as_bytes.ensures.value
