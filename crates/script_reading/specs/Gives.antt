-- What a reader stands for.
use Rattle.protocol_model.specs.Value.{Table}
use Rattle.class_layout.specs.Tables.{table_in}
use Rattle.script_reading.specs.Kept.{Kept}
use Rattle.script_reading.specs.KeptIn.{kept_in}
use Rattle.script_reading.specs.declared.reader.Reader.{Reader}

-- the class table
abbrev pub table_of : Reader → Table
table_of reader = table_in reader.classes.now

-- what is kept of the lines so far
abbrev pub kept_of : Reader → Kept
kept_of reader = kept_in (table_of reader) reader.known
