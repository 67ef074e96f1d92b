-- What a replay promises beside its transcript, of the lines that it read and of each front of them.
use Rattle.std.specs.Prelude.{◌≡◌, ℕ, List, ◌++◌, false, Option, Some}
use Rattle.std.specs.Io.KnownBytes.{Appends}
use Rattle.protocol_model.specs.Value.{Table}
use Rattle.script_model.specs.Lines.{Line, Text}
use Rattle.script_model.specs.ScriptRules.{Reads}
use Rattle.replication_model.specs.Transcript.{transcript}
use Rattle.net_core.specs.Folder.{Folder, contents_of}
use Rattle.unet.specs.Runs.{IsTableAt}

-- the sink took the transcript of the lines that the script reads over the table of that name, and
-- the promise holds after each of these lines
pub record KeepsThroughout (Promise : Table → List Line → Type 0) (folder : Folder)
    (classes script : Text) (before now : Option (List ℕ)) : Type 0 where
  pub table : Table
  pub is_table : IsTableAt folder classes table
  pub file : List ℕ
  pub there : contents_of folder script ≡ Some file
  pub lines : List Line
  pub read : Reads table false file lines
  pub taken : Appends before now (transcript table lines)
  pub kept : (front rest : List Line) → lines ≡ front ++ rest → Promise table front
