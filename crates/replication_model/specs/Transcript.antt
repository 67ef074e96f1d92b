-- The text that a replay of a script must write: what its lines tell, one after another.
-- A script with a bad line has no transcript.
use Rattle.std.specs.Prelude.{ℕ, List, false, Result, Ok, Err}
use Rattle.std.specs.List.{flat_map}
use Rattle.protocol_model.specs.declared.LineWhy.{LineWhy}
use Rattle.protocol_model.specs.Value.{Table}
use Rattle.script_model.specs.Lines.{Line, Text}
use Rattle.script_model.specs.ScriptRules.{script_of}
use Rattle.script_model.specs.Reports.{report_text}
use Rattle.replication_model.specs.Story.{story_of}

-- the text of a script's lines
abbrev pub transcript : Table → List Line → Text
transcript table lines = flat_map report_text (story_of table lines).1

-- the transcript of lines that are good
abbrev pub transcript_result : Table → Result (List Line) (ℕ × LineWhy) → Result Text (ℕ × LineWhy)
transcript_result table (Ok lines) = Ok (transcript table lines)
transcript_result table (Err bad) = Err bad

-- a script's bytes to the text that its replay writes, or its first bad line
abbrev pub replay_of : Table → List ℕ → Result Text (ℕ × LineWhy)
replay_of table script = transcript_result table (script_of table false script)
