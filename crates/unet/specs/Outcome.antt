-- What a run writes, and the status with which it ends. The words, then the table, then the script or the packets are
-- checked whole before anything else is written.
use Rattle.std.specs.Prelude.{ℕ, List, [], ◌∷◌, ◌++◌, Bool, true, false, Option, Some, None, Result, Ok, Err, if◌then◌else◌, codes}
use Rattle.protocol_model.specs.BuiltIn.{built_in_table}
use Rattle.protocol_model.specs.Value.{Table}
use Rattle.protocol_model.specs.declared.LineWhy.{LineWhy}
use Rattle.protocol_model.specs.declared.Version.{Version}
use Rattle.table_model.specs.BuiltInFile.{built_in_file}
use Rattle.table_model.specs.Grammar.{table_in}
use Rattle.table_model.specs.declared.Place.{Place}
use Rattle.table_model.specs.declared.TableWhy.{TableWhy}
use Rattle.script_model.specs.Lines.{Text}
use Rattle.script_model.specs.ScriptRules.{script_of}
use Rattle.replication_model.specs.Transcript.{transcript}
use Rattle.replication_model.specs.Story.{story_of}
use Rattle.sample_script.specs.SampleScript.{sample_script}
use Rattle.sample_summary.specs.Sampled.{summary_of}
use Rattle.program_model.specs.Words.{Command, Replay, Check, Show, Sample, command_of, is_built_in}
use Rattle.program_model.specs.Refused.{table_refused_text, script_refused_text}
use Rattle.program_model.specs.Checked.{check_text}
use Rattle.program_model.specs.Shown.{packets_of, show_text, line_refused_text}
use Rattle.net_core.specs.Folder.{Folder, contents_of}
use Rattle.net_core.specs.declared.outside.files.ReadRefusal.{ReadRefusal}
use Rattle.net_core.specs.declared.outside.files.ReadRefusal.TheVariants as read
use Rattle.unet.specs.Statuses.{all_done, words_unknown, no_file, bad_table, bad_script, outside_failed, no_memory, bad_packets}

-- a status, and all that is written with it
pub record Outcome : Type 0 where
  pub status : ℕ
  pub text : Text

-- all was done, and this is the output
abbrev pub done : Text → Outcome
done text = record { status = all_done; text = text }

-- ---- refusals

-- the words aren't understood
abbrev pub words_refused : Outcome
words_refused = record { status = words_unknown; text = codes "unet: words not understood" ++ 10 ∷ [] }

-- there is no file of that name
abbrev pub file_missing : (name : Text) → Outcome
file_missing name = record { status = no_file; text = codes "unet: no file " ++ name ++ 10 ∷ [] }

-- the table breaks this rule, there
abbrev pub table_refused : Place → TableWhy → Outcome
table_refused place why =
    record { status = bad_table; text = table_refused_text (record { place = place; why = why }) }

-- the script's line of that number is refused, for that reason
abbrev pub script_refused : (line : ℕ) → LineWhy → Outcome
script_refused line why = record { status = bad_script; text = script_refused_text (line, why) }

-- ---- files

-- what a read answers: the file's bytes, or why there are none
abbrev pub ReadAnswer : Type 0
ReadAnswer = Result (List ℕ) ReadRefusal

-- a file that was read is taken further, and a missing one is named; after any other refusal nothing is written
abbrev pub after_read : (name : Text) → (List ℕ → Outcome) → ReadAnswer → Outcome
after_read name next (Ok file) = next file
after_read name next (Err read.Missing) = file_missing name
after_read name next (Err read.Failed) = record { status = outside_failed; text = [] }
after_read name next (Err read.Memory) = record { status = no_memory; text = [] }

-- an accepted table is taken further, and any other is refused
abbrev pub with_table : (Table → Outcome) → (file : List ℕ) → Outcome
with_table next file = elim (table_in file) [
  | Ok table ↦ next table
  | Err refusal ↦ table_refused refusal.place refusal.why
]

-- a script that the table accepts is replayed, and any other is refused
abbrev pub outcome_of_script : Table → (script : List ℕ) → Outcome
outcome_of_script table script = elim (script_of table false script) [
  | Ok lines ↦ done (transcript table lines)
  | Err bad ↦ script_refused bad.0 bad.1
]

-- a class table has a summary, or breaks a rule
abbrev pub outcome_of_table : (file : List ℕ) → Outcome
outcome_of_table file = with_table (λ table. done (check_text file table)) file

-- the summary of the built-in table
abbrev pub built_in_outcome : Outcome
built_in_outcome = done (check_text built_in_file built_in_table)

-- the packets of a file of hex lines are shown, or its first bad line is told
abbrev pub outcome_of_packets : Version → (file : List ℕ) → Outcome
outcome_of_packets version file = elim (packets_of version file) [
  | Ok packets ↦ done (show_text version packets)
  | Err bad ↦ record { status = bad_packets; text = line_refused_text bad }
]

-- a script that the table accepts is replayed and summed up, as that of so many ticks; any other is refused
abbrev pub outcome_of_summary : (ticks : ℕ) → Table → (script : List ℕ) → Outcome
outcome_of_summary n table script = elim (script_of table false script) [
  | Ok lines ↦ done (summary_of n table (story_of table lines))
  | Err bad ↦ script_refused bad.0 bad.1
]

-- the summary of a sample of so many ticks, over the built-in table
unfoldable pub outcome_of_sample : (ticks : ℕ) → Outcome
outcome_of_sample n = outcome_of_summary n built_in_table (sample_script n)

-- ---- commands

-- what the reads of a run answer: of the class table's file, and of the script or the packets
pub record Answers : Type 0 where
  pub table : ReadAnswer
  pub file : ReadAnswer

-- the script of that name, once there is a table
abbrev pub replay_outcome : (script : Text) → ReadAnswer → Table → Outcome
replay_outcome script answer table = after_read script (outcome_of_script table) answer

-- what a command comes to
abbrev pub outcome_of_command : Command → Answers → Outcome
outcome_of_command (Replay classes script) answers =
    if is_built_in classes then replay_outcome script answers.file built_in_table
    else after_read classes (with_table (replay_outcome script answers.file)) answers.table
outcome_of_command (Check classes) answers =
    if is_built_in classes then built_in_outcome else after_read classes outcome_of_table answers.table
outcome_of_command (Show version name) answers =
    after_read name (outcome_of_packets version) answers.file
outcome_of_command (Sample ticks) answers = outcome_of_sample ticks

-- the words first, then what they ask for
abbrev pub outcome_after : (words : List Text) → Answers → Outcome
outcome_after words answers = elim (command_of words) [
  | Some command ↦ outcome_of_command command answers
  | None ↦ words_refused
]

-- ---- folders

-- what an honest read of a folder answers
abbrev pub read_in : Folder → (name : Text) → ReadAnswer
read_in folder name = elim (contents_of folder name) [
  | Some file ↦ Ok file
  | None ↦ Err read.Missing
]

-- what honest reads of the command's files answer
abbrev pub answers_in : Folder → Command → Answers
answers_in folder (Replay classes script) =
    record { table = read_in folder classes; file = read_in folder script }
answers_in folder (Check classes) =
    record { table = read_in folder classes; file = Err read.Missing }
answers_in folder (Show version name) =
    record { table = Err read.Missing; file = read_in folder name }
answers_in folder (Sample ticks) = record { table = Err read.Missing; file = Err read.Missing }

-- the words first, then their files in the folder
abbrev pub outcome_of : Folder → (words : List Text) → Outcome
outcome_of folder words = elim (command_of words) [
  | Some command ↦ outcome_of_command command (answers_in folder command)
  | None ↦ words_refused
]
