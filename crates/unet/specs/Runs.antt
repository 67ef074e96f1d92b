-- What a run reads, and how it ends by what the reads answer.
use Rattle.std.specs.Prelude.{◌≡◌, ◌⊎◌, ℕ, List, Bool, true, false, Option, Some, None, Result, Ok, Err, if◌then◌else◌, ⊤}
use Rattle.std.specs.Io.KnownBytes.{Appends}
use Rattle.protocol_model.specs.BuiltIn.{built_in_table}
use Rattle.protocol_model.specs.Value.{Table}
use Rattle.table_model.specs.Grammar.{table_in}
use Rattle.script_model.specs.Lines.{Text}
use Rattle.replication_model.specs.Transcript.{replay_of}
use Rattle.program_model.specs.Words.{Command, Replay, Check, Show, Sample, command_of, is_built_in}
use Rattle.net_core.specs.Counts.{one_more}
use Rattle.net_core.specs.Folder.{Folder, Gives, Lacks, contents_of}
use Rattle.net_core.specs.declared.outside.files.ReadRefusal.TheVariants as read
use Rattle.net_core.specs.declared.outside.sink.WriteRefusal.{WriteRefusal}
use Rattle.unet.specs.Ends.{Ends, EndsAs}
use Rattle.unet.specs.Outcome.{ReadAnswer, Answers, replay_outcome, outcome_of_command, outcome_after}

-- ---- answers

-- a read may answer so, by the folder where it is told
abbrev pub MayAnswer : Option Folder → (name : Text) → ReadAnswer → Type 0
MayAnswer known name (Ok file) = Gives known name file
MayAnswer known name (Err read.Missing) = Lacks known name
MayAnswer known name (Err read.Failed) = ⊤
MayAnswer known name (Err read.Memory) = ⊤

-- the reads of the command's files may answer so
abbrev pub MayAnswerAll : Option Folder → Command → Answers → Type 0
MayAnswerAll known (Replay classes script) answers =
    MayAnswer known classes answers.table × MayAnswer known script answers.file
MayAnswerAll known (Check classes) answers = MayAnswer known classes answers.table
MayAnswerAll known (Show version name) answers = MayAnswer known name answers.file
MayAnswerAll known (Sample ticks) answers = ⊤

-- ---- how many reads there are

-- the answer is a table that is accepted
abbrev pub is_table : ReadAnswer → Bool
is_table (Err why) = false
is_table (Ok file) = elim (table_in file) [ Ok table ↦ true | Err refusal ↦ false ]

-- the table's file is read unless it is the built-in one, and the script's only after an accepted table
abbrev pub reads_after : (reads : ℕ) → Command → Answers → ℕ
reads_after reads (Replay classes script) answers =
    if is_built_in classes then one_more reads
    else if is_table answers.table then one_more (one_more reads) else one_more reads
reads_after reads (Check classes) answers = if is_built_in classes then reads else one_more reads
reads_after reads (Show version name) answers = one_more reads
reads_after reads (Sample ticks) answers = reads

-- words that aren't understood name no file
abbrev pub reads_of_words : (reads : ℕ) → Option Command → Answers → ℕ
reads_of_words reads None answers = reads
reads_of_words reads (Some command) answers = reads_after reads command answers

abbrev pub MayAnswerWords : Option Folder → Option Command → Answers → Type 0
MayAnswerWords known None answers = ⊤
MayAnswerWords known (Some command) answers = MayAnswerAll known command answers

-- ---- runs

-- a command's reads answered so, and it ended as the definitions say of that, or early
pub record Runs (known : Option Folder) (command : Command) (result : Result ℕ WriteRefusal)
    (before now : Option (List ℕ)) (reads reads_now : ℕ) : Type 0 where
  pub answers : Answers
  pub allowed : MayAnswerAll known command answers
  pub ends : EndsAs (outcome_of_command command answers) result before now
  pub read : reads_now ≡ reads_after reads command answers

-- the same of a script, once there is a table
pub record RunsOver (known : Option Folder) (table : Table) (script : Text) (result : Result ℕ WriteRefusal)
    (before now : Option (List ℕ)) (reads reads_now : ℕ) : Type 0 where
  pub answer : ReadAnswer
  pub allowed : MayAnswer known script answer
  pub ends : EndsAs (replay_outcome script answer table) result before now
  pub read : reads_now ≡ one_more reads

-- the same of words, by the status
pub record RunsWords (known : Option Folder) (words : List Text) (status : ℕ)
    (before now : Option (List ℕ)) (reads reads_now : ℕ) : Type 0 where
  pub answers : Answers
  pub allowed : MayAnswerWords known (command_of words) answers
  pub ends : Ends (outcome_after words answers) status before now
  pub read : reads_now ≡ reads_of_words reads (command_of words) answers

-- ---- transcripts

-- the folder has a file of that name, which is accepted as this table
abbrev pub IsTableFile : Folder → (name : Text) → Table → Type 0
IsTableFile folder name table =
    (file : List ℕ) × (contents_of folder name ≡ Some file) × (table_in file ≡ Ok table)

-- the table of that name is accepted: `-` is the built-in one
abbrev pub IsTableAt : Folder → (name : Text) → Table → Type 0
IsTableAt folder name table =
    ((is_built_in name ≡ true) × (table ≡ built_in_table))
    ⊎ ((is_built_in name ≡ false) × IsTableFile folder name table)

-- the sink took the transcript of the script over the table
pub record TakesTranscript (folder : Folder) (classes script : Text)
    (before now : Option (List ℕ)) : Type 0 where
  pub table : Table
  pub is_table : IsTableAt folder classes table
  pub file : List ℕ
  pub there : contents_of folder script ≡ Some file
  pub text : Text
  pub replays : replay_of table file ≡ Ok text
  pub taken : Appends before now text

-- the first file that the command reads, if it reads one
abbrev pub first_file : Command → Option Text
first_file (Replay classes script) = if is_built_in classes then Some script else Some classes
first_file (Check classes) = if is_built_in classes then None else Some classes
first_file (Show version name) = Some name
first_file (Sample ticks) = None

-- the folder hasn't the first file that the words name
abbrev pub LacksFirst : Folder → Option Command → Type 0
LacksFirst folder None = ⊥
LacksFirst folder (Some command) =
    (name : Text) × (first_file command ≡ Some name) × (contents_of folder name ≡ None)
