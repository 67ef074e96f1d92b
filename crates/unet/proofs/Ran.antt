-- What a command's reads answered, and how it ended.
use Rattle.std.proofs.Common.{◌≡◌, ℕ, List, Bool, true, false, Option, Some, None, IfOk, OnErr, Result, Ok, Err, refl, sym, subst, ◌∙◌, ap, if◌then◌else◌}
use Rattle.protocol_model.specs.BuiltIn.{built_in_table}
use Rattle.protocol_model.specs.Packet.{Packet}
use Rattle.protocol_model.specs.Value.{Table}
use Rattle.protocol_model.specs.declared.LineWhy.{LineWhy}
use Rattle.protocol_model.specs.declared.Version.{Version}
use Rattle.table_model.specs.Checked.{Refusal}
use Rattle.table_model.specs.Grammar.{table_in}
use Rattle.table_model.specs.declared.Place.{Place}
use Rattle.table_model.specs.declared.TableWhy.{TableWhy}
use Rattle.script_model.specs.Lines.{Line, Text}
use Rattle.script_model.specs.ScriptRules.{BadLine, script_of}
use Rattle.replication_model.specs.Story.{story_of}
use Rattle.sample_script.specs.SampleScript.{sample_script}
use Rattle.sample_summary.specs.Sampled.{summary_of}
use Rattle.program_model.specs.Words.{Command, Replay, Check, Show, Sample, command_of, is_built_in}
use Rattle.program_model.specs.Shown.{LineFault, packets_of, line_refused_text}
use Rattle.net_core.specs.Counts.{one_more}
use Rattle.net_core.specs.Folder.{Folder}
use Rattle.net_core.specs.declared.outside.files.ReadRefusal.{ReadRefusal}
use Rattle.net_core.specs.declared.outside.files.ReadRefusal.TheVariants as read
use Rattle.net_core.specs.declared.outside.sink.WriteRefusal.{WriteRefusal}
use Rattle.transcripts.specs.Takes.{TakesPrefix}
use Rattle.unet.specs.Ends.{Ends, EndsWith, EndsAs}
use Rattle.unet.specs.Outcome.{Outcome, ReadAnswer, Answers, done, after_read, with_table, replay_outcome, outcome_of_script, outcome_of_table, outcome_of_packets, outcome_of_summary, outcome_of_sample, outcome_of_command, outcome_after, outcome_of, answers_in, words_refused, file_missing, table_refused, script_refused, built_in_outcome}
use Rattle.unet.specs.Runs.{Runs, RunsOver, RunsWords, MayAnswer, MayAnswerWords, TakesTranscript, is_table}
use Rattle.unet.specs.Statuses.{all_done, bad_packets, status_of}
use Rattle.unet.specs.Stopped.{StopsAt}
use Rattle.unet.specs.declared.table.Stop.{Stop}
use Rattle.unet.specs.declared.table.Stop.TheVariants as stop
use Rattle.unet.proofs.Answered.{ends_of}
use Rattle.unet.proofs.Replayed.{replayed}
use Rattle.unet.proofs.Told.{on_command, ends_told}

-- ---- ends

-- what was done, or ended early
pub ends_as : (outcome : Outcome) (result : Result ℕ WriteRefusal) (old new : Option (List ℕ))
    → IfOk result (λ status. EndsWith outcome status old new) → OnErr result (TakesPrefix old new outcome.text)
    → EndsAs outcome result old new
ends_as outcome (Ok status) old new done early = done
ends_as outcome (Err why) old new done early = early

-- a script with a bad line
pub script_bad : (table : Table) (script : List ℕ) (line : ℕ) (why : LineWhy) → BadLine table false script line why
    → outcome_of_script table script ≡ script_refused line why
script_bad table script line why is = rw (is, outcome_of_script) refl

-- a script that is summed up
pub summary_good : (ticks : ℕ) (table : Table) (script : List ℕ) (lines : List Line) → script_of table false script ≡ Ok lines
    → outcome_of_summary ticks table script ≡ done (summary_of ticks table (story_of table lines))
summary_good ticks table script lines is = rw (is, outcome_of_summary) refl

-- and one with a bad line
pub summary_bad : (ticks : ℕ) (table : Table) (script : List ℕ) (line : ℕ) (why : LineWhy) → BadLine table false script line why
    → outcome_of_summary ticks table script ≡ script_refused line why
summary_bad ticks table script line why is = rw (is, outcome_of_summary) refl

-- the sample's script is one
pub sample_is : (ticks : ℕ) (table : Table) (script : List ℕ) (outcome : Outcome) → outcome ≡ outcome_of_summary ticks table script
    → table ≡ built_in_table → script ≡ sample_script ticks → outcome ≡ outcome_of_sample ticks
unfolding outcome_of_sample
sample_is ticks table script outcome is classes text =
    is ∙ ap (λ (t : Table). outcome_of_summary ticks t script) classes ∙ ap (λ (s : List ℕ). outcome_of_summary ticks built_in_table s) text

-- packets with a bad line
pub packets_bad : (version : Version) (file : List ℕ) (line : ℕ) (fault : LineFault) → packets_of version file ≡ Err (line, fault)
    → outcome_of_packets version file ≡ record { status = bad_packets; text = line_refused_text (line, fault) }
packets_bad version file line fault is = rw (is, outcome_of_packets) refl

-- ---- a table's file that gives no table

pub stop_missing : (name : Text) (next : Table → Outcome) (answer : ReadAnswer) (result : Result ℕ WriteRefusal) (old new : Option (List ℕ))
    (s : Stop) → s ≡ stop.Missing → StopsAt s answer → EndsAs (file_missing name) result old new
    → EndsAs (after_read name (with_table next) answer) result old new
stop_missing name next answer result old new s is h ends =
    let e : answer ≡ Err read.Missing = rw is at h in
    subst (λ (r : ReadAnswer). EndsAs (after_read name (with_table next) r) result old new) (sym e) ends

-- a file that breaks a rule
abbrev IsBroken : ReadAnswer → Place → TableWhy → Type 0
IsBroken answer place why =
    (file : List ℕ) × (answer ≡ Ok file) × (table_in file ≡ Err (record { place = place; why = why }))

pub stop_refused : (name : Text) (next : Table → Outcome) (answer : ReadAnswer) (result : Result ℕ WriteRefusal) (old new : Option (List ℕ))
    (s : Stop) (place : Place) (why : TableWhy) → s ≡ stop.Refused place why → StopsAt s answer
    → EndsAs (table_refused place why) result old new → EndsAs (after_read name (with_table next) answer) result old new
stop_refused name next answer result old new s place why is h ends =
    let t : IsBroken answer place why = rw is at h in
    let e : with_table next t.0 ≡ table_refused place why = rw (t.2, with_table) refl in
    subst (λ (r : ReadAnswer). EndsAs (after_read name (with_table next) r) result old new) (sym t.1)
    (subst (λ (o : Outcome). EndsAs o result old new) (sym e) ends)

-- ---- commands

-- no read tells anything
abbrev lost : Answers
lost = record { table = Err read.Memory; file = Err read.Memory }

-- the built-in table is summed up
pub run_built_in_check : (known : Option Folder) (name : Text) (result : Result ℕ WriteRefusal) (old new : Option (List ℕ)) (reads : ℕ)
    → true ≡ is_built_in name → EndsAs built_in_outcome result old new → Runs known (Check name) result old new reads reads
run_built_in_check known name result old new reads is ends =
    record { answers = lost; allowed = tt; ends = rw (sym is) ends; read = rw (sym is) refl }

-- a table's file is summed up
pub run_check : (known : Option Folder) (name : Text) (answer : ReadAnswer) (result : Result ℕ WriteRefusal) (old new : Option (List ℕ))
    (reads reads_now : ℕ) → false ≡ is_built_in name → MayAnswer known name answer
    → EndsAs (after_read name outcome_of_table answer) result old new → reads_now ≡ one_more reads
    → Runs known (Check name) result old new reads reads_now
run_check known name answer result old new reads reads_now is may ends rose = record {
  answers = record lost { table = answer };
  allowed = may;
  ends = rw (sym is) ends;
  read = rw (sym is) rose;
}

-- packets are shown
pub run_show : (known : Option Folder) (version : Version) (name : Text) (answer : ReadAnswer) (result : Result ℕ WriteRefusal)
    (old new : Option (List ℕ)) (reads reads_now : ℕ) → MayAnswer known name answer
    → EndsAs (after_read name (outcome_of_packets version) answer) result old new → reads_now ≡ one_more reads
    → Runs known (Show version name) result old new reads reads_now
run_show known version name answer result old new reads reads_now may ends rose =
    record { answers = record lost { file = answer }; allowed = may; ends = ends; read = rose }

-- a sample is summed up
pub run_sample : (known : Option Folder) (ticks : ℕ) (result : Result ℕ WriteRefusal) (old new : Option (List ℕ)) (reads : ℕ)
    → EndsAs (outcome_of_sample ticks) result old new → Runs known (Sample ticks) result old new reads reads
run_sample known ticks result old new reads ends = record { answers = lost; allowed = tt; ends = ends; read = refl }

-- a script is replayed over the built-in table
pub run_built_in_replay : (known : Option Folder) (classes script : Text) (answer : ReadAnswer) (result : Result ℕ WriteRefusal)
    (old new : Option (List ℕ)) (reads reads_now : ℕ) → true ≡ is_built_in classes → MayAnswer known script answer
    → EndsAs (after_read script (outcome_of_script built_in_table) answer) result old new → reads_now ≡ one_more reads
    → Runs known (Replay classes script) result old new reads reads_now
run_built_in_replay known classes script answer result old new reads reads_now is may ends rose = record {
  answers = record lost { file = answer };
  allowed = (tt, may);
  ends = rw (sym is) ends;
  read = rw (sym is) rose;
}

-- a file of a table
record IsFileOf (answer : ReadAnswer) (table : Table) : Type 0 where
  pub file : List ℕ
  pub is : answer ≡ Ok file
  pub accepted : table_in file ≡ Ok table

table_answer : (answer : ReadAnswer) (table : Table) → IsFileOf answer table → is_table answer ≡ true
table_answer answer table f =
    subst (λ (r : ReadAnswer). is_table r ≡ true) (sym f.is) (rw (f.accepted, is_table) refl)

table_outcome : (classes : Text) (next : Table → Outcome) (answer : ReadAnswer) (table : Table) → IsFileOf answer table
    → next table ≡ after_read classes (with_table next) answer
table_outcome classes next answer table f =
    subst (λ (r : ReadAnswer). next table ≡ after_read classes (with_table next) r) (sym f.is) (rw (f.accepted, with_table) refl)

replay_read : (answer : ReadAnswer) (table : Table) (reads mid reads_now : ℕ) → IsFileOf answer table → mid ≡ one_more reads
    → reads_now ≡ one_more mid → reads_now ≡ (if is_table answer then one_more (one_more reads) else one_more reads)
replay_read answer table reads mid reads_now f rose later = rw (table_answer answer table f) (later ∙ ap one_more rose)

-- a script is replayed over a table that was read
pub run_replay : (known after : Option Folder) (classes script : Text) (answer : ReadAnswer) (file : List ℕ) (table : Table)
    (result : Result ℕ WriteRefusal) (old new : Option (List ℕ)) (reads mid reads_now : ℕ) → false ≡ is_built_in classes
    → answer ≡ Ok file → table_in file ≡ Ok table → MayAnswer known classes answer → after ≡ known → mid ≡ one_more reads
    → RunsOver after table script result old new mid reads_now → Runs known (Replay classes script) result old new reads reads_now
run_replay known after classes script answer file table result old new reads mid reads_now is there accepted may same rose run =
    let f : IsFileOf answer table = record { file = file; is = there; accepted = accepted } in
    let next : Table → Outcome = replay_outcome script run.answer in
    record {
      answers = record { table = answer; file = run.answer };
      allowed = (may, subst (λ (k : Option Folder). MayAnswer k script run.answer) same run.allowed);
      ends = rw (sym is) (subst (λ (o : Outcome). EndsAs o result old new) (table_outcome classes next answer table f) run.ends);
      read = rw (sym is) (replay_read answer table reads mid reads_now f rose run.read);
    }

stopped : (known : Option Folder) (classes script : Text) (answer : ReadAnswer) (result : Result ℕ WriteRefusal) (old new : Option (List ℕ))
    (reads reads_now : ℕ) → false ≡ is_built_in classes → MayAnswer known classes answer → is_table answer ≡ false
    → EndsAs (after_read classes (with_table (replay_outcome script (Err read.Memory))) answer) result old new → reads_now ≡ one_more reads
    → Runs known (Replay classes script) result old new reads reads_now
stopped known classes script answer result old new reads reads_now is may no_table ends rose = record {
  answers = record lost { table = answer };
  allowed = (may, tt);
  ends = rw (sym is) ends;
  read = rw (sym is, no_table) rose;
}

no_answer : (answer : ReadAnswer) (why : ReadRefusal) → answer ≡ Err why → is_table answer ≡ false
no_answer answer why is = subst (λ (r : ReadAnswer). is_table r ≡ false) (sym is) refl

broken_answer : (answer : ReadAnswer) (place : Place) (why : TableWhy) → IsBroken answer place why → is_table answer ≡ false
broken_answer answer place why b =
    subst (λ (r : ReadAnswer). is_table r ≡ false) (sym b.1) (rw (b.2, is_table) refl)

-- the table's file gave no table; want of memory tells nothing of it
pub run_stopped : (known : Option Folder) (classes script : Text) (s : Stop) (answer : ReadAnswer) (result : Result ℕ WriteRefusal)
    (old new : Option (List ℕ)) (reads reads_now : ℕ) → false ≡ is_built_in classes → MayAnswer known classes answer → StopsAt s answer
    → ((next : Table → Outcome) (r : ReadAnswer) → StopsAt s r → EndsAs (after_read classes (with_table next) r) result old new)
    → reads_now ≡ one_more reads → Runs known (Replay classes script) result old new reads reads_now
run_stopped known classes script stop.Missing answer result old new reads reads_now is may h ends rose =
    stopped known classes script answer result old new reads reads_now is may (no_answer answer read.Missing h) (ends _ answer h) rose
run_stopped known classes script (stop.Refused place why) answer result old new reads reads_now is may h ends rose =
    stopped known classes script answer result old new reads reads_now is may (broken_answer answer place why h) (ends _ answer h) rose
run_stopped known classes script stop.Failed answer result old new reads reads_now is may h ends rose =
    stopped known classes script answer result old new reads reads_now is may (no_answer answer read.Failed h) (ends _ answer h) rose
run_stopped known classes script stop.Memory answer result old new reads reads_now is may h ends rose =
    stopped known classes script (Err read.Memory) result old new reads reads_now is tt refl (ends (replay_outcome script (Err read.Memory)) (Err read.Memory) tt) rose

-- ---- words

-- words that aren't understood
pub run_refused : (known : Option Folder) (words : List Text) (status : ℕ) (old new : Option (List ℕ)) (reads : ℕ)
    → None ≡ command_of words → Ends words_refused status old new → RunsWords known words status old new reads reads
run_refused known words status old new reads is ends = record {
  answers = lost;
  allowed = rw (sym is) tt;
  ends = rw (sym is, outcome_after) ends;
  read = rw (sym is) refl;
}

-- a command over a folder that is told
pub told_end : (folder : Folder) (known : Option Folder) (command : Command) (words : List Text) (result : Result ℕ WriteRefusal)
    (old new : Option (List ℕ)) (reads reads_now : ℕ) → known ≡ Some folder → Some command ≡ command_of words
    → Runs known command result old new reads reads_now → Ends (outcome_of folder words) (status_of result) old new
told_end folder known command words result old new reads reads_now told is run =
    let ends = ends_of (outcome_of_command command run.answers) result old new run.ends in
    let honest : Ends (outcome_of_command command (answers_in folder command)) (status_of result) old new =
    ends_told _ _ (status_of result) old new (on_command folder command run.answers (rw told at run.allowed)) ends in
    rw (sym is, outcome_of) honest

-- a replay's transcript
pub transcribed : (folder : Folder) (words : List Text) (classes script : Text) (status : ℕ) (old new : Option (List ℕ))
    → command_of words ≡ Some (Replay classes script) → Ends (outcome_of folder words) status old new → status ≡ all_done
    → TakesTranscript folder classes script old new
transcribed folder words classes script status old new is ends done =
    replayed folder classes script status old new (rw (is, outcome_of) at ends) done
