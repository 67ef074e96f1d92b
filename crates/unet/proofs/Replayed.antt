-- A replay that was done took the transcript of its script.
use Rattle.std.proofs.Common.{◌≡◌, ◌⊎◌, ℕ, List, Bool, true, false, Option, Some, None, Result, Ok, Err, inl, inr, refl, sym, ◌∙◌, subst, arith, if◌then◌else◌}
use Rattle.std.specs.Io.KnownBytes.{Appends}
use Rattle.protocol_model.specs.Value.{Table}
use Rattle.protocol_model.specs.BuiltIn.{built_in_table}
use Rattle.protocol_model.specs.declared.LineWhy.{LineWhy}
use Rattle.table_model.specs.Checked.{Refusal}
use Rattle.table_model.specs.Grammar.{table_in}
use Rattle.script_model.specs.Lines.{Line, Text}
use Rattle.script_model.specs.ScriptRules.{script_of}
use Rattle.replication_model.specs.Transcript.{transcript, transcript_result, replay_of}
use Rattle.program_model.specs.Words.{Replay, is_built_in}
use Rattle.net_core.specs.Folder.{Folder, contents_of}
use Rattle.net_core.specs.declared.outside.files.ReadRefusal.TheVariants as read
use Rattle.unet.specs.Ends.{Ends, EndsWith}
use Rattle.unet.specs.Outcome.{Outcome, after_read, with_table, replay_outcome, outcome_of_script, outcome_of_command, read_in, answers_in}
use Rattle.unet.specs.Runs.{IsTableAt, TakesTranscript}
use Rattle.unet.specs.Statuses.{all_done, no_file, bad_table, bad_script, IsEarly}

-- the outcome was done, and its text taken
record IsDone (outcome : Outcome) (old new : Option (List ℕ)) : Type 0 where
  pub done : outcome.status ≡ all_done
  pub taken : Appends old new outcome.text

-- a script whose lines are good
script_done : (folder : Folder) (classes script : Text) (table : Table) (file : List ℕ) (old new : Option (List ℕ))
    → IsTableAt folder classes table → contents_of folder script ≡ Some file → IsDone (outcome_of_script table file) old new
    → TakesTranscript folder classes script old new
script_done folder classes script table file old new is_table there done = by_reading (script_of table false file) refl
  where
    by_reading : (r : Result (List Line) (ℕ × LineWhy)) → script_of table false file ≡ r → TakesTranscript folder classes script old new
    by_reading (Ok lines) is = record {
      table = table;
      is_table = is_table;
      file = file;
      there = there;
      text = transcript table lines;
      replays = rw (is, replay_of) refl;
      taken = rw (is, outcome_of_script) at done.taken;
    }
    by_reading (Err bad) is = absurd (omega (arith, rw (is, outcome_of_script) at done.done))

-- the script's file is there
file_done : (folder : Folder) (classes script : Text) (table : Table) (old new : Option (List ℕ)) → IsTableAt folder classes table
    → IsDone (replay_outcome script (read_in folder script) table) old new → TakesTranscript folder classes script old new
file_done folder classes script table old new is_table done = by_file (contents_of folder script) refl
  where
    by_file : (f : Option (List ℕ)) → contents_of folder script ≡ f → TakesTranscript folder classes script old new
    by_file (Some file) is = script_done folder classes script table file old new is_table is (rw (is, read_in) at done)
    by_file None is = let d : IsDone (after_read script (outcome_of_script table) (Err read.Missing)) old new = rw (is, read_in) at done in
        absurd (omega (arith, d.done))

-- the table's file is one of a table
table_done : (folder : Folder) (classes script : Text) (file : List ℕ) (old new : Option (List ℕ)) → is_built_in classes ≡ false
    → contents_of folder classes ≡ Some file
    → IsDone (with_table (replay_outcome script (read_in folder script)) file) old new → TakesTranscript folder classes script old new
table_done folder classes script file old new named there done = by_reading (table_in file) refl
  where
    by_reading : (r : Result Table Refusal) → table_in file ≡ r → TakesTranscript folder classes script old new
    by_reading (Ok table) is =
        file_done folder classes script table old new (inr (named, (file, there, is))) (rw (is, with_table) at done)
    by_reading (Err refusal) is = absurd (omega (arith, (rw (is, with_table) at done).done))

-- the table's file is there
named_done : (folder : Folder) (classes script : Text) (old new : Option (List ℕ)) → is_built_in classes ≡ false
    → IsDone (after_read classes (with_table (replay_outcome script (read_in folder script))) (read_in folder classes)) old new
    → TakesTranscript folder classes script old new
named_done folder classes script old new named done = by_file (contents_of folder classes) refl
  where
    by_file : (f : Option (List ℕ)) → contents_of folder classes ≡ f → TakesTranscript folder classes script old new
    by_file (Some file) is = table_done folder classes script file old new named is (rw (is, read_in) at done)
    by_file None is =
        let d : IsDone (after_read classes (with_table (replay_outcome script (read_in folder script))) (Err read.Missing)) old new =
        rw (is, read_in) at done in
        absurd (omega (arith, d.done))

command_done : (folder : Folder) (classes script : Text) (old new : Option (List ℕ))
    → IsDone (outcome_of_command (Replay classes script) (answers_in folder (Replay classes script))) old new
    → TakesTranscript folder classes script old new
command_done folder classes script old new done = by_name (is_built_in classes) refl
  where
    by_name : (b : Bool) → is_built_in classes ≡ b → TakesTranscript folder classes script old new
    by_name true is = file_done folder classes script built_in_table old new (inl (is, refl)) (rw is at done)
    by_name false is = named_done folder classes script old new is (rw is at done)

never_early : (status : ℕ) → status ≡ all_done → IsEarly status → ⊥
never_early status done (inl e) = absurd (omega (arith, done, e))
never_early status done (inr e) = absurd (omega (arith, done, e))

-- a replay that ended with the status of one that was done
pub replayed : (folder : Folder) (classes script : Text) (status : ℕ) (old new : Option (List ℕ))
    → Ends (outcome_of_command (Replay classes script) (answers_in folder (Replay classes script))) status old new → status ≡ all_done
    → TakesTranscript folder classes script old new
replayed folder classes script status old new (inl ends) is =
    command_done folder classes script old new (record { done = sym ends.ended ∙ is; taken = ends.written })
replayed folder classes script status old new (inr early) is = absurd (never_early status is early.0)
