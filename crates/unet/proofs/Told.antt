-- A run over a folder that is told ends as honest reads of it have it.
use Rattle.std.proofs.Common.{◌≡◌, ◌⊎◌, ℕ, ◌≤◌, List, [], length, take, Bool, true, false, Option, Some, None, Result, Ok, Err, inl, inr, zero, suc, refl, sym, ap, ◌∙◌, subst, arith, if◌then◌else◌}
use Rattle.std.specs.Io.KnownBytes.{Appends}
use Rattle.protocol_model.specs.Value.{Table}
use Rattle.protocol_model.specs.BuiltIn.{built_in_table}
use Rattle.table_model.specs.Checked.{Refusal}
use Rattle.table_model.specs.Grammar.{table_in}
use Rattle.script_model.specs.Lines.{Text}
use Rattle.program_model.specs.Words.{Command, Replay, Check, Show, Sample, is_built_in}
use Rattle.net_core.specs.Folder.{Folder, contents_of}
use Rattle.net_core.specs.declared.outside.files.ReadRefusal.TheVariants as read
use Rattle.transcripts.specs.Takes.{TakesPrefix}
use Rattle.unet.specs.Ends.{Ends}
use Rattle.unet.specs.Outcome.{Outcome, ReadAnswer, Answers, after_read, with_table, replay_outcome, outcome_of_script, outcome_of_table, outcome_of_packets, outcome_of_command, read_in, answers_in}
use Rattle.unet.specs.Runs.{MayAnswer, MayAnswerAll}
use Rattle.unet.specs.Statuses.{IsEarly}

-- ---- outcomes

-- the run ended early, and wrote nothing
abbrev pub IsLost : Outcome → Type 0
IsLost outcome = IsEarly outcome.status × (outcome.text ≡ [])

-- the outcome is the one that is told, or the outside or memory ended the run before it wrote
abbrev pub SameOrLost : (outcome told : Outcome) → Type 0
SameOrLost outcome told = (outcome ≡ told) ⊎ IsLost outcome

same : (outcome : Outcome) → SameOrLost outcome outcome
same outcome = inl refl

both : (b : Bool) (x y v w : Outcome) → SameOrLost x v → SameOrLost y w → SameOrLost (if b then x else y) (if b then v else w)
both true x y v w h k = h
both false x y v w h k = k

-- the same answer is taken further
on_answer : (name : Text) (next told : List ℕ → Outcome) (answer : ReadAnswer) → ((file : List ℕ) → SameOrLost (next file) (told file))
    → SameOrLost (after_read name next answer) (after_read name told answer)
on_answer name next told (Ok file) h = h file
on_answer name next told (Err read.Missing) h = inl refl
on_answer name next told (Err read.Failed) h = inl refl
on_answer name next told (Err read.Memory) h = inl refl

-- an answer that the folder allows is the honest one, or tells nothing
on_read : (folder : Folder) (name : Text) (next told : List ℕ → Outcome) (answer : ReadAnswer) → MayAnswer (Some folder) name answer
    → ((file : List ℕ) → SameOrLost (next file) (told file))
    → SameOrLost (after_read name next answer) (after_read name told (read_in folder name))
on_read folder name next told (Ok file) may h = rw (may, read_in) (h file)
on_read folder name next told (Err read.Missing) may h = rw (may, read_in) (inl refl)
on_read folder name next told (Err read.Failed) may h = inr (inl refl, refl)
on_read folder name next told (Err read.Memory) may h = inr (inr refl, refl)

on_table : (next told : Table → Outcome) (file : List ℕ) → ((table : Table) → SameOrLost (next table) (told table))
    → SameOrLost (with_table next file) (with_table told file)
on_table next told file h = by_reading (table_in file) refl
  where
    by_reading : (r : Result Table Refusal) → table_in file ≡ r → SameOrLost (with_table next file) (with_table told file)
    by_reading (Ok table) is = rw (is, with_table) (h table)
    by_reading (Err refusal) is = rw (is, with_table) (inl refl)

on_replay : (folder : Folder) (script : Text) (answer : ReadAnswer) (table : Table) → MayAnswer (Some folder) script answer
    → SameOrLost (replay_outcome script answer table) (replay_outcome script (read_in folder script) table)
on_replay folder script answer table may =
    on_read folder script (outcome_of_script table) (outcome_of_script table) answer may (λ file. same (outcome_of_script table file))

-- what a command comes to by answers that the folder allows
pub on_command : (folder : Folder) (command : Command) (answers : Answers) → MayAnswerAll (Some folder) command answers
    → SameOrLost (outcome_of_command command answers) (outcome_of_command command (answers_in folder command))
on_command folder (Replay classes script) answers may =
    both (is_built_in classes) _ _ _ _ (on_replay folder script answers.file built_in_table may.1)
    (on_read folder classes _ _ answers.table may.0
    (λ file. on_table _ _ file (λ table. on_replay folder script answers.file table may.1)))
on_command folder (Check classes) answers may =
    both (is_built_in classes) _ _ _ _ (inl refl)
    (on_read folder classes _ _ answers.table may (λ file. same (outcome_of_table file)))
on_command folder (Show version name) answers may =
    on_read folder name _ _ answers.file may (λ file. same (outcome_of_packets version file))
on_command folder (Sample ticks) answers may = inl refl

-- ---- ends

-- nothing was appended, which is a prefix of each text
nothing_taken : (old new : Option (List ℕ)) (text : Text) → Appends old new [] → TakesPrefix old new text
nothing_taken old new text taken = (0, omega arith, taken)

abbrev nothing : Text
nothing = []

nil_prefix : (n : ℕ) → take n nothing ≡ nothing
nil_prefix zero = refl
nil_prefix (suc n) = refl

-- an end before anything was written is one of each outcome
ends_early : (outcome told : Outcome) (status : ℕ) (old new : Option (List ℕ)) → IsLost outcome → Ends outcome status old new
    → Ends told status old new
ends_early outcome told status old new lost (inl ends) =
    inr (
      subst (λ (n : ℕ). IsEarly n) (sym ends.ended) lost.0,
      nothing_taken old new told.text (subst (λ (xs : List ℕ). Appends old new xs) lost.1 ends.written),
    )
ends_early outcome told status old new lost (inr ends) =
    let prefix : Appends old new (take ends.1.0 outcome.text) = ends.1.2 in
    let none : take ends.1.0 outcome.text ≡ [] = ap (λ (xs : List ℕ). take ends.1.0 xs) lost.1 ∙ nil_prefix ends.1.0 in
    inr (ends.0, nothing_taken old new told.text (subst (λ (xs : List ℕ). Appends old new xs) none prefix))

pub ends_told : (outcome told : Outcome) (status : ℕ) (old new : Option (List ℕ)) → SameOrLost outcome told → Ends outcome status old new
    → Ends told status old new
ends_told outcome told status old new (inl is) ends = subst (λ (o : Outcome). Ends o status old new) is ends
ends_told outcome told status old new (inr lost) ends = ends_early outcome told status old new lost ends
