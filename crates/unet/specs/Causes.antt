-- Which count a run's end raises.
use Rattle.std.specs.Prelude.{◌≡◌, ◌⊎◌, ℕ, List, Result, Ok, Err}
use Rattle.net_core.specs.Counts.{Rose}
use Rattle.net_core.specs.declared.outside.files.ReadRefusal.TheVariants as read
use Rattle.net_core.specs.declared.outside.sink.WriteRefusal.{WriteRefusal}
use Rattle.net_core.specs.declared.outside.sink.WriteRefusal.TheVariants as write
use Rattle.unet.specs.Outcome.{ReadAnswer}

-- the counts of faults of files and sink stand where they stood
pub record NoFault (files sink files_now sink_now : ℕ) : Type 0 where
  pub same_files : files_now ≡ files
  pub same_sink : sink_now ≡ sink

-- one of the two counts of faults rose by one, and the other stands where it stood
abbrev pub OneFault : (files sink files_now sink_now : ℕ) → Type 0
OneFault files sink files_now sink_now =
    (Rose files files_now × (sink_now ≡ sink)) ⊎ ((files_now ≡ files) × Rose sink sink_now)

-- a run that failed counts one fault, and every other none
abbrev pub FaultOf : {T : Type 0} → (files sink files_now sink_now : ℕ) → Result T WriteRefusal → Type 0
FaultOf files sink files_now sink_now (Ok x) = NoFault files sink files_now sink_now
FaultOf files sink files_now sink_now (Err write.Failed) = OneFault files sink files_now sink_now
FaultOf files sink files_now sink_now (Err write.Memory) = NoFault files sink files_now sink_now

-- a run that failed after this answer raised the sink's faults by one, unless it was the read that failed
abbrev pub AnswerFault : ReadAnswer → (before now : ℕ) → Type 0
AnswerFault (Ok file) before now = Rose before now
AnswerFault (Err read.Missing) before now = Rose before now
AnswerFault (Err read.Failed) before now = now ≡ before
AnswerFault (Err read.Memory) before now = Rose before now

-- what follows an answer to a read raises the sink's faults where it failed for a write, and else leaves them
abbrev pub AnswerCause : {T : Type 0} → ReadAnswer → (before now : ℕ) → Result T WriteRefusal → Type 0
AnswerCause answer before now (Ok x) = now ≡ before
AnswerCause answer before now (Err write.Failed) = AnswerFault answer before now
AnswerCause answer before now (Err write.Memory) = now ≡ before
