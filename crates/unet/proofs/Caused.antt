-- Which count rose, by what the reads and the writes answered.
use Rattle.std.proofs.Common.{◌≡◌, ◌⊎◌, ℕ, List, Option, Some, None, IfOk, Result, Ok, Err, inl, inr, refl, sym, ◌∙◌, subst, IsSome, arith}
use Rattle.script_model.specs.Lines.{Text}
use Rattle.net_core.specs.Counts.{ReadCause, WriteCause, WriteShortage, Rose}
use Rattle.net_core.specs.Folder.{Folder, contents_of, Gives, Has, Lacks}
use Rattle.net_core.specs.declared.outside.files.ReadRefusal.TheVariants as read
use Rattle.net_core.specs.declared.outside.sink.WriteRefusal.{WriteRefusal}
use Rattle.net_core.specs.declared.outside.sink.WriteRefusal.TheVariants as write
use Rattle.unet.specs.Causes.{AnswerCause, AnswerFault, FaultOf, NoFault, OneFault}
use Rattle.unet.specs.Outcome.{ReadAnswer}
use Rattle.unet.specs.Runs.{MayAnswer}
use Rattle.unet.specs.Statuses.{outside_failed, IsOfCommand, status_of}
use Rattle.unet.proofs.Answered.{not_early}

-- what a read answered is allowed by what the folder tells
pub may_answer : (known : Option Folder) (name : Text) (answer : ReadAnswer) → IfOk answer (λ file. Gives known name file)
    → (answer ≡ Err read.Missing → Lacks known name) → MayAnswer known name answer
may_answer known name (Ok file) found missing = found
may_answer known name (Err read.Missing) found missing = missing refl
may_answer known name (Err read.Failed) found missing = tt
may_answer known name (Err read.Memory) found missing = tt

-- ---- faults

same_files : (files files_now sink sink_now : ℕ) (result : Result ℕ WriteRefusal) → files_now ≡ files
    → WriteCause sink sink_now result → FaultOf files sink files_now sink_now result
same_files files files_now sink sink_now (Ok status) same cause = record { same_files = same; same_sink = cause }
same_files files files_now sink sink_now (Err write.Failed) same cause = inr (same, cause)
same_files files files_now sink sink_now (Err write.Memory) same cause = record { same_files = same; same_sink = cause }

-- nothing was read
pub fault_unread : (files sink sink_now : ℕ) (result : Result ℕ WriteRefusal) → WriteCause sink sink_now result
    → FaultOf files sink files sink_now result
fault_unread files sink sink_now result cause = same_files files files sink sink_now result refl cause

failed_read : (files files_now sink sink_now : ℕ) (result : Result ℕ WriteRefusal) → result ≡ Err write.Failed
    → Rose files files_now → AnswerCause (Err read.Failed) sink sink_now result → FaultOf files sink files_now sink_now result
failed_read files files_now sink sink_now (Ok status) is rose cause = absurd (cc)
failed_read files files_now sink sink_now (Err write.Failed) is rose cause = inl (rose, cause)
failed_read files files_now sink sink_now (Err write.Memory) is rose cause = absurd (cc)

written : (sink sink_now : ℕ) (answer : ReadAnswer) (result : Result ℕ WriteRefusal) → (AnswerFault answer sink sink_now ≡ Rose sink sink_now)
    → AnswerCause answer sink sink_now result → WriteCause sink sink_now result
written sink sink_now answer (Ok status) is cause = cause
written sink sink_now answer (Err write.Failed) is cause = subst (λ (A : Type 0). A) is cause
written sink sink_now answer (Err write.Memory) is cause = cause

-- one read, and what followed its answer
pub fault_of : (answer : ReadAnswer) (files files_now sink sink_now : ℕ) (result : Result ℕ WriteRefusal)
    → ReadCause files files_now answer → AnswerCause answer sink sink_now result
    → (answer ≡ Err read.Failed → result ≡ Err write.Failed) → FaultOf files sink files_now sink_now result
fault_of (Ok file) files files_now sink sink_now result cause after failed =
    same_files files files_now sink sink_now result cause (written sink sink_now (Ok file) result refl after)
fault_of (Err read.Missing) files files_now sink sink_now result cause after failed =
    same_files files files_now sink sink_now result cause (written sink sink_now (Err read.Missing) result refl after)
fault_of (Err read.Failed) files files_now sink sink_now result cause after failed =
    failed_read files files_now sink sink_now result (failed refl) cause after
fault_of (Err read.Memory) files files_now sink sink_now result cause after failed =
    same_files files files_now sink sink_now result cause (written sink sink_now (Err read.Memory) result refl after)

-- a read that answered a file, and another
pub fault_after : (answer : ReadAnswer) (file : List ℕ) (files mid files_now sink sink_now : ℕ) (result : Result ℕ WriteRefusal)
    → answer ≡ Ok file → ReadCause files mid answer → FaultOf mid sink files_now sink_now result
    → FaultOf files sink files_now sink_now result
fault_after (Ok found) file files mid files_now sink sink_now result is same fault =
    subst (λ (n : ℕ). FaultOf n sink files_now sink_now result) same fault
fault_after (Err why) file files mid files_now sink sink_now result is same fault = absurd (cc is)

-- by the status
pub fault_status : (files sink files_now sink_now : ℕ) (result : Result ℕ WriteRefusal)
    → IfOk result (λ status. IsOfCommand status) → FaultOf files sink files_now sink_now result
    → status_of result ≡ outside_failed → OneFault files sink files_now sink_now
fault_status files sink files_now sink_now (Ok status) known fault is = absurd (not_early status known (inl is))
fault_status files sink files_now sink_now (Err write.Failed) known fault is = fault
fault_status files sink files_now sink_now (Err write.Memory) known fault is = absurd (omega (arith, is))

pub no_fault_status : (files sink files_now sink_now : ℕ) (result : Result ℕ WriteRefusal) → FaultOf files sink files_now sink_now result
    → (status_of result ≡ outside_failed) ⊎ NoFault files sink files_now sink_now
no_fault_status files sink files_now sink_now (Ok status) fault = inr fault
no_fault_status files sink files_now sink_now (Err write.Failed) fault = inl refl
no_fault_status files sink files_now sink_now (Err write.Memory) fault = inr fault

-- ---- memory

lacking : (folder : Folder) (name : Text) (file : List ℕ) → contents_of folder name ≡ None → contents_of folder name ≡ Some file → ⊥
lacking folder name file none some = cc

rose_of : (before now : ℕ) (result : Result ℕ WriteRefusal) → WriteShortage before now result → result ≡ Err write.Memory → Rose before now
rose_of before now (Ok status) shortage is = absurd (cc)
rose_of before now (Err write.Failed) shortage is = absurd (cc)
rose_of before now (Err write.Memory) shortage is = shortage

no_failure : (result : Result ℕ WriteRefusal) → result ≡ Err write.Failed → result ≡ Err write.Memory → ⊥
no_failure (Ok status) failed memory = cc
no_failure (Err write.Failed) failed memory = cc
no_failure (Err write.Memory) failed memory = cc

has_none : (folder : Folder) (name : Text) → contents_of folder name ≡ None → Has (Some folder) name → ⊥
has_none folder name none has = cc (rw none at has)

-- a missing file and no memory: the sink had none
pub shortage_of : (known : Option Folder) (folder : Folder) (name : Text) (answer : ReadAnswer) (before now : ℕ) (result : Result ℕ WriteRefusal)
    → known ≡ Some folder → contents_of folder name ≡ None → IfOk answer (λ file. Gives known name file)
    → (answer ≡ Err read.Memory → Has known name) → (answer ≡ Err read.Failed → result ≡ Err write.Failed)
    → (answer ≡ Err read.Missing → WriteShortage before now result) → result ≡ Err write.Memory → Rose before now
shortage_of known folder name (Ok file) before now result told none found has failed missing is =
    absurd (lacking folder name file none (rw told at found))
shortage_of known folder name (Err read.Missing) before now result told none found has failed missing is =
    rose_of before now result (missing refl) is
shortage_of known folder name (Err read.Failed) before now result told none found has failed missing is =
    absurd (no_failure result (failed refl) is)
shortage_of known folder name (Err read.Memory) before now result told none found has failed missing is =
    absurd (has_none folder name none (rw told at (has refl)))
