-- The statuses of outcomes, and how a run ends by them.
use Rattle.std.proofs.Common.{◌≡◌, ℕ, List, false, Option, Result, Ok, Err, ◌⊎◌, inl, inr, refl, sym, subst, IfOk, arith}
use Rattle.protocol_model.specs.Packet.{Packet}
use Rattle.protocol_model.specs.BuiltIn.{built_in_table}
use Rattle.protocol_model.specs.Value.{Table}
use Rattle.protocol_model.specs.declared.LineWhy.{LineWhy}
use Rattle.protocol_model.specs.declared.Version.{Version}
use Rattle.table_model.specs.Checked.{Refusal}
use Rattle.table_model.specs.Grammar.{table_in}
use Rattle.script_model.specs.Lines.{Line}
use Rattle.script_model.specs.ScriptRules.{script_of}
use Rattle.program_model.specs.Shown.{LineFault, packets_of}
use Rattle.class_layout.specs.Tables as layout
use Rattle.net_core.specs.declared.outside.sink.WriteRefusal.{WriteRefusal}
use Rattle.net_core.specs.declared.outside.sink.WriteRefusal.TheVariants as write
use Rattle.unet.specs.Statuses.{words_unknown, outside_failed, no_memory, IsOfFile, IsOfCommand, IsEarly, IsStatus, status_of}
use Rattle.sample_script.specs.SampleScript.{sample_script}
use Rattle.unet.specs.Outcome.{Outcome, with_table, outcome_of_script, outcome_of_table, outcome_of_packets, outcome_of_summary, outcome_of_sample}
use Rattle.unet.specs.Stopped.{outcome_of_work}
use Rattle.unet.specs.declared.answer.Work.{Work}
use Rattle.unet.specs.declared.answer.Work.TheVariants as work
use Rattle.unet.specs.Ends.{Ends, EndsWith, EndsAs}

-- ---- statuses

of_table : (file : List ℕ) → IsOfFile (outcome_of_table file).status
of_table file = by_reading (table_in file) refl
  where
    by_reading : (r : Result Table Refusal) → table_in file ≡ r → IsOfFile (outcome_of_table file).status
    by_reading (Ok table) is = rw (is, with_table) (inl refl)
    by_reading (Err refusal) is = rw (is, with_table) (inr (inl refl))

of_script : (table : Table) (script : List ℕ) → IsOfFile (outcome_of_script table script).status
of_script table script = by_reading (script_of table false script) refl
  where
    by_reading : (r : Result (List Line) (ℕ × LineWhy)) → script_of table false script ≡ r
        → IsOfFile (outcome_of_script table script).status
    by_reading (Ok lines) is = rw (is, outcome_of_script) (inl refl)
    by_reading (Err bad) is = rw (is, outcome_of_script) (inr (inr (inl refl)))

of_packets : (version : Version) (file : List ℕ) → IsOfFile (outcome_of_packets version file).status
of_packets version file = by_reading (packets_of version file) refl
  where
    by_reading : (r : Result (List Packet) (ℕ × LineFault)) → packets_of version file ≡ r
        → IsOfFile (outcome_of_packets version file).status
    by_reading (Ok packets) is = rw (is, outcome_of_packets) (inl refl)
    by_reading (Err bad) is = rw (is, outcome_of_packets) (inr (inr (inr refl)))

of_summary : (ticks : ℕ) (table : Table) (script : List ℕ) → IsOfFile (outcome_of_summary ticks table script).status
of_summary ticks table script = by_reading (script_of table false script) refl
  where
    by_reading : (r : Result (List Line) (ℕ × LineWhy)) → script_of table false script ≡ r
        → IsOfFile (outcome_of_summary ticks table script).status
    by_reading (Ok lines) is = rw (is, outcome_of_summary) (inl refl)
    by_reading (Err bad) is = rw (is, outcome_of_summary) (inr (inr (inl refl)))

of_sample : (ticks : ℕ) → IsOfFile (outcome_of_sample ticks).status
unfolding outcome_of_sample
of_sample ticks = of_summary ticks built_in_table (sample_script ticks)

of_work : (w : Work) (file : List ℕ) → IsOfFile (outcome_of_work w file).status
of_work (work.Replay classes) file = of_script (layout.table_in classes.now) file
of_work work.ReplayBuiltIn file = of_script built_in_table file
of_work work.Check file = of_table file
of_work (work.Show version) file = of_packets version file

same_status : (status given : ℕ) → status ≡ given → IsOfFile given → IsOfFile status
same_status status given e h = subst (λ (n : ℕ). IsOfFile n) (sym e) h

-- work that was done has one of the statuses of a file
pub done_work : (w : Work) (file : List ℕ) (result : Result ℕ WriteRefusal) (old new : Option (List ℕ))
    → IfOk result (λ status. EndsWith (outcome_of_work w file) status old new) → IfOk result (λ status. IsOfFile status)
done_work w file (Ok status) old new ends = same_status status (outcome_of_work w file).status ends.ended (of_work w file)
done_work w file (Err why) old new ends = tt

-- and so has a sample that was summed up
pub done_sample : (ticks : ℕ) (result : Result ℕ WriteRefusal) (old new : Option (List ℕ))
    → IfOk result (λ status. EndsWith (outcome_of_sample ticks) status old new) → IfOk result (λ status. IsOfFile status)
done_sample ticks (Ok status) old new ends = same_status status (outcome_of_sample ticks).status ends.ended (of_sample ticks)
done_sample ticks (Err why) old new ends = tt

pub of_command : (result : Result ℕ WriteRefusal) → IfOk result (λ status. IsOfFile status) → IfOk result (λ status. IsOfCommand status)
of_command (Ok status) h = inr h
of_command (Err why) h = tt

-- the status of a command's end
pub command_status : (result : Result ℕ WriteRefusal) → IfOk result (λ status. IsOfCommand status) → IsStatus (status_of result)
command_status (Ok status) h = inr (inr h)
command_status (Err write.Failed) h = inr (inl (inl refl))
command_status (Err write.Memory) h = inr (inl (inr refl))

-- it is never that of words that aren't understood
pub understood : (result : Result ℕ WriteRefusal) → IfOk result (λ status. IsOfCommand status) → status_of result ≡ words_unknown → ⊥
understood (Ok status) (inl e) h = absurd (omega (arith, e, h))
understood (Ok status) (inr (inl e)) h = absurd (omega (arith, e, h))
understood (Ok status) (inr (inr (inl e))) h = absurd (omega (arith, e, h))
understood (Ok status) (inr (inr (inr (inl e)))) h = absurd (omega (arith, e, h))
understood (Ok status) (inr (inr (inr (inr e)))) h = absurd (omega (arith, e, h))
understood (Err write.Failed) k h = absurd (omega (arith, h))
understood (Err write.Memory) k h = absurd (omega (arith, h))

-- a status of its own says that it was done
pub not_early : (status : ℕ) → IsOfCommand status → IsEarly status → ⊥
not_early status (inl e) (inl h) = absurd (omega (arith, e, h))
not_early status (inr (inl e)) (inl h) = absurd (omega (arith, e, h))
not_early status (inr (inr (inl e))) (inl h) = absurd (omega (arith, e, h))
not_early status (inr (inr (inr (inl e)))) (inl h) = absurd (omega (arith, e, h))
not_early status (inr (inr (inr (inr e)))) (inl h) = absurd (omega (arith, e, h))
not_early status (inl e) (inr h) = absurd (omega (arith, e, h))
not_early status (inr (inl e)) (inr h) = absurd (omega (arith, e, h))
not_early status (inr (inr (inl e))) (inr h) = absurd (omega (arith, e, h))
not_early status (inr (inr (inr (inl e)))) (inr h) = absurd (omega (arith, e, h))
not_early status (inr (inr (inr (inr e)))) (inr h) = absurd (omega (arith, e, h))

-- only the sink's or the command's want of memory ends it so
pub memory_of : (result : Result ℕ WriteRefusal) → IfOk result (λ status. IsOfCommand status) → status_of result ≡ no_memory
    → result ≡ Err write.Memory
memory_of (Ok status) known is = absurd (not_early status known (inr is))
memory_of (Err write.Failed) known is = absurd (omega (arith, is))
memory_of (Err write.Memory) known is = refl

-- ---- ends

-- an end as a status
pub ends_of : (outcome : Outcome) (result : Result ℕ WriteRefusal) (old new : Option (List ℕ))
    → EndsAs outcome result old new → Ends outcome (status_of result) old new
ends_of outcome (Ok status) old new ends = inl ends
ends_of outcome (Err write.Failed) old new ends = inr (inl refl, ends)
ends_of outcome (Err write.Memory) old new ends = inr (inr refl, ends)

pub by_outcome : (outcome : Outcome) (status : ℕ) (old new : Option (List ℕ)) → Ends outcome status old new
    → (status ≡ outcome.status) ⊎ IsEarly status
by_outcome outcome status old new (inl ends) = inl ends.ended
by_outcome outcome status old new (inr early) = inr early.0
