-- Why a table's file gives no table, and what is made of the last file of a run.
use Rattle.std.specs.Prelude.{◌≡◌, ℕ, List, Result, Ok, Err, ⊤}
use Rattle.protocol_model.specs.BuiltIn.{built_in_table}
use Rattle.table_model.specs.Grammar.{table_in}
use Rattle.class_layout.specs.Tables as layout
use Rattle.net_core.specs.declared.outside.files.ReadRefusal.TheVariants as read
use Rattle.unet.specs.Outcome.{Outcome, ReadAnswer, outcome_of_script, outcome_of_table, outcome_of_packets}
use Rattle.unet.specs.declared.table.Stop.{Stop}
use Rattle.unet.specs.declared.table.Stop.TheVariants as stop
use Rattle.unet.specs.declared.answer.Work.{Work}
use Rattle.unet.specs.declared.answer.Work.TheVariants.{Replay, ReplayBuiltIn, Check, Show}

-- a read that came to want of memory, or whose bytes did
abbrev pub IsStarved : ReadAnswer → Type 0
IsStarved (Ok file) = ⊤
IsStarved (Err read.Missing) = ⊥
IsStarved (Err read.Failed) = ⊥
IsStarved (Err read.Memory) = ⊤

-- the answer of the read gives no table, for this reason
abbrev pub StopsAt : Stop → ReadAnswer → Type 0
StopsAt stop.Missing answer = answer ≡ Err read.Missing
StopsAt (stop.Refused place why) answer =
    (file : List ℕ) × (answer ≡ Ok file) × (table_in file ≡ Err (record { place = place; why = why }))
StopsAt stop.Failed answer = answer ≡ Err read.Failed
StopsAt stop.Memory answer = IsStarved answer

-- what the file's bytes come to
abbrev pub outcome_of_work : Work → (file : List ℕ) → Outcome
outcome_of_work (Replay classes) file = outcome_of_script (layout.table_in classes.now) file
outcome_of_work ReplayBuiltIn file = outcome_of_script built_in_table file
outcome_of_work Check file = outcome_of_table file
outcome_of_work (Show version) file = outcome_of_packets version file
