-- How a run ends.
use Rattle.std.specs.Prelude.{◌≡◌, ℕ, ◌⊎◌, List, Option, Result, Ok, Err}
use Rattle.std.specs.Io.KnownBytes.{Appends}
use Rattle.net_core.specs.declared.outside.sink.WriteRefusal.{WriteRefusal}
use Rattle.transcripts.specs.Takes.{TakesPrefix}
use Rattle.unet.specs.Outcome.{Outcome}
use Rattle.unet.specs.Statuses.{IsEarly}

-- the status and the text are those of the outcome
pub record EndsWith (outcome : Outcome) (status : ℕ) (before now : Option (List ℕ)) : Type 0 where
  pub ended : status ≡ outcome.status
  pub written : Appends before now outcome.text

-- all was done as the outcome says, or a refusal of the outside ended it early, with a prefix of the text taken
abbrev pub EndsAs : Outcome → Result ℕ WriteRefusal → (before now : Option (List ℕ)) → Type 0
EndsAs outcome (Ok status) before now = EndsWith outcome status before now
EndsAs outcome (Err why) before now = TakesPrefix before now outcome.text

-- the same of the status: an early end has one of its own
abbrev pub Ends : Outcome → (status : ℕ) → (before now : Option (List ℕ)) → Type 0
Ends outcome status before now =
    EndsWith outcome status before now ⊎ (IsEarly status × TakesPrefix before now outcome.text)
