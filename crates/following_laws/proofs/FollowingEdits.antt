-- The edits among lines are taken, each by the world of those before.
use Rattle.std.proofs.Common.{◌≡◌, List, [], ◌∷◌, ◌++◌, fold, false, None, ℕ, refl, ap, subst}
use Rattle.std.specs.Bool.{⊤}
use Rattle.protocol_model.specs.Value.{Table}
use Rattle.protocol_model.specs.World.{refusal_of}
use Rattle.script_model.specs.Lines.{Line, ApplyEdit}
use Rattle.script_model.specs.Reports.{Report}
use Rattle.script_model.specs.ScriptRules.{Reads}
use Rattle.replication_model.specs.Story.{Story, first_story, after_line, also_line}
use Rattle.payload_laws.specs.Accepted.{AreAccepted}
use Rattle.headline_laws.proofs.ReadLines.{read_accepted}

-- the line is no edit, or one that the world takes
abbrev pub EditFollows : Table → Story → Line → Type 0
EditFollows table story (ApplyEdit edit) = refusal_of table story.edits edit ≡ None
EditFollows table story line = ⊤

-- so is each line, after those before it
abbrev pub EditsFollow : Table → Story → List Line → Type 0
EditsFollow table story [] = ⊤
EditsFollow table story (line ∷ lines) =
    EditFollows table story line × EditsFollow table (after_line table story line).0 lines

-- the last of accepted edits is taken
last_follows : (table : Table) (story : Story) (line : Line) → AreAccepted table (after_line table story line).0.edits
    → EditFollows table story line
last_follows table story (ApplyEdit edit) h = h.0
last_follows table story line h = tt

-- each edit is taken where those of each prefix are accepted
each_follows : (table : Table) (told : Story × List Report) (lines : List Line)
    → ((some more : List Line) → lines ≡ some ++ more → AreAccepted table (fold (also_line table) told some).0.edits)
    → EditsFollow table told.0 lines
each_follows table told [] h = tt
each_follows table told (line ∷ lines) h = (
  last_follows table told.0 line (h (line ∷ []) lines refl),
  each_follows table (also_line table told line) lines
      (λ some more e. h (line ∷ some) more (ap (λ (ls : List Line). line ∷ ls) e)),
)

-- so it is for the lines that a script reads
pub read_edits : (table : Table) (script : List ℕ) (lines : List Line) → Reads table false script lines
    → EditsFollow table first_story lines
read_edits table script lines h =
    each_follows table (first_story, []) lines
    (λ some more e. read_accepted table script some more (subst (Reads table false script) e h))
