-- Each line that a script reads may follow those before it.
use Rattle.std.proofs.Common.{◌≡◌, ℕ, ◌+◌, List, [], ◌∷◌, length, Bool, true, false, cond, nat_lt, refl, subst, Option, Some, None, Result, Ok, Err}
use Rattle.protocol_model.specs.declared.LineWhy.{LineWhy}
use Rattle.protocol_model.specs.declared.LineWhy.TheVariants as why
use Rattle.protocol_model.specs.Limits.{script_bytes}
use Rattle.protocol_model.specs.Value.{Table}
use Rattle.script_model.specs.Lines.{Line, Text}
use Rattle.script_model.specs.Script.{Spelled, pieces}
use Rattle.script_model.specs.ScriptRules.{Before, Reads, line_of, after_spelled, reading_of, lines_from}
use Rattle.replication_model.specs.Story.{Story, first_story, after_line}
use Rattle.headline_laws.proofs.ReadLines.{allowed_line, by_cons, From}
use Rattle.following_laws.specs.Following.{FollowAll}
use Rattle.following_laws.proofs.Players.{Agrees, next_agrees}
use Rattle.following_laws.proofs.Allowed.{line_follows}
use Rattle.following_laws.proofs.FollowingEdits.{EditsFollow, read_edits}

-- what is to be shown of the texts that are left
abbrev Rest : Table → List Text → Type 0
Rest table texts =
    (n : ℕ) (before : Before) (story : Story) (lines : List Line) → Agrees before story → EditsFollow table story lines
    → lines_from table false before n texts ≡ Ok lines → FollowAll table story lines

-- a line, and those that follow it
by_line : (table : Table) (text : Text) (texts : List Text) (n : ℕ) (before : Before) (story : Story)
    (line : Spelled) (lines : List Line) → Rest table texts → Agrees before story
    → reading_of table false before text ≡ Ok (Some line)
    → EditsFollow table story (line_of table before line ∷ lines)
    → lines_from table false (after_spelled table before line) (n + 1) texts ≡ Ok lines
    → FollowAll table story (line_of table before line ∷ lines)
by_line table text texts n before story line lines rest a e edits h = (
  line_follows table before story line a (allowed_line table before text line e) edits.0,
  rest (n + 1) (after_spelled table before line) (after_line table story (line_of table before line)).0 lines
      (next_agrees table before story line a) edits.1 h,
)

-- the first text, and the rest
by_reading : (table : Table) (text : Text) (texts : List Text) (n : ℕ) (before : Before) (story : Story)
    (lines : List Line) → Rest table texts → Agrees before story → EditsFollow table story lines
    → (r : Result (Option Spelled) LineWhy) → reading_of table false before text ≡ r
    → From table before n texts r ≡ Ok lines → FollowAll table story lines
by_reading table text texts n before story lines rest a edits (Err reason) e h = absurd (cc)
by_reading table text texts n before story lines rest a edits (Ok None) e h = rest (n + 1) before story lines a edits h
by_reading table text texts n before story [] rest a edits (Ok (Some line)) e h = tt
by_reading table text texts n before story (l ∷ lines) rest a edits (Ok (Some line)) e h =
    let later = lines_from table false (after_spelled table before line) (n + 1) texts in
    let parts = by_cons (line_of table before line) l lines later h in
    subst (λ (l : Line). EditsFollow table story (l ∷ lines) → FollowAll table story (l ∷ lines)) parts.0
    (λ edits. by_line table text texts n before story line lines rest a e edits parts.1) edits

-- the lines from here on
read_from : (table : Table) (texts : List Text) → Rest table texts
read_from table [] n before story [] a edits h = tt
read_from table [] n before story (l ∷ lines) a edits h = absurd (cc)
read_from table (text ∷ texts) n before story lines a edits h =
    by_reading table text texts n before story lines (read_from table texts) a edits
    (reading_of table false before text) refl h

-- each line of a script may follow those before it
pub read_following : (table : Table) (script : List ℕ) (lines : List Line) → Reads table false script lines
    → FollowAll table first_story lines
read_following table script lines h = by_test (nat_lt script_bytes (length script)) h
  where
    none : Before
    none = record { edits = []; joined = [] }

    none_yet : Agrees none first_story
    none_yet = record { edits = refl; joined = λ n. refl; count = refl }

    by_test : (t : Bool)
        → cond t (Err (1, why.TooLong)) (lines_from table false none 1 (pieces 10 script)) ≡ Ok lines
        → FollowAll table first_story lines
    by_test true e = absurd (cc)
    by_test false e =
        read_from table (pieces 10 script) 1 none first_story lines none_yet (read_edits table script lines h) e
