-- A script's lines, one after another.
use Rattle.std.proofs.Common.{◌≡◌, ℕ, ◌+◌, ◌<◌, ◌≤◌, List, [], ◌∷◌, ◌++◌, length, refl, sym, Bool, ◌∙◌, ap, arith, append_assoc, true, false, nat_lt, Option, Some, None, option_map, Result, Ok, Err}
use Rattle.std.proofs.lemmas.Bool.Decides.{nat_tests}
use Rattle.std.proofs.lemmas.Option.{same_Some}
use Rattle.protocol_model.specs.declared.LineWhy.{LineWhy}
use Rattle.protocol_model.specs.declared.LineWhy.TheVariants.{TooLong, Shape}
use Rattle.protocol_model.specs.Limits.{script_bytes}
use Rattle.protocol_model.specs.Value.{Table}
use Rattle.script_model.specs.Lines.{Line, Text}
use Rattle.script_model.specs.Script as script
use Rattle.script_model.specs.Script.{pieces}
use Rattle.script_model.specs.ScriptRules.{cons_ok, script_of}
use Rattle.script_spelling.specs.SpelledBy.{spelled_by, capped_line}
use Rattle.script_spelling.specs.declared.spelled.Spelled.{Spelled}
use Rattle.script_reading.specs.Kept.{Kept, nothing, kept_after}
use Rattle.script_reading.specs.Judging.{judged, some_line, spelled_line, read_by, lines_by}
use Rattle.script_reading.specs.Prepended.{prepended}
use Rattle.script_reading.proofs.After.{nothing_stands}
use Rattle.script_reading.proofs.CappedLines.{capped_is}
use Rattle.script_reading.proofs.Reading.{lines_is}

-- ---- a line that is spelled

pub spelled_is : (table : Table) (live : Bool) (kept : Kept) (text : Text) (spelled : Spelled)
    → Some (spelled_by spelled) ≡ option_map capped_line (script.spelled_of text)
    → some_line (judged table live kept (spelled_by spelled)) ≡ spelled_line table live kept text
unfolding spelled_line
spelled_is table live kept text spelled h = by_line (script.spelled_of text) refl h
  where
    by_line : (o : Option script.Spelled) → script.spelled_of text ≡ o
        → Some (spelled_by spelled) ≡ option_map capped_line o
        → some_line (judged table live kept (spelled_by spelled)) ≡ spelled_line table live kept text
    by_line None e h = absurd cc
    by_line (Some line) e h =
        rw e (ap some_line (ap (judged table live kept) (same_Some (spelled_by spelled) (capped_line line) h)
        ∙ capped_is table live kept line))

pub not_spelled : (table : Table) (live : Bool) (kept : Kept) (text : Text)
    → None ≡ option_map capped_line (script.spelled_of text) → spelled_line table live kept text ≡ Err Shape
unfolding spelled_line
not_spelled table live kept text h = by_line (script.spelled_of text) refl h
  where
    by_line : (o : Option script.Spelled) → script.spelled_of text ≡ o → None ≡ option_map capped_line o
        → spelled_line table live kept text ≡ Err Shape
    by_line None e h = rw e refl
    by_line (Some line) e h = absurd cc

-- ---- one line more

prepended_on : (done : List Line) (line : Line) (r : Result (List Line) (ℕ × LineWhy))
    → prepended done (cons_ok line r) ≡ prepended (done ++ line ∷ []) r
prepended_on done line (Ok lines) = ap (λ l. Ok l) (sym (append_assoc done (line ∷ []) lines))
prepended_on done line (Err bad) = refl

pub taken_nothing : (table : Table) (live : Bool) (kept : Kept) (n : ℕ) (text : Text) (texts : List Text)
    (done : List Line)
    → read_by table live kept text ≡ Ok None
    → prepended done (lines_by table live kept n (text ∷ texts))
    ≡ prepended done (lines_by table live kept (n + 1) texts)
taken_nothing table live kept n text texts done h = ap (prepended done) (rw (h, lines_by) refl)

pub taken_line : (table : Table) (live : Bool) (kept : Kept) (n : ℕ) (text : Text) (texts : List Text)
    (done : List Line)
    (line : Line) → read_by table live kept text ≡ Ok (Some line)
    → prepended done (lines_by table live kept n (text ∷ texts))
    ≡ prepended (done ++ line ∷ []) (lines_by table live (kept_after table kept line) (n + 1) texts)
taken_line table live kept n text texts done line h =
    ap (prepended done) (rw (h, lines_by) refl)
    ∙ prepended_on done line (lines_by table live (kept_after table kept line) (n + 1) texts)

pub taken_bad : (table : Table) (live : Bool) (kept : Kept) (n : ℕ) (text : Text) (texts : List Text) (done : List Line)
    (why : LineWhy) → read_by table live kept text ≡ Err why
    → prepended done (lines_by table live kept n (text ∷ texts)) ≡ Err (n, why)
taken_bad table live kept n text texts done why h =
    let e : lines_by table live kept n (text ∷ texts) ≡ Err (n, why) = rw (h, lines_by) refl in ap (prepended done) e

-- ---- the whole script

pub script_is : (table : Table) (live : Bool) (bytes : List ℕ) (r : Result (List Line) (ℕ × LineWhy))
    → length bytes ≤ script_bytes → lines_by table live nothing 1 (pieces 10 bytes) ≡ r → script_of table live bytes ≡ r
script_is table live bytes r short h =
    let e : nat_lt script_bytes (length bytes) ≡ false = grind (arith, nat_tests) in
    rw e (sym (lines_is table live nothing (record { edits = []; joined = [] }) 1 (pieces 10 bytes)
    (nothing_stands table)) ∙ h)

pub script_long : (table : Table) (live : Bool) (bytes : List ℕ) → script_bytes < length bytes
    → script_of table live bytes ≡ Err (1, TooLong)
script_long table live bytes long =
    let e : nat_lt script_bytes (length bytes) ≡ true = grind (arith, nat_tests) in rw e refl
