-- What was read of a whole script.
use Rattle.std.proofs.Common.{◌≡◌, ℕ, ◌+◌, ◌<◌, ◌≤◌, List, [], ◌∷◌, ◌++◌, map, length, refl, sym, ◌∙◌, ap, subst, arith, Bool, Option, Some, None, Result, Ok, Err, IfOk, IfErr, IfSome, OnOk, option_map, append-nil, Bor}
use Rattle.std.specs.Prelude.{option_to_list}
use Rattle.std.proofs.lemmas.List.{map-append}
use Rattle.protocol_model.specs.declared.LineWhy.{LineWhy}
use Rattle.protocol_model.specs.Limits.{script_bytes}
use Rattle.protocol_model.specs.Value.{Table}
use Rattle.class_layout.specs.Tables.{Layout, table_in}
use Rattle.script_model.specs.Lines as story
use Rattle.script_model.specs.Lines.{Text}
use Rattle.script_model.specs.Script.{pieces}
use Rattle.script_model.specs.ScriptRules.{Reads, BadLine}
use Rattle.script_lines.specs.LineOf.{line_of}
use Rattle.script_lines.specs.declared.line.Line.{Line}
use Rattle.script_spelling.specs.Fields.{pieces_after}
use Rattle.script_reading.specs.Kept.{Kept, nothing, kept_some}
use Rattle.script_reading.specs.Judging.{read_by, lines_by}
use Rattle.script_reading.specs.Prepended.{prepended}
use Rattle.script_reading.specs.declared.refusal.ScriptRefusal.{ScriptRefusal}
use Rattle.script_reading.specs.declared.refusal.ScriptRefusal.TheVariants as refusal
use Rattle.script_reading.specs.declared.refusal.Stop.{Stop}
use Rattle.script_reading.specs.declared.refusal.Stop.TheVariants as stop
use Rattle.script_reading.specs.Tells.{Tells, refused}
use Rattle.script_reading.proofs.Scripts.{script_is, taken_nothing, taken_line, taken_bad}

pub whole_ok : (layout : Layout) (live : Bool) (bytes : List ℕ) (r : Result (List Line) ScriptRefusal)
    → length bytes ≤ script_bytes
    → IfOk r (λ lines. lines_by (table_in layout) live nothing 1 (pieces 10 bytes) ≡ Ok (map line_of lines))
    → IfOk r (λ lines. Reads (table_in layout) live bytes (map line_of lines))
whole_ok layout live bytes (Ok lines) short h = script_is (table_in layout) live bytes (Ok (map line_of lines)) short h
whole_ok layout live bytes (Err why) short h = h

pub whole_bad : (layout : Layout) (live : Bool) (bytes : List ℕ) (r : Result (List Line) ScriptRefusal)
    → length bytes ≤ script_bytes
    → IfErr r (λ bad. (n : ℕ) (why : LineWhy) → bad ≡ refusal.BadLine n why
    → lines_by (table_in layout) live nothing 1 (pieces 10 bytes) ≡ Err (n, why))
    → IfErr r (λ bad. (n : ℕ) (why : LineWhy) → bad ≡ refusal.BadLine n why
    → BadLine (table_in layout) live bytes n why)
whole_bad layout live bytes (Ok lines) short h = h
whole_bad layout live bytes (Err bad) short h = λ n why e.
    script_is (table_in layout) live bytes (Err (n, why)) short (h n why e)

pub prepended_none : (r : Result (List story.Line) (ℕ × LineWhy)) → prepended [] r ≡ r
prepended_none (Ok lines) = refl
prepended_none (Err bad) = refl

-- a piece's end counts too, and nothing is left after the last piece
abbrev pub left_of : Option (Bor (List ℕ)) → ℕ
left_of None = 0
left_of (Some rest) = length rest.now + 1

-- a line that is refused refuses the whole script
pub stopped : (table : Table) (live : Bool) (kept : Kept) (whole : Result (List story.Line) (ℕ × LineWhy))
    (done : List story.Line) (number : ℕ) (rest : Option (Bor (List ℕ))) (text : Bor (List ℕ)) (line : Text)
    (texts : List Text) (n : ℕ) (why : LineWhy)
    → prepended done (lines_by table live kept number (pieces_after 10 rest)) ≡ whole → rest ≡ Some text
    → pieces 10 text.now ≡ line ∷ texts → prepended done (lines_by table live kept number (line ∷ texts)) ≡ Err (n, why)
    → whole ≡ Err (n, why)
stopped table live kept whole done number rest text line texts n why before is first stop =
    sym before ∙ ap (λ rest. prepended done (lines_by table live kept number (pieces_after 10 rest))) is
    ∙ ap (λ ps. prepended done (lines_by table live kept number ps)) first ∙ stop

-- ---- one line

-- what follows from two facts of an answer
pub on_both : {A E P Q R : Type 0} (r : Result A E) → OnOk r P → OnOk r Q → (P → Q → R) → OnOk r R
on_both (Ok x) p q f = f p q
on_both (Err e) p q f = p

-- a line that was taken
pub taken_some : (table : Table) (live : Bool) (kept after : Kept) (n : ℕ) (text : Text) (lines lines_after : List Line)
    (line : Option Line) → read_by table live kept text ≡ Ok (option_map line_of line)
    → lines_after ≡ lines ++ option_to_list line → after ≡ kept_some table kept (option_map line_of line)
    → (texts : List Text)
    → prepended (map line_of lines) (lines_by table live kept n (text ∷ texts))
    ≡ prepended (map line_of lines_after) (lines_by table live after (n + 1) texts)
taken_some table live kept after n text lines lines_after None h behind is = λ texts.
    taken_nothing table live kept n text texts (map line_of lines) h
    ∙ ap (λ k. prepended (map line_of lines) (lines_by table live k (n + 1) texts)) (sym is)
    ∙ ap (λ l. prepended (map line_of l) (lines_by table live after (n + 1) texts)) (sym (behind ∙ append-nil lines))
taken_some table live kept after n text lines lines_after (Some line) h behind is = λ texts.
    taken_line table live kept n text texts (map line_of lines) (line_of line) h
    ∙ ap (λ k. prepended (map line_of lines ++ line_of line ∷ []) (lines_by table live k (n + 1) texts)) (sym is)
    ∙ ap (λ l. prepended l (lines_by table live after (n + 1) texts))
    (sym (ap (map line_of) behind ∙ map-append line_of lines (line ∷ [])))

-- only memory wanted
pub no_bad : {A : Type 0} (P : ℕ → LineWhy → Type 0) (r : Result A ScriptRefusal)
    → IfErr r (λ bad. bad ≡ refusal.Memory)
    → IfErr r (λ bad. (n : ℕ) (why : LineWhy) → bad ≡ refusal.BadLine n why → P n why)
no_bad P (Ok x) h = h
no_bad P (Err bad) h = λ n why e. absurd (let f : refusal.Memory ≡ refusal.BadLine n why = sym h ∙ e in cc)

-- a line that was refused
pub taken_refused : (table : Table) (live : Bool) (kept : Kept) (number : ℕ) (text : Text) (done : List story.Line)
    (stop : Stop) → Tells (option_map line_of) (read_by table live kept text) (Err stop)
    → (n : ℕ) (why : LineWhy) → refused number stop ≡ refusal.BadLine n why → (texts : List Text)
    → prepended done (lines_by table live kept number (text ∷ texts)) ≡ Err (n, why)
taken_refused table live kept number text done (stop.Why w) h n why e texts =
    let same : number ≡ n = cc in let right : w ≡ why = cc in
    taken_bad table live kept number text texts done w h ∙ ap (λ k. Err (k, w)) same ∙ ap (λ v. Err (n, v)) right
taken_refused table live kept number text done stop.Memory h n why e texts = absurd cc

-- ---- the loop

pub loop_step : (table table_0 : Table) (live live_0 : Bool) (kept after : Kept)
    (whole : Result (List story.Line) (ℕ × LineWhy)) (done more : List story.Line) (number : ℕ)
    (rest : Option (Bor (List ℕ))) (text : Bor (List ℕ)) (line : Text) (texts : List Text)
    → table ≡ table_0 → live ≡ live_0
    → prepended done (lines_by table live kept number (line ∷ texts))
    ≡ prepended more (lines_by table live after (number + 1) texts)
    → prepended done (lines_by table_0 live_0 kept number (pieces_after 10 rest)) ≡ whole → rest ≡ Some text
    → pieces 10 text.now ≡ line ∷ texts
    → prepended more (lines_by table_0 live_0 after (number + 1) texts) ≡ whole
loop_step table table_0 live live_0 kept after whole done more number rest text line texts t l took before is first =
    subst (λ tb. prepended more (lines_by tb live_0 after (number + 1) texts) ≡ whole) t
    (subst (λ lv. prepended more (lines_by table lv after (number + 1) texts) ≡ whole) l
    (sym took ∙ ap (λ ps. prepended done (lines_by table live kept number ps)) (sym first)
    ∙ ap (λ r. prepended done (lines_by table live kept number (pieces_after 10 r))) (sym is)
    ∙ ap (λ tb. prepended done (lines_by tb live kept number (pieces_after 10 rest))) t
    ∙ ap (λ lv. prepended done (lines_by table_0 lv kept number (pieces_after 10 rest))) l ∙ before))

pub loop_stop : (table table_0 : Table) (live live_0 : Bool) (kept : Kept)
    (whole : Result (List story.Line) (ℕ × LineWhy)) (done : List story.Line) (number : ℕ)
    (rest : Option (Bor (List ℕ))) (text : Bor (List ℕ)) (line : Text) (texts : List Text) (n : ℕ) (why : LineWhy)
    → table ≡ table_0 → live ≡ live_0
    → prepended done (lines_by table live kept number (line ∷ texts)) ≡ Err (n, why)
    → prepended done (lines_by table_0 live_0 kept number (pieces_after 10 rest)) ≡ whole → rest ≡ Some text
    → pieces 10 text.now ≡ line ∷ texts → whole ≡ Err (n, why)
loop_stop table table_0 live live_0 kept whole done number rest text line texts n why t l stop before is first =
    stopped table live kept whole done number rest text line texts n why
    (ap (λ tb. prepended done (lines_by tb live kept number (pieces_after 10 rest))) t
    ∙ ap (λ lv. prepended done (lines_by table_0 lv kept number (pieces_after 10 rest))) l ∙ before)
    is first stop

pub few_on : (number : ℕ) (rest later : Option (Bor (List ℕ))) (text : Bor (List ℕ)) (most : ℕ)
    → number + left_of rest ≤ most → rest ≡ Some text → IfSome later (λ r. length r.now < length text.now)
    → number + 1 + left_of later ≤ most
few_on number rest None text most few is h =
    let e : left_of rest ≡ length text.now + 1 = ap left_of is in omega (arith, few, e)
few_on number rest (Some l) text most few is h =
    let e : left_of rest ≡ length text.now + 1 = ap left_of is in omega (arith, few, e, h)
