-- What the sink took of the lines replayed so far, and what is left.
use Rattle.std.proofs.Common.{◌≡◌, ℕ, suc, ◌+◌, ◌<◌, ◌≤◌, map, drop, add-one, List, [], ◌∷◌, ◌++◌, length, take, fold, sym, ◌∙◌, ap, subst, arith, append_assoc, length-append, Option, Some, None}
use Rattle.std.proofs.lemmas.List.{take-append-le, take_all, append-nil}
use Rattle.std.proofs.Math.Seq.{take-length, drop-cons}
use Rattle.std.proofs.Math.ListN.{get_or}
use Rattle.std.proofs.lemmas.Grind.{flat_map-append}
use Rattle.std.specs.List.{flat_map}
use Rattle.std.specs.Io.KnownBytes.{Appends}
use Rattle.protocol_model.specs.Value.{Table}
use Rattle.script_model.specs.Lines.{Text}
use Rattle.script_model.specs.Lines as story
use Rattle.script_model.specs.Reports.{Report, report_text}
use Rattle.replication_model.specs.Story.{Story, first_story, after_line, also_line}
use Rattle.replication_model.specs.Transcript.{transcript}
use Rattle.class_layout.specs.Tables.{Layout, table_in}
use Rattle.script_lines.specs.declared.line.Line.{Line}
use Rattle.script_lines.specs.LineOf.{line_of}
use Rattle.script_lines.specs.declared.event.Event.{Event}
use Rattle.script_lines.specs.ReportOf.{report_of}
use Rattle.net_core.specs.Taken.{AppendsPrefix}
use Rattle.net_core.proofs.Written.{Appends-append, AppendsPrefix-append, AppendsPrefix-longer}
use Rattle.replay_core.specs.Kept.{Kept}
use Rattle.replay_core.specs.Stands.{Stands}
use Rattle.replay_core.specs.May.{May, MayAll}
use Rattle.transcripts.specs.Takes.{TakesPrefix}

-- ---- what lines tell

-- one after another
abbrev pub told_by : Table → Story → List story.Line → List Report
told_by table before [] = []
told_by table before (line ∷ lines) =
    (after_line table before line).1 ++ told_by table (after_line table before line).0 lines

-- a story's reports are those
all_told : (table : Table) (lines : List story.Line) (told : Story × List Report)
    → (fold (also_line table) told lines).1 ≡ told.1 ++ told_by table told.0 lines
all_told table [] told = sym (append-nil told.1)
all_told table (line ∷ lines) told =
    let next = after_line table told.0 line in
    all_told table lines (also_line table told line) ∙ append_assoc told.1 next.1 (told_by table next.0 lines)

-- their text
abbrev pub text_after : Table → Story → List story.Line → Text
text_after table before lines = flat_map report_text (told_by table before lines)

whole_text : (table : Table) (lines : List story.Line) → transcript table lines ≡ text_after table first_story lines
whole_text table lines = ap (flat_map report_text) (all_told table lines (first_story, []))

-- ---- what was taken

-- the replay stands for the lines before, the rest may follow, and the sink took all of the whole text but theirs
pub record IsPlayed (kept : Kept) (layout : Layout) (rest : List Line) (whole : Text) (old new : Option (List ℕ)) : Type 0 where
  pub before : Story
  pub done : Text
  pub same : kept.layout ≡ layout
  pub stands : Stands kept before
  pub may : MayAll layout before rest
  pub taken : Appends old new done
  pub text : whole ≡ done ++ text_after (table_in layout) before (map line_of rest)

-- nothing is appended
same_sink : (old : Option (List ℕ)) → Appends old old []
same_sink None = tt
same_sink (Some bytes) = sym (append-nil bytes)

-- before the first line
pub begins : (kept : Kept) (layout : Layout) (lines : List Line) (old : Option (List ℕ)) → Stands kept first_story → kept.layout ≡ layout
    → MayAll layout first_story lines → IsPlayed kept layout lines (transcript (table_in layout) (map line_of lines)) old old
begins kept layout lines old stands same may = record {
  before = first_story;
  done = [];
  same = same;
  stands = stands;
  may = may;
  taken = same_sink old;
  text = whole_text (table_in layout) (map line_of lines);
}

-- nothing was taken yet
pub nothing_taken : (old : Option (List ℕ)) (whole : Text) → TakesPrefix old old whole
nothing_taken old whole = (0, omega arith, same_sink old)

-- the next line may come
pub may_come : (kept : Kept) (layout : Layout) (line : Line) (rest : List Line) (whole : Text) (old new : Option (List ℕ))
    → IsPlayed kept layout (line ∷ rest) whole old new → (before : Story) × Stands kept before × May kept.layout before line
may_come kept layout line rest whole old new p =
    (p.before, p.stands, subst (λ (l : Layout). May l p.before line) (sym p.same) p.may.0)

-- the text of a line and of those after it
text_of_line : (table : Table) (before : Story) (line : story.Line) (rest : List story.Line) → text_after table before (line ∷ rest)
    ≡ flat_map report_text (after_line table before line).1 ++ text_after table (after_line table before line).0 rest
text_of_line table before line rest =
    flat_map-append report_text (after_line table before line).1 (told_by table (after_line table before line).0 rest)

-- what a line tells, as the whole has it
abbrev Tells : Layout → Kept → Line → Text → Type 0
Tells layout kept line text =
    (before : Story) → Stands kept before → text ≡ flat_map report_text (after_line (table_in layout) before (line_of line)).1

abbrev Steps : Layout → (kept after : Kept) → Line → Type 0
Steps layout kept after line =
    (before : Story) → Stands kept before → Stands after (after_line (table_in layout) before (line_of line)).0

-- the whole text with a line's own text told apart
text_with : (kept : Kept) (layout : Layout) (line : Line) (rest : List Line) (whole text : Text) (old new : Option (List ℕ))
    → (p : IsPlayed kept layout (line ∷ rest) whole old new) → Tells layout kept line text
    → whole ≡ (p.done ++ text) ++ text_after (table_in layout) (after_line (table_in layout) p.before (line_of line)).0 (map line_of rest)
text_with kept layout line rest whole text old new p told =
    let t = table_in layout in
    let more = text_after t (after_line t p.before (line_of line)).0 (map line_of rest) in
    let one : text_after t p.before (map line_of (line ∷ rest)) ≡ text ++ more =
    text_of_line t p.before (line_of line) (map line_of rest) ∙ ap (λ (own : Text). own ++ more) (sym (told p.before p.stands)) in
    p.text ∙ ap (λ (own : Text). p.done ++ own) one ∙ sym (append_assoc p.done text more)

-- a line was done, and its text taken
pub goes_on : (kept after : Kept) (layout : Layout) (line : Line) (rest : List Line) (whole text : Text) (old mid new : Option (List ℕ))
    → IsPlayed kept layout (line ∷ rest) whole old mid → Tells kept.layout kept line text → Steps kept.layout kept after line
    → after.layout ≡ kept.layout → Appends mid new text → IsPlayed after layout rest whole old new
goes_on kept after layout line rest whole text old mid new p told stands same taken =
    let told_here : Tells layout kept line text = subst (λ (l : Layout). Tells l kept line text) p.same told in
    let stands_here : Steps layout kept after line = subst (λ (l : Layout). Steps l kept after line) p.same stands in
    record {
      before = (after_line (table_in layout) p.before (line_of line)).0;
      done = p.done ++ text;
      same = same ∙ p.same;
      stands = stands_here p.before p.stands;
      may = p.may.1;
      taken = Appends-append old mid new p.done text p.taken taken;
      text = text_with kept layout line rest whole text old mid p told_here;
    }

-- what was taken begins the whole text
pub prefix : (kept : Kept) (layout : Layout) (rest : List Line) (whole : Text) (old new : Option (List ℕ))
    → IsPlayed kept layout rest whole old new → TakesPrefix old new whole
prefix kept layout rest whole old new p =
    let more = text_after (table_in layout) p.before (map line_of rest) in
    let P : List ℕ → Type 0 = λ zs. Appends old new zs in
    let T : List ℕ → Type 0 = λ ws. TakesPrefix old new ws in
    let begins_whole : take (length p.done) (p.done ++ more) ≡ p.done = take-append-le (length p.done) p.done more (omega arith) ∙ take-length p.done in
    subst T (sym p.text) (length p.done, omega (arith, length-append p.done more), subst P (sym begins_whole) p.taken)

-- a prefix of a line's text was taken behind it
pub prefix_of_line : (kept : Kept) (layout : Layout) (line : Line) (rest : List Line) (whole text : Text) (old mid new : Option (List ℕ))
    → IsPlayed kept layout (line ∷ rest) whole old mid → Tells kept.layout kept line text → AppendsPrefix mid new text
    → TakesPrefix old new whole
prefix_of_line kept layout line rest whole text old mid new p told taken =
    let told_here : Tells layout kept line text = subst (λ (l : Layout). Tells l kept line text) p.same told in
    let t = table_in layout in
    let more = text_after t (after_line t p.before (line_of line)).0 (map line_of rest) in
    let T : List ℕ → Type 0 = λ ws. TakesPrefix old new ws in
    let q = AppendsPrefix-longer old new (p.done ++ text) more (AppendsPrefix-append old mid new p.done text p.taken taken) in
    subst T (sym (text_with kept layout line rest whole text old mid p told_here)) (q.0, omega (arith, q.1), q.2)

-- after the last line the whole text was taken
pub all_taken : (kept : Kept) (layout : Layout) (whole : Text) (old new : Option (List ℕ)) → IsPlayed kept layout [] whole old new
    → Appends old new whole
all_taken kept layout whole old new p =
    let P : List ℕ → Type 0 = λ zs. Appends old new zs in
    subst P (sym (p.text ∙ append-nil p.done)) p.taken

-- the text of the events is that of the reports
pub text_told : (layout here : Layout) (events : List Event) (i : ℕ) (text : Text) (reports : List Report) → layout ≡ here
    → text ≡ flat_map report_text (map (report_of (table_in here)) (take i events)) → length events ≤ i
    → map (report_of (table_in layout)) events ≡ reports → text ≡ flat_map report_text reports
text_told layout here events i text reports same told over is =
    let all : take i events ≡ events = take_all i events over in
    told ∙ ap (flat_map report_text) (ap (map (report_of (table_in here))) all
    ∙ ap (λ (l : Layout). map (report_of (table_in l)) events) (sym same) ∙ is)

-- the next line, and those after it
pub next_line : (lines : List Line) (i : ℕ) (line : Line) → line ≡ get_or lines i line → i < length lines
    → drop i lines ≡ line ∷ drop (i + 1) lines
next_line lines i line is within =
    rw (add-one, drop-cons lines i line) (ap (λ (l : Line). l ∷ drop (suc i) lines) (sym is))
