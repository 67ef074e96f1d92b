-- The lines that were replayed and counted, and those that are left.
use Rattle.std.proofs.Common.{◌≡◌, ℕ, suc, ◌+◌, ◌<◌, ◌≤◌, List, [], ◌∷◌, ◌++◌, map, drop, take, fold, length, add-one, refl, ap, sym, ◌∙◌, subst, append_assoc, append-nil}
use Rattle.std.proofs.Math.Seq.{drop-cons}
use Rattle.std.proofs.lemmas.List.{map-append, take_all, take_more}
use Rattle.std.proofs.Math.ListN.{get_or, drop_of_length-le}
use Rattle.protocol_model.specs.Value.{Table}
use Rattle.script_model.specs.Lines.{Text}
use Rattle.script_model.specs.Lines as story
use Rattle.script_model.specs.Reports.{Report}
use Rattle.replication_model.specs.Story.{Story, first_story, after_line, also_line, story_of}
use Rattle.class_layout.specs.Tables.{Layout, table_in}
use Rattle.script_lines.specs.declared.line.Line.{Line}
use Rattle.script_lines.specs.LineOf.{line_of}
use Rattle.script_lines.specs.declared.event.Event.{Event}
use Rattle.script_lines.specs.ReportOf.{report_of}
use Rattle.replay_core.specs.Kept.{Kept}
use Rattle.replay_core.specs.Stands.{Stands}
use Rattle.replay_core.specs.May.{May, MayAll}
use Rattle.replay_core.specs.Settled.{settled_count}
use Rattle.sample_summary.specs.Sampled.{summary_of}
use Rattle.sample_summary.specs.Tallied.{Tallies}
use Rattle.sample_summary.specs.declared.tally.Tally.{Tally}

-- the replay stands for the lines so far, the rest may follow, and all that was told is counted
pub record IsReplayed (kept : Kept) (tally : Tally) (layout : Layout) (rest all : List Line) : Type 0 where
  pub told : Story × List Report
  pub same : kept.layout ≡ layout
  pub stands : Stands kept told.0
  pub may : MayAll layout told.0 rest
  pub counts : Tallies tally told.1
  pub whole : fold (also_line (table_in layout)) told (map line_of rest) ≡ story_of (table_in layout) (map line_of all)

-- before the first line
pub begins : (kept : Kept) (tally : Tally) (layout : Layout) (lines : List Line) → Stands kept first_story → kept.layout ≡ layout
    → MayAll layout first_story lines → Tallies tally [] → IsReplayed kept tally layout lines lines
begins kept tally layout lines stands same may counts = record {
  told = (first_story, []);
  same = same;
  stands = stands;
  may = may;
  counts = counts;
  whole = refl;
}

-- the next line may come
pub may_come : (kept : Kept) (tally : Tally) (layout : Layout) (line : Line) (rest all : List Line)
    → IsReplayed kept tally layout (line ∷ rest) all → (before : Story) × Stands kept before × May kept.layout before line
may_come kept tally layout line rest all p =
    (p.told.0, p.stands, subst (λ (l : Layout). May l p.told.0 line) (sym p.same) p.may.0)

-- a line was done and counted
pub goes_on : (kept after : Kept) (tally more : Tally) (layout : Layout) (line : Line) (rest all : List Line)
    → IsReplayed kept tally layout (line ∷ rest) all
    → ((told : Story × List Report) → Stands kept told.0 → Stands after (also_line (table_in layout) told (line_of line)).0)
    → ((told : Story × List Report) → Stands kept told.0 → Tallies tally told.1
    → Tallies more (also_line (table_in layout) told (line_of line)).1) → after.layout ≡ kept.layout
    → IsReplayed after more layout rest all
goes_on kept after tally more layout line rest all p stands counts same = record {
  told = also_line (table_in layout) p.told (line_of line);
  same = same ∙ p.same;
  stands = stands p.told p.stands;
  may = p.may.1;
  counts = counts p.told p.stands p.counts;
  whole = p.whole;
}

-- after the last line
pub all_counted : (kept : Kept) (tally : Tally) (layout : Layout) (all : List Line) (ticks settled : ℕ) (text : Text)
    → IsReplayed kept tally layout [] all
    → ((story : Story) → Stands kept story → settled ≡ settled_count (table_in kept.layout) story)
    → ((table : Table) (story : Story) (told : List Report) → Tallies tally told → settled ≡ settled_count table story
    → text ≡ summary_of ticks table (story, told))
    → text ≡ summary_of ticks (table_in layout) (story_of (table_in layout) (map line_of all))
all_counted kept tally layout all ticks settled text p counted says =
    let settled_is : settled ≡ settled_count (table_in layout) p.told.0 =
    subst (λ (l : Layout). settled ≡ settled_count (table_in l) p.told.0) p.same (counted p.told.0 p.stands) in
    let told_is : text ≡ summary_of ticks (table_in layout) p.told = says (table_in layout) p.told.0 p.told.1 p.counts settled_is in
    subst (λ (t : Story × List Report). text ≡ summary_of ticks (table_in layout) t) p.whole told_is

-- ---- the events of one line

-- the first events were counted
abbrev pub CountedSoFar : Layout → (old now : Tally) → List Event → Type 0
CountedSoFar layout old now events =
    (told : List Report) → Tallies old told → Tallies now (told ++ map (report_of (table_in layout)) events)

pub none_counted : (layout : Layout) (tally : Tally) → CountedSoFar layout tally tally []
none_counted layout tally told h = subst (Tallies tally) (sym (append-nil told)) h

-- one more was
pub event_counted : (layout : Layout) (old now later : Tally) (events : List Event) (i : ℕ) (event : Event) → event ≡ get_or events i event
    → i < length events → CountedSoFar layout old now (take i events)
    → ((told : List Report) → Tallies now told → Tallies later (told ++ report_of (table_in layout) event ∷ []))
    → CountedSoFar layout old later (take (i + 1) events)
event_counted layout old now later events i event is within before more told h =
    let report = report_of (table_in layout) in
    let next : take (i + 1) events ≡ take i events ++ event ∷ [] =
    take_more events i event within ∙ ap (λ (e : Event). take i events ++ e ∷ []) (sym is) in
    let whole : told ++ map report (take (i + 1) events) ≡ (told ++ map report (take i events)) ++ report event ∷ [] =
    ap (λ (es : List Event). told ++ map report es) next ∙ ap (λ (rs : List Report). told ++ rs) (map-append report (take i events) (event ∷ []))
    ∙ sym (append_assoc told (map report (take i events)) (report event ∷ [])) in
    subst (Tallies later) (sym whole) (more (told ++ map report (take i events)) (before told h))

-- all of a line's were
pub line_counted : (layout here : Layout) (old now : Tally) (events kept : List Event) (i : ℕ) (reports told : List Report) → layout ≡ here
    → events ≡ kept → length events ≤ i → map (report_of (table_in layout)) kept ≡ reports
    → CountedSoFar here old now (take i events) → Tallies old told → Tallies now (told ++ reports)
line_counted layout here old now events kept i reports told same are over is counted h =
    let all : take i events ≡ kept = take_all i events over ∙ are in
    let told_is : map (report_of (table_in here)) (take i events) ≡ reports =
    ap (map (report_of (table_in here))) all ∙ ap (λ (l : Layout). map (report_of (table_in l)) kept) (sym same) ∙ is in
    subst (λ (rs : List Report). Tallies now (told ++ rs)) told_is (counted told h)

-- the next line, and those after it
pub next_line : (lines : List Line) (i : ℕ) (line : Line) → line ≡ get_or lines i line → i < length lines
    → drop i lines ≡ line ∷ drop (i + 1) lines
next_line lines i line is within =
    rw (add-one, drop-cons lines i line) (ap (λ (l : Line). l ∷ drop (suc i) lines) (sym is))

pub none_left : (lines : List Line) (i : ℕ) → length lines ≤ i → drop i lines ≡ []
none_left lines i h = drop_of_length-le lines h
