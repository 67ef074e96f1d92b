-- Where lines are left out that a player doesn't see, the same is told of its connection.
use Rattle.std.proofs.Common.{◌≡◌, ℕ, List, [], ◌∷◌, ◌++◌, Bool, true, false, cond, not, refl, sym, ap, ◌∙◌, subst, append-nil, append_assoc}
use Rattle.protocol_model.specs.Side.{Side}
use Rattle.protocol_model.specs.Value.{Table}
use Rattle.script_model.specs.Lines.{Line, Join, ApplyEdit, TickAll, TickClient, Deliver, DeliverNew, CallTo, CallAll, Dump, AskSettled, Forge}
use Rattle.script_model.specs.ScriptRules.{Reads}
use Rattle.replication_model.specs.Story.{story_of}
use Rattle.isolation_laws.specs.Unseen.{is_of_other, is_unseen}
use Rattle.isolation_laws.specs.Isolation.{heard_by, joins_once}
use Rattle.isolation_laws.specs.Told.{LeavesOut, lines_alone, OthersAreLeftOut, HearsSameWithout, TellsSameWithout, ServesEachAlone}
use Rattle.isolation_laws.specs.Told.LeavesOut.{none, one_more}
use Rattle.isolation_laws.proofs.JoinsOnce.{read_once}
use Rattle.isolation_laws.proofs.SendsOut.{lines_are_out}
use Rattle.isolation_laws.proofs.SentByFeed.{once_without, unseen_joins}
use Rattle.isolation_laws.proofs.ToldReports.{told, unseen_quiet, line_more, lines_told}
use Rattle.isolation_laws.proofs.UnseenLines.{unseen, feeds_stay}

-- ---- one line

-- without one unseen line the same is told
told_without : (table : Table) (n : ℕ) (before : List Line) (line : Line) (after : List Line)
    → is_unseen table n before line after ≡ true → joins_once n (before ++ line ∷ after) ≡ true
    → told n (story_of table (before ++ line ∷ after)).1 ≡ told n (story_of table (before ++ after)).1
told_without table n before line after h once =
    let passes = unseen table n before line after h in
    sym (lines_told n table before (before ++ line ∷ []) after passes.1 passes.0
    (once_without n line (unseen_joins table n before line after h) before after ∙ once)
    (ap (joins_once n) (append_assoc before (line ∷ []) after) ∙ once) start
    ∙ ap (λ (l : List Line). told n (story_of table l).1) (append_assoc before (line ∷ []) after))
  where
    start : told n (story_of table before).1 ≡ told n (story_of table (before ++ line ∷ [])).1
    start =
        sym (line_more n table before line
        ∙ ap (λ l. told n (story_of table before).1 ++ l)
        (unseen_quiet n table before line after (story_of table before).0 h)
        ∙ append-nil (told n (story_of table before).1))

-- ---- several

-- the player joins as often as before
keeps_once : (table : Table) (n : ℕ) (lines : List Line) {fewer : List Line} → LeavesOut table n lines fewer
    → joins_once n fewer ≡ joins_once n lines
keeps_once table n lines none = refl
keeps_once table n lines (one_more before line after rest h) =
    once_without n line (unseen_joins table n before line after h) before after ∙ keeps_once table n lines rest

told_same : (table : Table) (n : ℕ) (lines : List Line) {fewer : List Line} → joins_once n lines ≡ true
    → LeavesOut table n lines fewer → told n (story_of table lines).1 ≡ told n (story_of table fewer).1
told_same table n lines once none = refl
told_same table n lines once (one_more before line after rest h) =
    told_same table n lines once rest
    ∙ told_without table n before line after h (keeps_once table n lines rest ∙ once)

-- without any number of unseen lines the same is told of the player's connection
pub tells_same : TellsSameWithout
tells_same table n lines fewer once h = told_same table n lines once h

heard_same : (table : Table) (n : ℕ) (lines : List Line) {fewer : List Line} (side : Side)
    → LeavesOut table n lines fewer → heard_by table lines side n ≡ heard_by table fewer side n
heard_same table n lines side none = refl
heard_same table n lines side (one_more before line after rest h) =
    heard_same table n lines side rest ∙ sym (feeds_stay table n before after line h side)

-- and its ends hear the same
pub hears_same : HearsSameWithout
hears_same table n lines fewer h side = heard_same table n lines side h

-- ---- lines about others

-- a line about another is unseen wherever it stands
other_unseen : (table : Table) (n : ℕ) (before : List Line) (line : Line) (after : List Line)
    → is_of_other n line ≡ true → is_unseen table n before line after ≡ true
other_unseen table n before (ApplyEdit x) after h = absurd (cc)
other_unseen table n before (Join player budget version) after h = h
other_unseen table n before TickAll after h = h
other_unseen table n before (TickClient player) after h = h
other_unseen table n before (Deliver side player k) after h = h
other_unseen table n before (DeliverNew side player every) after h = h
other_unseen table n before (CallTo side player a m args) after h = h
other_unseen table n before (CallAll a m args) after h = h
other_unseen table n before (Dump player) after h = h
other_unseen table n before (AskSettled player a) after h = h
other_unseen table n before (Forge side player bytes) after h = h

-- those behind the front are left out
out_behind : (table : Table) (n : ℕ) (lines front rest : List Line) → LeavesOut table n lines (front ++ rest)
    → LeavesOut table n lines (front ++ lines_alone n rest)
out_behind table n lines front [] h = h
out_behind table n lines front (line ∷ rest) h =
    by (is_of_other n line) refl
    (λ e. out_behind table n lines front rest (one_more front line rest h (other_unseen table n front line rest e)))
    (out_behind table n lines (front ++ line ∷ []) rest
    (subst (LeavesOut table n lines) (sym (append_assoc front (line ∷ []) rest)) h))
  where
    by : (b : Bool) → is_of_other n line ≡ b
        → (is_of_other n line ≡ true → LeavesOut table n lines (front ++ lines_alone n rest))
        → LeavesOut table n lines ((front ++ line ∷ []) ++ lines_alone n rest)
        → LeavesOut table n lines (front ++ cond (not b) (line ∷ lines_alone n rest) (lines_alone n rest))
    by true e without with = without e
    by false e without with =
        subst (LeavesOut table n lines) (append_assoc front (line ∷ []) (lines_alone n rest)) with

-- the lines without those about others leave out unseen ones alone
pub others_out : OthersAreLeftOut
others_out table n lines = out_behind table n lines [] lines none

-- ---- scripts

-- each player of a script that is read is served as if it were alone
pub read_alone : (table : Table) (script : List ℕ) (lines more : List Line) → Reads table false script (lines ++ more)
    → ServesEachAlone table lines
read_alone table script lines more r n =
    let once : joins_once n lines ≡ true = read_once table n script lines more r in
    record {
      packets = lines_are_out table n lines once;
      alone = tells_same table n lines (lines_alone n lines) once (others_out table n lines);
      unseen = λ fewer h. tells_same table n lines fewer once h;
    }
