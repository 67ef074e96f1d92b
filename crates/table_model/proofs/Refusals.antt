-- The first class that is refused counts.
use Rattle.std.proofs.Common.{◌≡◌, ◌+◌, List, [], ◌∷◌, ◌++◌, length, Result, Ok, Err, ap}
use Rattle.serde_json.specs.Data.{Data}
use Rattle.table_model.specs.Checked.{Refusal, ◌>>=◌}
use Rattle.table_model.specs.Rules.{Entry}
use Rattle.table_model.specs.Grammar.{class_after, classes_after}
use Rattle.table_model.proofs.Checking.{same_ok}

-- the classes behind one that is checked
abbrev rest_of : List Entry → List Data → Result Entry Refusal → Result (List Entry) Refusal
rest_of before ds checked = checked >>= (λ e. classes_after (before ++ e ∷ []) ds)

-- classes behind accepted ones are judged after those
pub after_accepted : (before entries : List Entry) (ds more : List Data) → classes_after before ds ≡ Ok entries
    → classes_after before (ds ++ more) ≡ classes_after entries more
after_accepted before entries [] more h =
    ap (λ (known : List Entry). classes_after known more) (same_ok before entries h)
after_accepted before entries (d ∷ ds) more h =
    by_class (class_after (length before + 1) before d) h (λ e. after_accepted (before ++ e ∷ []) entries ds more)
  where
    by_class : (checked : Result Entry Refusal) → rest_of before ds checked ≡ Ok entries
        → ((e : Entry) → rest_of before ds (Ok e) ≡ Ok entries
        → rest_of before (ds ++ more) (Ok e) ≡ classes_after entries more)
        → rest_of before (ds ++ more) checked ≡ classes_after entries more
    by_class (Ok e) c rest = rest e c
    by_class (Err refusal) c rest = absurd (cc)

-- what stands behind a refused class changes nothing
pub after_refused : (before : List Entry) (ds more : List Data) (refusal : Refusal)
    → classes_after before ds ≡ Err refusal → classes_after before (ds ++ more) ≡ Err refusal
after_refused before [] more refusal h = absurd (cc)
after_refused before (d ∷ ds) more refusal h =
    by_class (class_after (length before + 1) before d) h (λ e. after_refused (before ++ e ∷ []) ds more refusal)
  where
    by_class : (checked : Result Entry Refusal) → rest_of before ds checked ≡ Err refusal
        → ((e : Entry) → rest_of before ds (Ok e) ≡ Err refusal → rest_of before (ds ++ more) (Ok e) ≡ Err refusal)
        → rest_of before (ds ++ more) checked ≡ Err refusal
    by_class (Ok e) c rest = rest e c
    by_class (Err first) c rest = c
