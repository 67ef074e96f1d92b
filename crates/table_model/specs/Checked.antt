-- Rules that are checked one after another, up to the first that is broken.
use Rattle.std.specs.Prelude.{ℕ, ◌+◌, List, [], ◌∷◌, ◌++◌, Bool, true, false, Result, Ok, Err, ⊤}
use Rattle.table_model.specs.declared.Place.{Place}
use Rattle.table_model.specs.declared.TableWhy.{TableWhy}

-- the rule that is broken, and where
pub record Refusal : Type 0 where
  pub place : Place
  pub why : TableWhy

-- what was checked, or why it is refused; what comes after a broken rule isn't looked at
infixl 10 ◌>>=◌
abbrev pub ◌>>=◌ : {A B E : Type 0} → Result A E → (A → Result B E) → Result B E
checked >>= next = elim checked [ Ok value ↦ next value | Err why ↦ Err why ]

-- the rule holds, or this is why not
abbrev pub must : Bool → TableWhy → Result ⊤ TableWhy
must true why = Ok tt
must false why = Err why

-- a rule of what stands at this place
abbrev pub at : {A : Type 0} → Place → Result A TableWhy → Result A Refusal
at place checked = elim checked [ Ok value ↦ Ok value | Err why ↦ Err (record { place = place; why = why }) ]

-- items one by one, each after those before it; the n-th stands at its place
abbrev pub each_after : {A D : Type 0} → (List A → D → Result A TableWhy) → (ℕ → Place) → List A → ℕ → List D
    → Result (List A) Refusal
each_after item_after place before n [] = Ok before
each_after item_after place before n (d ∷ ds) = do
  item ← at (place n) (item_after before d)
  each_after item_after place (before ++ item ∷ []) (n + 1) ds
