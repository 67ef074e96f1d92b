-- What is known where rules that are checked one after another all hold: each step takes one of them out.
use Rattle.std.proofs.Common.{◌≡◌, ℕ, ◌+◌, List, [], ◌∷◌, ◌++◌, Bool, true, false, Option, Some, None, Result, Ok, Err, ok_or, refl, subst}
use Rattle.std.specs.Bool.{⊤, then_some}
use Rattle.table_model.specs.declared.Place.{Place}
use Rattle.table_model.specs.declared.TableWhy.{TableWhy}
use Rattle.table_model.specs.Checked.{Refusal, ◌>>=◌, must, at, each_after}

-- what is checked is accepted, and so is what comes after it
pub then_ok : {A B E : Type 0} (checked : Result A E) (next : A → Result B E) (b : B) → (checked >>= next) ≡ Ok b
    → (a : A) × (checked ≡ Ok a) × (next a ≡ Ok b)
then_ok (Ok a) next b h = (a, refl, h)
then_ok (Err why) next b h = absurd (cc)

-- the same behind a rule, which holds
pub must_then : {B : Type 0} (holds : Bool) (why : TableWhy) (next : ⊤ → Result B TableWhy) (b : B)
    → (must holds why >>= next) ≡ Ok b → (holds ≡ true) × (next tt ≡ Ok b)
must_then true why next b h = (refl, h)
must_then false why next b h = absurd (cc)

-- behind a value that has to be there, which is
pub some_then : {A B : Type 0} (o : Option A) (why : TableWhy) (next : A → Result B TableWhy) (b : B)
    → (ok_or o why >>= next) ≡ Ok b → (a : A) × (o ≡ Some a) × (next a ≡ Ok b)
some_then (Some a) why next b h = (a, refl, h)
some_then None why next b h = absurd (cc)

-- and behind what is checked at a place
pub at_then : {A B : Type 0} (place : Place) (checked : Result A TableWhy) (next : A → Result B Refusal) (b : B)
    → (at place checked >>= next) ≡ Ok b → (a : A) × (checked ≡ Ok a) × (next a ≡ Ok b)
at_then place (Ok a) next b h = (a, refl, h)
at_then place (Err why) next b h = absurd (cc)

-- a rule that was checked holds
pub must_hold : (holds : Bool) (why : TableWhy) (t : ⊤) → must holds why ≡ Ok t → holds ≡ true
must_hold true why t h = refl
must_hold false why t h = absurd (cc)

-- a value that is there if a test passes
pub test_some : {A : Type 0} (test : Bool) (a b : A) → then_some test a ≡ Some b → (test ≡ true) × (a ≡ b)
test_some true a b h = (refl, cc)
test_some false a b h = absurd (cc)

-- equal answers have equal values
pub same_ok : {A E : Type 0} (a b : A) → ◌≡◌ {A = Result A E} (Ok a) (Ok b) → a ≡ b
same_ok a b h = cc

-- what holds of the items before, and of these with each accepted item behind them, holds of all
pub each_keeps : {A D : Type 0} (item_after : List A → D → Result A TableWhy) (place : ℕ → Place)
    (Kept : List A → Type 0)
    → ((before : List A) (d : D) (a : A) → Kept before → item_after before d ≡ Ok a → Kept (before ++ a ∷ []))
    → (before : List A) (n : ℕ) (ds : List D) (all : List A) → Kept before
    → each_after item_after place before n ds ≡ Ok all → Kept all
each_keeps item_after place Kept push before n [] all kept h = subst Kept (same_ok before all h) kept
each_keeps item_after place Kept push before n (d ∷ ds) all kept h =
    let t = at_then (place n) (item_after before d) _ all h in
    each_keeps item_after place Kept push (before ++ t.0 ∷ []) (n + 1) ds all (push before d t.0 kept t.1) t.2
