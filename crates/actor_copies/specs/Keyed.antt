-- Lists whose items stand by ascending keys, each once.
use Rattle.std.specs.Prelude.{◌≡◌, ℕ, ◌+◌, ◌≤◌, ◌==◌, List, [], ◌∷◌, Option, find, ⊤, cond}

-- the keys ascend, the first being at least this
abbrev pub Ascends : {A : Type 0} → (A → ℕ) → (least : ℕ) → List A → Type 0
Ascends key least [] = ⊤
Ascends key least (x ∷ xs) = (least ≤ key x) × Ascends key (key x + 1) xs

-- the item of a key
abbrev pub at_key : {A : Type 0} → (A → ℕ) → List A → (k : ℕ) → Option A
at_key key xs k = find (λ x. key x == k) xs

-- after an item is put in the place of a key, or none: all others are as they were
pub record Put {A : Type 0} (key : A → ℕ) (k : ℕ) (item : Option A) (xs ys : List A) : Type 0 where
  pub ascends : Ascends key 0 ys
  pub at : (j : ℕ) → at_key key ys j ≡ cond (k == j) item (at_key key xs j)
