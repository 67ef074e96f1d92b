-- How many steps were taken.
use Rattle.std.proofs.Common.{◌≡◌, ◌≢◌, ℕ, ◌+◌, ◌≤◌, Bool, None, true, false, cond, ◌==◌, ◌||◌, refl, sym, ap, ◌∙◌, arith}
use Rattle.std.proofs.Math.Path.{fun_ext}
use Rattle.std.proofs.lemmas.Bool.{eqb-true}
use Rattle.protocol_model.specs.Value.{Table}
use Rattle.protocol_model.specs.World.{Edits, spawn_of}
use Rattle.driver_laws.specs.Counted.{cells, cells_of}
use Rattle.driver_laws.proofs.Actors.{cells_less, cells_more}
use Rattle.driver_sights.specs.Looking.{AreAmong}

-- what was sampled before, and one actor more or not
pub with_one : (table : Table) (edits : Edits) (before after : ℕ → Bool) (a : ℕ) → spawn_of edits a ≢ None
    → ((b : ℕ) → after b ≡ (a == b || before b))
    → cells table edits after ≡ cond (before a) 0 (cells_of table edits a) + cells table edits before
with_one table edits before after a there more = by (before a) refl
  where
    is : after ≡ (λ b. a == b || before b)
    is = fun_ext more

    by : (t : Bool) → before a ≡ t
        → cells table edits after ≡ cond t 0 (cells_of table edits a) + cells table edits before
    by true e = ap (cells table edits) (is ∙ fun_ext same) ∙ zero_add (cells table edits before)
      where
        zero_add : (n : ℕ) → n ≡ 0 + n
        zero_add n = omega arith

        same : (b : ℕ) → (a == b || before b) ≡ before b
        same b = go (a == b) refl
          where
            go : (t : Bool) → (a == b) ≡ t → (t || before b) ≡ before b
            go true q = sym (ap before (sym (eqb-true a b q)) ∙ e)
            go false q = refl
    by false e = ap (cells table edits) is ∙ cells_more table edits before a there e

-- fewer actors have fewer values
pub among_less : (table : Table) (edits : Edits) (some all : ℕ → Bool) → AreAmong some all
    → cells table edits some ≤ cells table edits all
among_less table edits some all h = cells_less table edits some all h
