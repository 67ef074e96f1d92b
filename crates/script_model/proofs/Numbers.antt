-- What digits are worth, where a number is capped.
use Rattle.std.proofs.Common.{◌≡◌, ℕ, ◌+◌, ◌-◌, ◌*◌, ◌≤◌, ◌<◌, min, [], ◌∷◌, length, drop, get_or, refl, arith, Bool, true, false, nat_lt, drop-cons, add-one}
use Rattle.std.proofs.lemmas.Bool.Decides.{nat_tests}
use Rattle.script_model.specs.Lines.{Text}
use Rattle.script_model.specs.Script.{digits_value}

-- digits after a number don't make it less
pub grows : (n : ℕ) (cs : Text) → n ≤ digits_value n cs
grows n [] = omega arith
grows n (c ∷ cs) = omega (arith, grows (10 * n + (c - 48)) cs)

-- a number that is capped before the rest of its digits is capped after them
pub capped : (most n : ℕ) (cs : Text) → min most (digits_value (min most n) cs) ≡ min most (digits_value n cs)
capped most n cs =
    by_test (nat_lt n most) refl
  where
    by_test : (t : Bool) → nat_lt n most ≡ t
        → min most (digits_value (min most n) cs) ≡ min most (digits_value n cs)
    by_test true h = let e : min most n ≡ n = grind (arith, nat_tests) in rw e refl
    by_test false h =
        let above : most ≤ n = grind (arith, nat_tests) in
        let e : min most n ≡ most = omega arith in rw e (omega (arith, grows most cs, grows n cs))

-- one more digit, capped
pub capped_step : (most v i : ℕ) (text : Text) → i < length text
    → min most (digits_value (min most (10 * v + (get_or text i 0 - 48))) (drop (i + 1) text))
    ≡ min most (digits_value v (drop i text))
capped_step most v i text h =
    let e : drop i text ≡ get_or text i 0 ∷ drop (i + 1) text = rw (add-one, drop-cons text i 0) refl in
    rw e (capped most (10 * v + (get_or text i 0 - 48)) (drop (i + 1) text))
