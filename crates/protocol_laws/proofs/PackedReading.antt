-- Reading a packed number.
use Rattle.std.proofs.Common.{◌≡◌, ◌≢◌, ℕ, zero, suc, ◌<◌, ◌≤◌, ◌+◌, ◌-◌, ◌*◌, ◌/◌, ◌%◌, ◌^◌, ◌==◌, ◌&&◌, ◌||◌, not, List, Bool, true, false, nat_lt, Some, None, Ok, Err, refl, ap, ◌∙◌, arith}
use Rattle.std.proofs.lemmas.Bool.Decides.{nat_tests}
use Rattle.std.proofs.Math.Nat.{pow-le-pow_right}
use Rattle.std.proofs.lemmas.Nat.{mul-add-lt, pow-add}
use Rattle.protocol_model.specs.declared.NumRefusal.{NumRefusal}
use Rattle.protocol_model.specs.declared.NumRefusal.TheVariants.{Short, Padded}
use Rattle.protocol_model.specs.Numbers.{leading_fixed, leading_groups}

pub groups-none : (groups : ℕ) (first : Bool) (bits : List Bool) → groups ≡ 0 → leading_groups groups first bits ≡ Err Padded
unfolding leading_groups
groups-none groups first bits e = rw e refl

pub groups-short : (groups g : ℕ) (first : Bool) (bits : List Bool) → groups ≡ suc g → leading_fixed 8 bits ≡ None → leading_groups groups first bits ≡ Err Short
unfolding leading_groups
groups-short groups g first bits e h = rw (e, leading_groups, h) refl

more_test : (group : ℕ) → group % 2 ≡ 1 → (group % 2 == 1) ≡ true
more_test group h = grind (arith, nat_tests)

last_test : (group : ℕ) → group % 2 ≢ 1 → (group % 2 == 1) ≡ false
last_test group h = grind (arith, nat_tests)

pub groups-more : (groups g : ℕ) (first : Bool) (bits rest after : List Bool) (group v : ℕ) → groups ≡ suc g → leading_fixed 8 bits ≡ Some (group, rest) → group % 2 ≡ 1
    → leading_groups g false rest ≡ Ok (v, after) → leading_groups groups first bits ≡ Ok (group / 2 + 128 * v, after)
unfolding leading_groups
groups-more groups g first bits rest after group v e h odd r = rw (e, leading_groups, h, more_test group odd, r) refl

pub groups-more_err : (groups g : ℕ) (first : Bool) (bits rest : List Bool) (group : ℕ) (why : NumRefusal) → groups ≡ suc g → leading_fixed 8 bits ≡ Some (group, rest) → group % 2 ≡ 1
    → leading_groups g false rest ≡ Err why → leading_groups groups first bits ≡ Err why
unfolding leading_groups
groups-more_err groups g first bits rest group why e h odd r = rw (e, leading_groups, h, more_test group odd, r) refl

first_of_five : (groups g : ℕ) → groups ≡ suc g → (groups == 1) ≡ (g == 0)
first_of_five groups zero e = grind (arith, nat_tests)
first_of_five groups (suc g) e = grind (arith, nat_tests)

pub groups-padded : (groups g : ℕ) (first : Bool) (bits rest : List Bool) (group : ℕ) → groups ≡ suc g → leading_fixed 8 bits ≡ Some (group, rest) → group % 2 ≢ 1
    → ((group / 2 == 0 && not first) || (groups == 1 && nat_lt 15 (group / 2))) ≡ true → leading_groups groups first bits ≡ Err Padded
unfolding leading_groups
groups-padded groups g first bits rest group e h even t =
    let u = rw (first_of_five groups g e) at t in
    rw (e, leading_groups, h, last_test group even, u) refl

pub groups-last : (groups g : ℕ) (first : Bool) (bits rest : List Bool) (group : ℕ) → groups ≡ suc g → leading_fixed 8 bits ≡ Some (group, rest) → group % 2 ≢ 1
    → ((group / 2 == 0 && not first) || (groups == 1 && nat_lt 15 (group / 2))) ≡ false → leading_groups groups first bits ≡ Ok (group / 2, rest)
unfolding leading_groups
groups-last groups g first bits rest group e h even t =
    let u = rw (first_of_five groups g e) at t in
    rw (e, leading_groups, h, last_test group even, u) refl

-- how large a number of so many groups is
pub groups_top : (groups : ℕ) → groups ≤ 5 → 2 ^ (7 * groups - 3) ≤ 2 ^ 32
groups_top groups h = pow-le-pow_right {n = 2} (omega arith) {i = 7 * groups - 3} {j = 32} (omega arith)

pub more_below : (groups g digit rest : ℕ) → groups ≡ suc g → 1 ≤ g → digit < 128 → rest < 2 ^ (7 * g - 3) → digit + 128 * rest < 2 ^ (7 * groups - 3)
more_below groups g digit rest e some d r =
    let up : 7 * groups - 3 ≡ 7 + (7 * g - 3) = omega arith in
    let p : 2 ^ (7 * groups - 3) ≡ 128 * 2 ^ (7 * g - 3) = ap (λ m. 2 ^ m) up ∙ pow-add 2 7 (7 * g - 3) in
    let low : rest * 128 + digit < 128 * 2 ^ (7 * g - 3) = mul-add-lt rest 128 digit (2 ^ (7 * g - 3)) r d in
    omega (arith, p, low)

small_last : (groups digit : ℕ) (first : Bool) → groups ≡ 1 → ((digit == 0 && not first) || (groups == 1 && nat_lt 15 digit)) ≡ false → digit ≤ 15
small_last groups digit first e t = grind (arith, nat_tests)

pub last_below : (groups digit : ℕ) (first : Bool) → 1 ≤ groups → digit < 128 → ((digit == 0 && not first) || (groups == 1 && nat_lt 15 digit)) ≡ false → digit < 2 ^ (7 * groups - 3)
last_below zero digit first some d t = absurd (omega arith)
last_below (suc zero) digit first some d t = let s = small_last 1 digit first refl t in omega (arith, s)
last_below (suc (suc g)) digit first some d t =
    let up : 2 ^ 7 ≤ 2 ^ (7 * suc (suc g) - 3) = pow-le-pow_right {n = 2} (omega arith) {i = 7} {j = 7 * suc (suc g) - 3} (omega arith) in
    omega (arith, up)
