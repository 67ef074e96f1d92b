-- The least width that tells a number apart among those below a bound.
use Rattle.std.proofs.Common.{◌≡◌, ℕ, zero, suc, ◌<◌, ◌≤◌, ◌+◌, ◌-◌, ◌*◌, ◌/◌, ◌%◌, ◌^◌, Bool, true, false, nat_le, nat_lt, refl, sym, ap, ◌∙◌, subst, arith}
use Rattle.std.proofs.lemmas.Bool.{leb-true, leb-false, le-leb}
use Rattle.std.proofs.lemmas.Bool.Decides.{nat_tests}
use Rattle.std.proofs.lemmas.Nat.{mod_below, pow_pos, shr_below, shr_split}
use Rattle.std.proofs.Math.Nat.{pow-suc, pow-le-pow_right}
use Rattle.protocol_model.specs.Search.{least_from}
use Rattle.protocol_model.specs.Bits.{int_width}
use Rattle.protocol_laws.specs.IntWidth.{IsIntWidth}
use Rattle.protocol_laws.proofs.Digits.{mod-mod-le}

-- k is the least number from start on that passes, and there are at most so many before it
record IsLeast (test : ℕ → Bool) (many start k : ℕ) : Type 0 where
  pub passes : test k ≡ true
  pub fails : (i : ℕ) → start ≤ i → i < k → test i ≡ false
  pub from : start ≤ k
  pub within : k ≤ start + many

later : (test : ℕ → Bool) (many start k : ℕ) → test start ≡ false → IsLeast test many (start + 1) k → IsLeast test (suc many) start k
later test many start k here h = record {
  passes = h.passes;
  fails = λ i low high. fails_from (nat_le i start) i low high refl;
  from = let f = h.from in omega (arith, f);
  within = let w = h.within in omega (arith, w);
}
  where
    fails_from : (b : Bool) (i : ℕ) → start ≤ i → i < k → nat_le i start ≡ b → test i ≡ false
    fails_from true i low high t = let e : start ≡ i = grind (arith, nat_tests) in subst (λ (m : ℕ). test m ≡ false) e here
    fails_from false i low high t = let l : start + 1 ≤ i = grind (arith, nat_tests) in h.fails i l high

least_where : (b : Bool) (test : ℕ → Bool) (many start : ℕ) → test start ≡ b → IsLeast test many (start + 1) (least_from test many (start + 1)) → IsLeast test (suc many) start (least_from test (suc many) start)
least_where true test many start t h = rw t (record {
  passes = t;
  fails = λ i low high. absurd (omega arith);
  from = omega arith;
  within = omega arith;
})
least_where false test many start t h = rw t (later test many start _ t h)

moved : (test : ℕ → Bool) (many start : ℕ) → test (start + suc many) ≡ true → test (start + 1 + many) ≡ true
moved test many start h = let e : start + suc many ≡ start + 1 + many = omega arith in subst (λ (m : ℕ). test m ≡ true) e h

least_from-least : (test : ℕ → Bool) (many start : ℕ) → test (start + many) ≡ true → IsLeast test many start (least_from test many start)
least_from-least test zero start h = let e : start + 0 ≡ start = omega arith in record {
  passes = subst (λ (m : ℕ). test m ≡ true) e h;
  fails = λ i low high. absurd (omega arith);
  from = omega arith;
  within = omega arith;
}
least_from-least test (suc many) start h = least_where (test start) test many start refl (least_from-least test many (start + 1) (moved test many start h))

width_least : (max n : ℕ) → max ≤ 2 ^ 32 → IsLeast (λ i. nat_le max (n % 2 ^ i + 2 ^ i)) 32 0 (int_width max n)
unfolding int_width
width_least max n h = least_from-least (λ i. nat_le max (n % 2 ^ i + 2 ^ i)) 32 0 (le-leb max (n % 2 ^ 32 + 2 ^ 32) (omega arith))

-- the width that the format names is the least that is enough
pub int_width-least : (max n : ℕ) → max ≤ 2 ^ 32 → IsIntWidth max n (int_width max n)
int_width-least max n h =
    let w = width_least max n h in
    record {
      enough = leb-true _ _ w.passes;
      least = λ i l. leb-false _ _ (w.fails i (omega arith) l);
    }

pub int_width_bound : (max n : ℕ) → max ≤ 2 ^ 32 → int_width max n ≤ 32
int_width_bound max n h = let w = width_least max n h in let b = w.within in omega (arith, b)

same_where : (b c : Bool) (max n k j : ℕ) → IsIntWidth max n k → IsIntWidth max n j → nat_lt k j ≡ b → nat_lt j k ≡ c → k ≡ j
same_where true c max n k j p q s t =
    let less : k < j = grind (arith, nat_tests) in
    let no = q.least k less in
    let yes = p.enough in absurd (omega (arith, no, yes))
same_where false true max n k j p q s t =
    let less : j < k = grind (arith, nat_tests) in
    let no = p.least j less in
    let yes = q.enough in absurd (omega (arith, no, yes))
same_where false false max n k j p q s t = grind (arith, nat_tests)

-- there is one such width
pub int_width-is : (max n k : ℕ) → max ≤ 2 ^ 32 → IsIntWidth max n k → int_width max n ≡ k
int_width-is max n k h p = same_where (nat_lt (int_width max n) k) (nat_lt k (int_width max n)) max n (int_width max n) k (int_width-least max n h) p refl refl

-- numbers that agree up to the width of one have the same width
pub width_along : (max n m k : ℕ) → IsIntWidth max n k → n % 2 ^ k ≡ m % 2 ^ k → IsIntWidth max m k
width_along max n m k p e = record {
  enough = let w = p.enough in omega (arith, e, w);
  least = λ i l.
      let a : n % 2 ^ i ≡ m % 2 ^ i = sym (mod-mod-le n i k (omega (arith, l))) ∙ ap (λ x. x % 2 ^ i) e ∙ mod-mod-le m i k (omega (arith, l)) in
      let w = p.least i l in omega (arith, a, w);
}

one_factor : (q p : ℕ) → q < 2 → q * p ≤ p
one_factor q p h = grind arith

no_factor : (q p : ℕ) → q * p < p → q ≡ 0
no_factor zero p h = refl
no_factor (suc q) p h = absurd (omega arith)

under_twice : (m k : ℕ) → m < 2 ^ suc k → m ≤ m % 2 ^ k + 2 ^ k
under_twice m k h =
    let s : suc k ≡ 1 + k = omega arith in
    let q : m / 2 ^ k < 2 = shr_below m 1 k (subst (λ (j : ℕ). m < 2 ^ j) s h) in
    omega (arith, shr_split m k, one_factor (m / 2 ^ k) (2 ^ k) q)

-- the lowest bits, as many as the width, make a number below the bound
pub width_value_below : (max n k : ℕ) → 1 ≤ max → IsIntWidth max n k → n % 2 ^ k < max
width_value_below max n zero one p = omega arith
width_value_below max n (suc k) one p =
    let w = p.least k (omega arith) in
    let m = n % 2 ^ suc k in
    let twice = under_twice m k (mod_below n (2 ^ suc k) (pow_pos (suc k))) in
    omega (arith, w, twice, mod-mod-le n k (suc k) (omega arith))

-- a number below the bound has no more bits than its width
pub width_holds : (max v k : ℕ) → v < max → IsIntWidth max v k → v < 2 ^ k
width_holds max v k below p =
    let w = p.enough in
    let low : v % 2 ^ k < 2 ^ k = mod_below v (2 ^ k) (pow_pos k) in
    let split = shr_split v k in
    let none : v / 2 ^ k ≡ 0 = no_factor (v / 2 ^ k) (2 ^ k) (omega (arith, w, below, split)) in
    let whole : v ≡ 0 * 2 ^ k + v % 2 ^ k = subst (λ (q : ℕ). v ≡ q * 2 ^ k + v % 2 ^ k) none (sym split) in
    omega (arith, whole, low)

lower_short : (max n j i : ℕ) → 2 ^ j ≤ max - 1 → i < j → n % 2 ^ i + 2 ^ i < max
lower_short max n j i top l =
    let low : n % 2 ^ i < 2 ^ i = mod_below n (2 ^ i) (pow_pos i) in
    let up : 2 ^ suc i ≤ 2 ^ j = pow-le-pow_right {n = 2} (omega arith) {i = suc i} {j = j} (omega arith) in
    omega (arith, low, up, pow-suc 2 i)

-- one bit fewer than the greatest number below the bound has, where that is enough
pub width_fewer : (max n j : ℕ) → 2 ^ j ≤ max - 1 → max ≤ n % 2 ^ j + 2 ^ j → IsIntWidth max n j
width_fewer max n j top enough = record {
  enough = enough;
  least = λ i l. lower_short max n j i top l;
}

-- and as many as it has otherwise
pub width_most : (max n j : ℕ) → 2 ^ j ≤ max - 1 → max - 1 < 2 ^ suc j → n % 2 ^ j + 2 ^ j < max → IsIntWidth max n (suc j)
width_most max n j top bound short = record {
  enough = omega (arith, bound);
  least = λ i l. least_at (nat_lt i j) i l refl;
}
  where
    least_at : (b : Bool) (i : ℕ) → i < suc j → nat_lt i j ≡ b → n % 2 ^ i + 2 ^ i < max
    least_at true i l t = lower_short max n j i top (grind (arith, nat_tests))
    least_at false i l t = let e : j ≡ i = grind (arith, nat_tests) in subst (λ (m : ℕ). n % 2 ^ m + 2 ^ m < max) e short

pub width_none : (max n : ℕ) → max ≤ 1 → IsIntWidth max n 0
width_none max n h = record { enough = omega arith; least = λ i l. absurd (omega (arith, l)) }
