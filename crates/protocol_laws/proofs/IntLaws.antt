-- Numbers below a bound are read back as they were spelled, and only spelled ones are read.
use Rattle.std.proofs.Common.{◌≡◌, ◌≢◌, ℕ, ◌<◌, ◌≤◌, ◌+◌, ◌-◌, ◌*◌, ◌%◌, ◌^◌, List, [], ◌∷◌, ◌++◌, Bool, Option, Some, None, refl, sym, ap, ◌∙◌, subst, arith, length, take, append-nil}
use Rattle.std.specs.Prelude.{◌↔◌}
use Rattle.std.proofs.Math.Seq.{take-append-add}
use Rattle.std.proofs.Math.Nat.{mod-eq_of_lt, add-mul-mod_self_right}
use Rattle.protocol_model.specs.Bits.{digits, number_of, int_width, int_bits}
use Rattle.protocol_model.specs.Numbers.{leading_fixed, leading_int}
use Rattle.protocol_laws.proofs.Digits.{length-digits, mod-mod-le, twice}
use Rattle.protocol_laws.proofs.Reading.{leading_fixed-append, leading_fixed-spelled, number_of-digits, same_read}
use Rattle.protocol_laws.proofs.Widths.{int_width-least, int_width-is, int_width_bound, width_along, width_value_below, width_holds}

pub number_of-append : (xs ys : List Bool) → number_of (xs ++ ys) ≡ number_of xs + number_of ys * 2 ^ length xs
number_of-append [] ys = omega arith
number_of-append (x ∷ xs) ys = omega (arith, number_of-append xs ys, twice (number_of ys) (length xs))

low_of : (v p m k : ℕ) → v ≡ p + m * 2 ^ k → v % 2 ^ k ≡ p % 2 ^ k
low_of v p m k h = ap (λ n. n % 2 ^ k) h ∙ add-mul-mod_self_right p m (2 ^ k)

-- the bits ahead, where digits begin them, agree with the number up to its digits
pub ahead_of : (k v : ℕ) (rest : List Bool) → k ≤ 32 → number_of (take 32 (digits k v ++ rest)) % 2 ^ k ≡ v % 2 ^ k
ahead_of k v rest h =
    let len = length-digits k v in
    let e : length (digits k v) + (32 - k) ≡ 32 = omega (arith, len) in
    let front : take 32 (digits k v ++ rest) ≡ digits k v ++ take (32 - k) rest = ap (λ m. take m (digits k v ++ rest)) (sym e) ∙ take-append-add (digits k v) rest (32 - k) in
    let sum : number_of (take 32 (digits k v ++ rest)) ≡ v % 2 ^ k + number_of (take (32 - k) rest) * 2 ^ k =
    ap number_of front ∙ number_of-append (digits k v) (take (32 - k) rest) ∙ rw (number_of-digits k v, len) refl in
    low_of (number_of (take 32 (digits k v ++ rest))) (v % 2 ^ k) (number_of (take (32 - k) rest)) k sum ∙ mod-mod-le v k k (omega arith)

-- a number below a bound is read as it was spelled
pub int-read : (max v : ℕ) (rest : List Bool) → v < max → max ≤ 2 ^ 32 → leading_int max (int_bits max v ++ rest) ≡ Some (v, rest)
int-read max v rest below m =
    let k = int_width max v in
    let least = int_width-least max v m in
    let n = number_of (take 32 (digits k v ++ rest)) in
    let same : v % 2 ^ k ≡ n % 2 ^ k = sym (ahead_of k v rest (int_width_bound max v m)) in
    let width : int_width max n ≡ k = int_width-is max n k m (width_along max v n k least same) in
    ap (λ j. leading_fixed j (digits k v ++ rest)) width ∙ leading_fixed-append k v rest (width_holds max v k below least)

-- only a number below the bound that was spelled is read
pub int-spelled : (max v : ℕ) (bits rest : List Bool) → 1 ≤ max → max ≤ 2 ^ 32 → leading_int max bits ≡ Some (v, rest) → (v < max) × (bits ≡ int_bits max v ++ rest)
int-spelled max v bits rest one m h =
    let n = number_of (take 32 bits) in
    let k = int_width max n in
    let least = int_width-least max n m in
    let read = leading_fixed-spelled k v bits rest h in
    let same : n % 2 ^ k ≡ v % 2 ^ k = ap (λ xs. number_of (take 32 xs) % 2 ^ k) read.1 ∙ ahead_of k v rest (int_width_bound max n m) in
    let value : n % 2 ^ k ≡ v = same ∙ mod-eq_of_lt read.0 in
    let width : int_width max v ≡ k = int_width-is max v k m (width_along max n v k least same) in (
      subst (λ (x : ℕ). x < max) value (width_value_below max n k one least),
      read.1 ∙ ap (λ j. digits j v ++ rest) (sym width),
    )

pub int-alone : (max v w : ℕ) (more : List Bool) → v < max → w < max → max ≤ 2 ^ 32 → int_bits max w ≡ int_bits max v ++ more → (v ≡ w) × (more ≡ [])
int-alone max v w more a b m h =
    same_read v w more [] (sym (int-read max v more a m) ∙ ap (leading_int max) (sym h ∙ sym (append-nil (int_bits max w))) ∙ int-read max w [] b m)

not_read : (x : ℕ × List Bool) → None ≡ Some x → ⊥
not_read x h = cc

refused_where : (o : Option (ℕ × List Bool)) (max : ℕ) (bits : List Bool) → 1 ≤ max → max ≤ 2 ^ 32 → leading_int max bits ≡ o → ((v : ℕ) (rest : List Bool) → v < max → bits ≢ int_bits max v ++ rest) → o ≡ None
refused_where None max bits one m h none = refl
refused_where (Some (v, rest)) max bits one m h none = let s = int-spelled max v bits rest one m h in absurd (none v rest s.0 s.1)

pub int-refused : (max : ℕ) (bits : List Bool) → 1 ≤ max → max ≤ 2 ^ 32 → (leading_int max bits ≡ None) ↔ ((v : ℕ) (rest : List Bool) → v < max → bits ≢ int_bits max v ++ rest)
int-refused max bits one m = (
  λ e v rest small h. not_read (v, rest) (sym e ∙ ap (leading_int max) h ∙ int-read max v rest small m),
  refused_where (leading_int max bits) max bits one m refl,
)
