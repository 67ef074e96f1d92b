-- A packed number gathered in a word, a group a turn.
use Rattle.std.proofs.Common.{◌≡◌, ℕ, suc, ◌<◌, ◌≤◌, ◌+◌, ◌-◌, ◌*◌, ◌/◌, ◌%◌, ◌^◌, List, ◌++◌, Bool, true, false, nat_le, refl, sym, ap, ◌∙◌, subst, arith, append_assoc}
use Rattle.std.proofs.lemmas.Bool.Decides.{nat_tests}
use Rattle.std.proofs.Math.Nat.{pow-le-pow_right}
use Rattle.std.proofs.lemmas.Nat.{mul-add-lt, pow-add, shr_below}
use Rattle.protocol_model.specs.Bits.{digits, packed_in}
use Rattle.protocol_laws.proofs.Digits.{digits-append}
use Rattle.protocol_laws.proofs.PackedWriting.{packed_in-more, packed_in-last}

-- one more group of the word
pub word_more : (width word rest groups : ℕ) (bits : List Bool) → word < 2 ^ width → 128 ≤ rest → digits width word ++ packed_in (suc groups) rest ≡ bits
    → digits (width + 8) (word + (2 * (rest % 128) + 1) * 2 ^ width) ++ packed_in groups (rest / 128) ≡ bits
word_more width word rest groups bits b l h =
    ap (λ front. front ++ packed_in groups (rest / 128)) (digits-append width 8 word (2 * (rest % 128) + 1) b)
    ∙ append_assoc (digits width word) (digits 8 (2 * (rest % 128) + 1)) (packed_in groups (rest / 128))
    ∙ ap (λ back. digits width word ++ back) (sym (packed_in-more groups rest l)) ∙ h

pub word_last : (width word rest groups : ℕ) (bits : List Bool) → word < 2 ^ width → rest < 128 → digits width word ++ packed_in (suc groups) rest ≡ bits
    → digits (width + 8) (word + 2 * rest * 2 ^ width) ≡ bits
word_last width word rest groups bits b l h =
    digits-append width 8 word (2 * rest) b ∙ ap (λ back. digits width word ++ back) (sym (packed_in-last groups rest l)) ∙ h

-- the groups of a number below 2 ^ 32 come to an end
pub few_groups : (k rest : ℕ) → k ≤ 4 → 128 ≤ rest → rest < 2 ^ (32 - 7 * k) → k ≤ 3
few_groups k rest four l h = few_where (nat_le k 3) refl
  where
    few_where : (t : Bool) → nat_le k 3 ≡ t → k ≤ 3
    few_where true t = grind (arith, nat_tests)
    few_where false t =
        let e : k ≡ 4 = grind (arith, nat_tests) in
        let below : rest < 2 ^ (32 - 7 * 4) = subst (λ (m : ℕ). rest < 2 ^ (32 - 7 * m)) e h in
        absurd (omega (arith, below, l))

pub rest_below : (k rest : ℕ) → k ≤ 3 → rest < 2 ^ (32 - 7 * k) → rest / 128 < 2 ^ (32 - 7 * (k + 1))
rest_below k rest three h =
    let e : 32 - 7 * k ≡ 32 - 7 * (k + 1) + 7 = omega arith in
    shr_below rest (32 - 7 * (k + 1)) 7 (subst (λ (m : ℕ). rest < 2 ^ m) e h)

-- a group above the word fits
pub word_below : (width word group : ℕ) → word < 2 ^ width → group < 256 → word + group * 2 ^ width < 2 ^ (width + 8)
word_below width word group b g =
    let low : group * 2 ^ width + word < 2 ^ width * 256 = mul-add-lt group (2 ^ width) word 256 g b in
    omega (arith, low, pow-add 2 width 8)

pub word_fits : (width word group : ℕ) → width ≤ 32 → word < 2 ^ width → group < 256 → word + group * 2 ^ width < 2 ^ 40
word_fits width word group w b g =
    let top : 2 ^ (width + 8) ≤ 2 ^ 40 = pow-le-pow_right {n = 2} (omega arith) {i = width + 8} {j = 40} (omega arith) in
    omega (arith, top, word_below width word group b g)
