-- Packed numbers are read back as they were spelled, and only spelled ones are read.
use Rattle.std.proofs.Common.{◌≡◌, ◌≢◌, ℕ, zero, suc, ◌<◌, ◌≤◌, ◌+◌, ◌-◌, ◌*◌, ◌/◌, ◌%◌, ◌^◌, ◌==◌, ◌&&◌, ◌||◌, not, List, [], ◌++◌, Bool, true, false, nat_lt, Option, Some, None, Result, Ok, Err, refl, sym, ap, ◌∙◌, subst, arith, append_assoc, append-nil}
use Rattle.std.specs.Prelude.{IsErr, ◌↔◌}
use Rattle.std.proofs.lemmas.Bool.Decides.{nat_tests}
use Rattle.std.proofs.lemmas.Nat.{shr_below}
use Rattle.protocol_model.specs.declared.NumRefusal.{NumRefusal}
use Rattle.protocol_model.specs.Bits.{digits, packed_in, packed_bits}
use Rattle.protocol_model.specs.Numbers.{leading_fixed, leading_groups, leading_packed}
use Rattle.protocol_laws.proofs.Reading.{leading_fixed-append, leading_fixed-spelled}
use Rattle.protocol_laws.proofs.PackedReading.{groups-none, groups-short, groups-more, groups-more_err, groups-padded, groups-last, more_below, last_below}
use Rattle.protocol_laws.proofs.PackedWriting.{packed_in-more, packed_in-last}

not_both : (why : NumRefusal) (x : ℕ × List Bool) → Err why ≡ Ok x → ⊥
not_both why x h = cc

same_ok : (p q : ℕ × List Bool) → ◌≡◌ {A = Result (ℕ × List Bool) NumRefusal} (Ok p) (Ok q) → p ≡ q
same_ok p q h = cc

-- equal answers have equal parts
pub same_packed : (v w : ℕ) (xs ys : List Bool) → ◌≡◌ {A = Result (ℕ × List Bool) NumRefusal} (Ok (v, xs)) (Ok (w, ys)) → (v ≡ w) × (xs ≡ ys)
same_packed v w xs ys h = let e = same_ok (v, xs) (w, ys) h in (ap (λ (r : ℕ × List Bool). r.0) e, ap (λ (r : ℕ × List Bool). r.1) e)

last_test : (g v : ℕ) (first : Bool) → (first ≡ false → 0 < v) → v < 2 ^ (7 * suc g - 3) → ((v == 0 && not first) || (suc g == 1 && nat_lt 15 v)) ≡ false
last_test zero v true f h = grind (arith, nat_tests)
last_test zero v false f h = let p : 0 < v = f refl in grind (arith, nat_tests)
last_test (suc g) v true f h = grind (arith, nat_tests)
last_test (suc g) v false f h = let p : 0 < v = f refl in grind (arith, nat_tests)

rest_high : (g v : ℕ) → 1 ≤ g → v < 2 ^ (7 * suc g - 3) → v / 128 < 2 ^ (7 * g - 3)
rest_high g v one h =
    let e : 7 * suc g - 3 ≡ 7 * g - 3 + 7 = omega arith in
    shr_below v (7 * g - 3) 7 (subst (λ (m : ℕ). v < 2 ^ m) e h)

some_rest : (g v : ℕ) → 128 ≤ v → v < 2 ^ (7 * suc g - 3) → 1 ≤ g
some_rest zero v l h = absurd (omega (arith, h, l))
some_rest (suc g) v l h = omega arith

read_where : (b : Bool) (g v : ℕ) (first : Bool) (rest : List Bool) → nat_lt v 128 ≡ b → v < 2 ^ (7 * suc g - 3) → (first ≡ false → 0 < v)
    → (1 ≤ g → v / 128 < 2 ^ (7 * g - 3) → 0 < v / 128 → leading_groups g false (packed_in g (v / 128) ++ rest) ≡ Ok (v / 128, rest))
    → leading_groups (suc g) first (packed_in (suc g) v ++ rest) ≡ Ok (v, rest)
read_where true g v first rest b h f ih =
    let small : v < 128 = grind (arith, nat_tests) in
    let half : 2 * v / 2 ≡ v = omega arith in
    let front : leading_fixed 8 (digits 8 (2 * v) ++ rest) ≡ Some (2 * v, rest) = leading_fixed-append 8 (2 * v) rest (omega arith) in
    let test : ((2 * v / 2 == 0 && not first) || (suc g == 1 && nat_lt 15 (2 * v / 2))) ≡ false = rw half (last_test g v first f h) in
    let even : 2 * v % 2 ≢ 1 = λ e. absurd (omega (arith, e)) in
    ap (λ bits. leading_groups (suc g) first (bits ++ rest)) (packed_in-last g v small)
    ∙ groups-last (suc g) g first (digits 8 (2 * v) ++ rest) rest (2 * v) refl front even test
    ∙ ap (λ (n : ℕ). Ok (n, rest)) half
read_where false g v first rest b h f ih =
    let large : 128 ≤ v = grind (arith, nat_tests) in
    let one = some_rest g v large h in
    let group = 2 * (v % 128) + 1 in
    let back = packed_in g (v / 128) ++ rest in
    let front : leading_fixed 8 (digits 8 group ++ back) ≡ Some (group, back) = leading_fixed-append 8 group back (omega arith) in
    let odd : group % 2 ≡ 1 = omega arith in
    let whole : group / 2 + 128 * (v / 128) ≡ v = omega arith in
    ap (λ bits. leading_groups (suc g) first (bits ++ rest)) (packed_in-more g v large)
    ∙ ap (leading_groups (suc g) first) (append_assoc (digits 8 group) (packed_in g (v / 128)) rest)
    ∙ groups-more (suc g) g first (digits 8 group ++ back) back rest group (v / 128) refl front odd (ih one (rest_high g v one h) (omega (arith, large)))
    ∙ ap (λ (n : ℕ). Ok (n, rest)) whole

-- a number of so many groups is read as it was spelled
pub groups-read : (groups v : ℕ) (first : Bool) (rest : List Bool) → 1 ≤ groups → v < 2 ^ (7 * groups - 3) → (first ≡ false → 0 < v) → leading_groups groups first (packed_in groups v ++ rest) ≡ Ok (v, rest)
groups-read zero v first rest some h f = absurd (omega arith)
groups-read (suc g) v first rest some h f = read_where (nat_lt v 128) g v first rest refl h f (λ one b p. groups-read g (v / 128) false rest one b (λ _. p))

-- what is read was spelled
pub record Spelled (groups : ℕ) (first : Bool) (bits : List Bool) (v : ℕ) (rest : List Bool) : Type 0 where
  pub below : v < 2 ^ (7 * groups - 3)
  pub some : 1 ≤ groups
  pub positive : first ≡ false → 0 < v
  pub spelling : bits ≡ packed_in groups v ++ rest

last_positive : (v groups : ℕ) (first : Bool) → ((v == 0 && not first) || (groups == 1 && nat_lt 15 v)) ≡ false → first ≡ false → 0 < v
last_positive v groups true t e = absurd (cc)
last_positive v groups false t e = grind (arith, nat_tests)

spelled_last : (t : Bool) (g : ℕ) (first : Bool) (bits after rest : List Bool) (group v : ℕ) → leading_fixed 8 bits ≡ Some (group, after) → group % 2 ≢ 1
    → ((group / 2 == 0 && not first) || (suc g == 1 && nat_lt 15 (group / 2))) ≡ t → leading_groups (suc g) first bits ≡ Ok (v, rest) → Spelled (suc g) first bits v rest
spelled_last true g first bits after rest group v h even t r =
    absurd (not_both _ (v, rest) (sym (groups-padded (suc g) g first bits after group refl h even t) ∙ r))
spelled_last false g first bits after rest group v h even t r =
    let parts = same_packed (group / 2) v after rest (sym (groups-last (suc g) g first bits after group refl h even t) ∙ r) in
    let front = leading_fixed-spelled 8 group bits after h in
    let whole : 2 * (group / 2) ≡ group = omega (arith, even) in
    rw (← parts.0, ← parts.1) (record {
      below = last_below (suc g) (group / 2) first (omega arith) (omega (arith, front.0)) t;
      some = omega arith;
      positive = last_positive (group / 2) (suc g) first t;
      spelling = front.1 ∙ ap (λ n. digits 8 n ++ after) (sym whole) ∙ ap (λ bits. bits ++ after) (sym (packed_in-last g (group / 2) (omega (arith, front.0))));
    })

spelled_more : (o : Result (ℕ × List Bool) NumRefusal) (g : ℕ) (first : Bool) (bits after rest : List Bool) (group v : ℕ) → leading_fixed 8 bits ≡ Some (group, after) → group % 2 ≡ 1
    → leading_groups g false after ≡ o → ((w : ℕ) (more : List Bool) → leading_groups g false after ≡ Ok (w, more) → Spelled g false after w more)
    → leading_groups (suc g) first bits ≡ Ok (v, rest) → Spelled (suc g) first bits v rest
spelled_more (Err why) g first bits after rest group v h odd e ih r =
    absurd (not_both why (v, rest) (sym (groups-more_err (suc g) g first bits after group why refl h odd e) ∙ r))
spelled_more (Ok (w, more)) g first bits after rest group v h odd e ih r =
    let parts = same_packed (group / 2 + 128 * w) v more rest (sym (groups-more (suc g) g first bits after more group w refl h odd e) ∙ r) in
    let front = leading_fixed-spelled 8 group bits after h in
    let back = ih w more e in
    let value = group / 2 + 128 * w in
    let some : 0 < w = back.positive refl in
    let digit : value % 128 ≡ group / 2 = omega (arith, front.0) in
    let high : value / 128 ≡ w = omega (arith, front.0) in
    let whole : 2 * (value % 128) + 1 ≡ group = omega (arith, odd, digit) in
    let spelling : packed_in (suc g) value ≡ digits 8 group ++ packed_in g w = packed_in-more g value (omega (arith, some)) ∙ rw (whole, high) refl in
    rw (← parts.0, ← parts.1) (record {
      below = more_below (suc g) g (group / 2) w refl back.some (omega (arith, front.0)) back.below;
      some = omega arith;
      positive = λ _. omega (arith, some);
      spelling = front.1 ∙ ap (λ bits. digits 8 group ++ bits) back.spelling ∙ sym (append_assoc (digits 8 group) (packed_in g w) more) ∙ ap (λ bits. bits ++ more) (sym spelling);
    })

parity_true : (group : ℕ) → (group % 2 == 1) ≡ true → group % 2 ≡ 1
parity_true group h = grind (arith, nat_tests)

parity_false : (group : ℕ) → (group % 2 == 1) ≡ false → group % 2 ≢ 1
parity_false group h = λ e. absurd (grind (arith, nat_tests))

spelled_group : (b : Bool) (g : ℕ) (first : Bool) (bits after rest : List Bool) (group v : ℕ) → leading_fixed 8 bits ≡ Some (group, after) → (group % 2 == 1) ≡ b
    → ((w : ℕ) (more : List Bool) → leading_groups g false after ≡ Ok (w, more) → Spelled g false after w more)
    → leading_groups (suc g) first bits ≡ Ok (v, rest) → Spelled (suc g) first bits v rest
spelled_group true g first bits after rest group v h b ih r = spelled_more (leading_groups g false after) g first bits after rest group v h (parity_true group b) refl ih r
spelled_group false g first bits after rest group v h b ih r =
    spelled_last ((group / 2 == 0 && not first) || (suc g == 1 && nat_lt 15 (group / 2))) g first bits after rest group v h (parity_false group b) refl r

spelled_first : (o : Option (ℕ × List Bool)) (g : ℕ) (first : Bool) (bits rest : List Bool) (v : ℕ) → leading_fixed 8 bits ≡ o
    → ((after : List Bool) (w : ℕ) (more : List Bool) → leading_groups g false after ≡ Ok (w, more) → Spelled g false after w more)
    → leading_groups (suc g) first bits ≡ Ok (v, rest) → Spelled (suc g) first bits v rest
spelled_first None g first bits rest v h ih r = absurd (not_both _ (v, rest) (sym (groups-short (suc g) g first bits refl h) ∙ r))
spelled_first (Some (group, after)) g first bits rest v h ih r = spelled_group (group % 2 == 1) g first bits after rest group v h refl (ih after) r

pub groups-spelled : (groups : ℕ) (first : Bool) (bits rest : List Bool) (v : ℕ) → leading_groups groups first bits ≡ Ok (v, rest) → Spelled groups first bits v rest
groups-spelled zero first bits rest v r = absurd (not_both _ (v, rest) (sym (groups-none zero first bits refl) ∙ r))
groups-spelled (suc g) first bits rest v r = spelled_first (leading_fixed 8 bits) g first bits rest v refl (λ after w more e. groups-spelled g false after more w e) r

-- a packed number is read as it was spelled
pub packed-read : (v : ℕ) (rest : List Bool) → v < 2 ^ 32 → leading_packed (packed_bits v ++ rest) ≡ Ok (v, rest)
packed-read v rest h = groups-read 5 v true rest (omega arith) (omega arith) (λ e. absurd (cc))

-- only a packed number that was spelled is read
pub packed-spelled : (v : ℕ) (bits rest : List Bool) → leading_packed bits ≡ Ok (v, rest) → (v < 2 ^ 32) × (bits ≡ packed_bits v ++ rest)
packed-spelled v bits rest h = let s = groups-spelled 5 true bits rest v h in let b = s.below in (omega (arith, b), s.spelling)

pub packed-alone : (v w : ℕ) (more : List Bool) → v < 2 ^ 32 → w < 2 ^ 32 → packed_bits w ≡ packed_bits v ++ more → (v ≡ w) × (more ≡ [])
packed-alone v w more a b h =
    same_packed v w more [] (sym (packed-read v more a) ∙ ap leading_packed (sym h ∙ sym (append-nil (packed_bits w))) ∙ packed-read w [] b)

refused_where : (o : Result (ℕ × List Bool) NumRefusal) (bits : List Bool) → leading_packed bits ≡ o → ((v : ℕ) (rest : List Bool) → v < 2 ^ 32 → bits ≢ packed_bits v ++ rest) → IsErr o
refused_where (Err why) bits h none = refl
refused_where (Ok (v, rest)) bits h none = let s = packed-spelled v bits rest h in absurd (none v rest s.0 s.1)

is_err_not : (x : ℕ × List Bool) (o : Result (ℕ × List Bool) NumRefusal) → IsErr o → o ≡ Ok x → ⊥
is_err_not x (Err why) e h = cc
is_err_not x (Ok y) e h = cc

pub packed-refused : (bits : List Bool) → IsErr (leading_packed bits) ↔ ((v : ℕ) (rest : List Bool) → v < 2 ^ 32 → bits ≢ packed_bits v ++ rest)
packed-refused bits = (
  λ e v rest small h. is_err_not (v, rest) (leading_packed bits) e (ap leading_packed h ∙ packed-read v rest small),
  refused_where (leading_packed bits) bits refl,
)
