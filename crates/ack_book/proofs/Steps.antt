-- Steps over plain numbers and tests.
use Rattle.std.proofs.Common.{◌≡◌, ℕ, suc, ◌+◌, ◌-◌, ◌%◌, ◌<◌, ◌≤◌, List, [], ◌∷◌, ◌++◌, length, take, drop, reverse, Bool, true, false, ◌||◌, ◌==◌, nat_lt, if◌then◌else◌, refl, sym, ap, ◌∙◌, subst, arith, slice_index_or, slice_set, ⊎_elim, None, ℤ, pos, negsuc, ◌≤ℤ◌}
use Rattle.std.proofs.lemmas.Bool.{cases_lt}
use Rattle.std.proofs.lemmas.Bool.Decides.{nat_tests}
use Rattle.std.proofs.lemmas.List.{get_or-set_same, get_or-set_other, length-take-le, length-reverse, length-append, take_more, reverse-append, take_all}
use Rattle.std.proofs.lemmas.Int.{ints}
use Rattle.std.specs.Bool.{then_some}
use Rattle.std.specs.List.{cons_option}
use Rattle.circular_buffer.specs.Buffer.{Buffer, buffer, keep_last}
use Rattle.connection_model.specs.Fates.{number_above}
use Rattle.protocol_model.specs.Search.{is_among, greatest_of}
use Rattle.protocol_laws.proofs.Greatest.{among_above}

-- what a place of the ring has after it is marked up to n
pub at_place : (high n k : ℕ) (r m : Bool) → k ≤ n → (k ≡ n → r ≡ true) → (high < k → k < n → r ≡ false) → (k ≤ high → r ≡ m)
    → (high < k → m ≡ false) → r ≡ ((n == k) || m)
at_place high n k r m low at between below above = grind (arith, nat_tests)

-- the other branch, where two numbers differ
pub if_other : {A : Type 0} (n k : ℕ) (x y z : A) → k < n → z ≡ y → z ≡ (if n == k then x else y)
if_other n k x y z h e = grind (arith, nat_tests)

pub if_same : {A : Type 0} (n k : ℕ) (x y z : A) → n ≡ k → z ≡ x → z ≡ (if n == k then x else y)
if_same n k x y z h e = grind (arith, nat_tests)

apart : (n s : ℕ) → n < s → s < n + 4096 → n % 4096 ≡ s % 4096 → s < n
apart n s h g e = omega arith

-- a ring of 4,096 places after a write at s's place
pub told_at : (told : List ℕ) (s n top other : ℕ) → length told ≡ 4096 → n ≤ s → s ≤ n + 4095
    → (n < s → slice_index_or told (n % 4096) 0 ≡ other)
    → slice_index_or (slice_set told (s % 4096) top) (n % 4096) 0 ≡ (if s == n then top else other)
told_at told s n top other len low near before =
    ⊎_elim (λ (h : n < s). if_other s n top other _ h
    (get_or-set_other told (s % 4096) (n % 4096) top 0 (λ e. absurd (omega (arith, apart n s h (omega arith) e))) ∙ before h))
    (λ (h : s ≤ n). let e : s ≡ n = omega arith in if_same s n top other _ e
    (rw (← e) (get_or-set_same told (s % 4096) top 0 (omega arith))))
    (cases_lt n s)

bit_cases : (number top i r b : ℕ) (m m2 : Bool) → top < number → (i < number - top → 0 < i → m ≡ false)
    → (number - top ≤ i → m ≡ m2) → (number - top ≤ i → b ≡ (if m2 then 1 else 0))
    → r ≡ (if i == 0 then 1 else (if nat_lt i (number - top) then 0 else b))
    → r ≡ (if ((number == (number - i)) || m) then 1 else 0)
bit_cases number top i r b m m2 above new old bit is = grind (arith, nat_tests)

-- a bit of the history after a number above the greatest was taken
pub bit_taken : (number top i r : ℕ) (taken : List ℕ) (bit : ℕ → ℕ) → greatest_of taken ≡ top → top < number → i < 256
    → ((j : ℕ) → j < 256 → bit j ≡ (if is_among (top - j) taken then 1 else 0))
    → r ≡ (if i == 0 then 1 else (if nat_lt i (number - top) then 0 else bit (i - (number - top))))
    → r ≡ (if is_among (number - i) (number ∷ taken) then 1 else 0)
bit_taken number top i r taken bit e above in_range before is =
    bit_cases number top i r (bit (i - (number - top))) (is_among (number - i) taken) (is_among (top - (i - (number - top))) taken) above
    (λ h pos. among_above (number - i) taken (omega arith))
    (λ h. let same : number - i ≡ top - (i - (number - top)) = omega arith in ap (λ k. is_among k taken) same)
    (λ h. before (i - (number - top)) (omega arith))
    is

reverse_more : (n : ℕ) (ns : List ℕ) → reverse (n ∷ ns) ≡ reverse ns ++ n ∷ []
reverse_more n ns = reverse-append (n ∷ []) ns

full_ring : (x n m : ℕ) (rs : List ℕ) → length rs ≡ m → drop (length ((x ∷ rs) ++ n ∷ []) - suc m) ((x ∷ rs) ++ n ∷ []) ≡ rs ++ n ∷ []
full_ring x n m rs e =
    let one : length ((x ∷ rs) ++ n ∷ []) - suc m ≡ 1 = omega (arith, length-append rs (n ∷ []), e) in
    rw one refl

newest_more : (m : ℕ) (ns : List ℕ) (n : ℕ)
    → drop (length (reverse (take (suc m) ns) ++ n ∷ []) - suc m) (reverse (take (suc m) ns) ++ n ∷ []) ≡ reverse (take m ns) ++ n ∷ []
newest_more m ns n =
    let P : List ℕ → Type 0 = λ xs. drop (length (reverse xs ++ n ∷ []) - suc m) (reverse xs ++ n ∷ []) ≡ reverse (take m ns) ++ n ∷ [] in
    ⊎_elim
    (λ (h : length ns < suc m).
    let whole : take (suc m) ns ≡ ns = take_all (suc m) ns (omega arith) in
    let less : take m ns ≡ ns = take_all m ns (omega arith) in
    let none : length (reverse ns ++ n ∷ []) - suc m ≡ 0 = omega (arith, length-append (reverse ns) (n ∷ []), length-reverse ns) in
    let Q : List ℕ → Type 0 = λ xs. drop (length (reverse ns ++ n ∷ []) - suc m) (reverse ns ++ n ∷ []) ≡ reverse xs ++ n ∷ [] in
    subst P (sym whole) (subst Q (sym less) (ap (λ (k : ℕ). drop k (reverse ns ++ n ∷ [])) none)))
    (λ (h : suc m ≤ length ns).
    let x : ℕ = slice_index_or ns m 0 in
    let one_more : suc m ≡ m + 1 = omega arith in
    let split : take (suc m) ns ≡ take m ns ++ x ∷ [] = ap (λ (k : ℕ). take k ns) one_more ∙ take_more ns m 0 (omega arith) in
    let turned : reverse (take (suc m) ns) ≡ x ∷ reverse (take m ns) = ap reverse split ∙ reverse-append (take m ns) (x ∷ []) in
    let R : List ℕ → Type 0 = λ xs. drop (length (xs ++ n ∷ []) - suc m) (xs ++ n ∷ []) ≡ reverse (take m ns) ++ n ∷ [] in
    subst R (sym turned) (full_ring x n m (reverse (take m ns)) (length-reverse (take m ns) ∙ length-take-le m ns (omega arith))))
    (cases_lt (length ns) (suc m))

-- the newest 512 after one more
pub owed_more : (ns : List ℕ) (n : ℕ) → drop (length (reverse (take 512 ns) ++ n ∷ []) - 512) (reverse (take 512 ns) ++ n ∷ []) ≡ reverse (take 512 (n ∷ ns))
owed_more ns n = newest_more 511 ns n ∙ sym (reverse_more n (take 511 ns))

-- what a buffer of 512 has after one more
pub owed_items : (before after : Buffer ℕ) (n : ℕ) → before.capacity ≡ 512
    → after ≡ buffer (keep_last before.capacity (before.items ++ n ∷ [])) before.capacity
    → after.items ≡ drop (length (before.items ++ n ∷ []) - 512) (before.items ++ n ∷ [])
owed_items before after n room e =
    ap (λ (b : Buffer ℕ). b.items) e ∙ ap (λ (k : ℕ). drop (length (before.items ++ n ∷ []) - k) (before.items ++ n ∷ [])) room

-- one number that is named moves where it is above the greatest
pub moves_one : (ms : List ℕ) (high to : ℕ) (z : ℤ) → z ≡ pos to → high < to → cons_option (number_above high z) [] ++ ms ≡ to ∷ ms
moves_one ms high to z e h =
    let above : nat_lt high to ≡ true = grind (arith, nat_tests) in
    ap (λ (x : ℤ). cons_option (number_above high x) [] ++ ms) e ∙ ap (λ (b : Bool). cons_option (then_some b to) [] ++ ms) above

pub none_above : (high : ℕ) (z : ℤ) → z ≤ℤ pos high → number_above high z ≡ None
none_above high (pos n) h =
    let low : n ≤ high = omega (arith, ints) in
    let test : nat_lt high n ≡ false = grind (arith, nat_tests) in
    ap (λ (b : Bool). then_some b n) test
none_above high (negsuc n) h = refl
