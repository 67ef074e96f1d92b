-- Finding items by ascending keys, and lists that agree on each.
use Rattle.std.proofs.Common.{◌≡◌, ℕ, ◌+◌, ◌<◌, ◌≤◌, ◌==◌, List, [], ◌∷◌, map, Bool, true, false, cond, nat_lt, Option, Some, None, is_some, option_map, refl, sym, ap, ◌∙◌, subst, arith}
use Rattle.std.specs.Prelude.{find}
use Rattle.std.specs.List.{AllByRecursion}
use Rattle.std.proofs.lemmas.Bool.{eqb-true, eq-eqb}
use Rattle.std.proofs.lemmas.Bool.Decides.{nat_tests}
use Rattle.std.proofs.lemmas.Option.{same_Some}
use Rattle.actor_copies.specs.Keyed.{Ascends, at_key, Put}

below_of : (a b : ℕ) → nat_lt a b ≡ true → a < b
below_of a b h = grind (arith, nat_tests)

above_of : (a b : ℕ) → nat_lt a b ≡ false → (a == b) ≡ false → b < a
above_of a b h e = grind (arith, nat_tests)

above_differs : (a b : ℕ) → b < a → (a == b) ≡ false
above_differs a b h = grind (arith, nat_tests)

none_some : {A B : Type 0} (x : A) → None ≡ Some x → B
none_some x e = absurd (cc)

-- a key below the least isn't there
none_below : {A : Type 0} (key : A → ℕ) (least : ℕ) (xs : List A) (k : ℕ) → Ascends key least xs → k < least
    → at_key key xs k ≡ None
none_below key least [] k up l = refl
none_below key least (x ∷ xs) k up l =
    let low = up.0 in
    rw (above_differs (key x) k (omega (arith, low, l)))
    (none_below key (key x + 1) xs k up.1 (omega (arith, low, l)))

-- ---- what is found

here_is : {A : Type 0} (key : A → ℕ) (x : A) (xs : List A) → at_key key (x ∷ xs) (key x) ≡ Some x
here_is key x xs = rw (eq-eqb (key x) (key x) refl) refl

past_it : {A : Type 0} (key : A → ℕ) (x : A) (xs : List A) (k : ℕ) → (key x == k) ≡ false
    → at_key key (x ∷ xs) k ≡ at_key key xs k
past_it key x xs k e = rw e refl

-- an item has the key by which it is found
pub key_of : {A : Type 0} (key : A → ℕ) (xs : List A) (k : ℕ) (x : A) → at_key key xs k ≡ Some x → key x ≡ k
key_of key [] k x e = none_some x e
key_of {A = A} key (y ∷ xs) k x e = by (key y == k) refl e (λ h. key_of key xs k x h)
  where
    by : (b : Bool) → (key y == k) ≡ b → cond b (Some y) (at_key key xs k) ≡ Some x
        → (at_key key xs k ≡ Some x → key x ≡ k) → key x ≡ k
    by true t h rest = ap key (sym (same_Some y x h)) ∙ eqb-true (key y) k t
    by false t h rest = rest h

-- the first item that passes a test passes it, and stands under its key
pub first_passes : {A : Type 0} (key : A → ℕ) (test : A → Bool) (least : ℕ) (xs : List A) (x : A)
    → Ascends key least xs → find test xs ≡ Some x
    → (test x ≡ true) × (least ≤ key x) × (at_key key xs (key x) ≡ Some x)
first_passes key test least [] x up e = none_some x e
first_passes {A = A} key test least (y ∷ xs) x up e =
    by (test y) refl e (λ h. first_passes key test (key y + 1) xs x up.1 h)
  where
    by : (b : Bool) → test y ≡ b → cond b (Some y) (find test xs) ≡ Some x
        → (find test xs ≡ Some x
        → (test x ≡ true) × (key y + 1 ≤ key x) × (at_key key xs (key x) ≡ Some x))
        → (test x ≡ true) × (least ≤ key x) × (at_key key (y ∷ xs) (key x) ≡ Some x)
    by true t h rest =
        subst (λ (z : A). (test z ≡ true) × (least ≤ key z) × (at_key key (y ∷ xs) (key z) ≡ Some z))
        (same_Some y x h) (t, up.0, here_is key y xs)
    by false t h rest =
        let r = rest h in
        let low = up.0 in
        let above = r.1 in
        let apart : (key y == key x) ≡ false = grind (arith, nat_tests) in
        (r.0, omega (arith, low, above), past_it key y xs (key x) apart ∙ r.2)

-- where an item passes a test, one is found
pub one_passes : {A : Type 0} (key : A → ℕ) (test : A → Bool) (xs : List A) (k : ℕ) (x : A)
    → at_key key xs k ≡ Some x → test x ≡ true → is_some (find test xs) ≡ true
one_passes key test [] k x e t = none_some x e
one_passes {A = A} key test (y ∷ xs) k x e t =
    by (key y == k) (test y) refl e (λ h. one_passes key test xs k x h t)
  where
    by : (b c : Bool) → test y ≡ c → cond b (Some y) (at_key key xs k) ≡ Some x
        → (at_key key xs k ≡ Some x → is_some (find test xs) ≡ true)
        → is_some (cond c (Some y) (find test xs)) ≡ true
    by b true u h rest = refl
    by true false u h rest = let no : false ≡ true = sym u ∙ ap test (same_Some y x h) ∙ t in absurd (cc)
    by false false u h rest = rest h

-- ---- lists that agree on each key are the same

pub same_lists : {A : Type 0} (key : A → ℕ) (least : ℕ) (xs ys : List A) → Ascends key least xs
    → Ascends key least ys → ((k : ℕ) → at_key key xs k ≡ at_key key ys k) → xs ≡ ys
same_lists key least [] [] up down same = refl
same_lists key least [] (y ∷ ys) up down same = none_some y (same (key y) ∙ here_is key y ys)
same_lists key least (x ∷ xs) [] up down same = none_some x (sym (same (key x)) ∙ here_is key x xs)
same_lists {A = A} key least (x ∷ xs) (y ∷ ys) up down same =
    by (key x == key y) refl (λ down same. same_lists key (key x + 1) xs ys up.1 down same)
  where
    apart : (b : Bool) → nat_lt (key x) (key y) ≡ b → (key x == key y) ≡ false → x ∷ xs ≡ y ∷ ys
    apart true e o =
        let l = below_of (key x) (key y) e in
        none_some x (sym (none_below key (key y) (y ∷ ys) (key x) (omega arith, down.1) l)
        ∙ sym (same (key x)) ∙ here_is key x xs)
    apart false e o =
        let l = above_of (key x) (key y) e o in
        none_some y (sym (none_below key (key x) (x ∷ xs) (key y) (omega arith, up.1) l)
        ∙ same (key y) ∙ here_is key y ys)

    tails : key x ≡ key y → (k : ℕ) (t : Bool) → (key x == k) ≡ t → at_key key xs k ≡ at_key key ys k
    tails is k true e =
        let at = eqb-true (key x) k e in
        none_below key (key x + 1) xs k up.1 (omega (arith, at))
        ∙ sym (none_below key (key y + 1) ys k down.1 (omega (arith, at, is)))
    tails is k false e =
        sym (past_it key x xs k e) ∙ same k
        ∙ past_it key y ys k (sym (ap (λ (n : ℕ). n == k) is) ∙ e)

    joined : (a b : A) (xs ys : List A) → a ≡ b → xs ≡ ys → a ∷ xs ≡ b ∷ ys
    joined a b xs ys e f = cc

    by : (b : Bool) → (key x == key y) ≡ b
        → (Ascends key (key x + 1) ys → ((k : ℕ) → at_key key xs k ≡ at_key key ys k) → xs ≡ ys)
        → x ∷ xs ≡ y ∷ ys
    by false o rest = apart (nat_lt (key x) (key y)) refl o
    by true o rest =
        let is = eqb-true (key x) (key y) o in
        let first : x ≡ y = same_Some x y
        (sym (here_is key x xs) ∙ same (key x) ∙ ap (at_key key (y ∷ ys)) is ∙ here_is key y ys) in
        joined x y xs ys first (rest (rw is down.1) (λ k. tails is k (key x == k) refl))

-- ---- lists of what stands for the items

pub mapped_ascends : {A B : Type 0} (f : A → B) (key : A → ℕ) (name : B → ℕ)
    → ((x : A) → name (f x) ≡ key x) → (least : ℕ) (xs : List A) → Ascends key least xs
    → Ascends name least (map f xs)
mapped_ascends f key name same least [] up = tt
mapped_ascends f key name same least (x ∷ xs) up =
    rw (same x) (up.0, mapped_ascends f key name same (key x + 1) xs up.1)

pub mapped_back : {A B : Type 0} (f : A → B) (key : A → ℕ) (name : B → ℕ)
    → ((x : A) → name (f x) ≡ key x) → (least : ℕ) (xs : List A) → Ascends name least (map f xs)
    → Ascends key least xs
mapped_back f key name same least [] up = tt
mapped_back f key name same least (x ∷ xs) up =
    (rw (← same x) up.0, mapped_back f key name same (key x + 1) xs (rw (← same x) up.1))

pub mapped_at : {A B : Type 0} (f : A → B) (key : A → ℕ) (name : B → ℕ)
    → ((x : A) → name (f x) ≡ key x) → (xs : List A) (k : ℕ)
    → at_key name (map f xs) k ≡ option_map f (at_key key xs k)
mapped_at f key name same [] k = refl
mapped_at {A = A} {B = B} f key name same (x ∷ xs) k =
    rw (same x) (by (key x == k) (mapped_at f key name same xs k))
  where
    by : (t : Bool) → at_key name (map f xs) k ≡ option_map f (at_key key xs k)
        → cond t (Some (f x)) (at_key name (map f xs) k) ≡ option_map f (cond t (Some x) (at_key key xs k))
    by true e = refl
    by false e = e

-- ---- what holds of each item

pub all_at : {A : Type 0} (P : A → Type 0) (key : A → ℕ) (xs : List A) (k : ℕ) (x : A)
    → AllByRecursion P xs → at_key key xs k ≡ Some x → P x
all_at P key [] k x all e = none_some x e
all_at {A = A} P key (y ∷ xs) k x all e = by (key y == k) e (λ h. all_at P key xs k x all.1 h)
  where
    by : (b : Bool) → cond b (Some y) (at_key key xs k) ≡ Some x
        → (at_key key xs k ≡ Some x → P x) → P x
    by true h rest = subst P (same_Some y x h) all.0
    by false h rest = rest h

pub all_found : {A : Type 0} (P : A → Type 0) (test : A → Bool) (xs : List A) (x : A)
    → AllByRecursion P xs → find test xs ≡ Some x → P x
all_found P test [] x all e = none_some x e
all_found {A = A} P test (y ∷ xs) x all e = by (test y) e (λ h. all_found P test xs x all.1 h)
  where
    by : (b : Bool) → cond b (Some y) (find test xs) ≡ Some x → (find test xs ≡ Some x → P x) → P x
    by true h rest = subst P (same_Some y x h) all.0
    by false h rest = rest h

all_by : {A : Type 0} (P : A → Type 0) (key : A → ℕ) (least : ℕ) (ys : List A) → Ascends key least ys
    → ((k : ℕ) (x : A) → at_key key ys k ≡ Some x → P x) → AllByRecursion P ys
all_by P key least [] up each = tt
all_by {A = A} P key least (y ∷ ys) up each = (
  each (key y) y (here_is key y ys),
  all_by P key (key y + 1) ys up.1 (λ k x e. each k x (later k x e (key y == k) refl)),
)
  where
    later : (k : ℕ) (x : A) → at_key key ys k ≡ Some x → (t : Bool) → (key y == k) ≡ t
        → cond t (Some y) (at_key key ys k) ≡ Some x
    later k x e true h =
        let same = eqb-true (key y) k h in
        none_some x (sym (none_below key (key y + 1) ys k up.1 (omega (arith, same))) ∙ e)
    later k x e false h = e

-- where an item that is put keeps a rule, all go on keeping it
pub put_all : {A : Type 0} (P : A → Type 0) (key : A → ℕ) (k : ℕ) (item : Option A) (xs ys : List A)
    → AllByRecursion P xs → Put key k item xs ys → ((x : A) → item ≡ Some x → P x) → AllByRecursion P ys
put_all {A = A} P key k item xs ys all put keeps =
    all_by P key 0 ys put.ascends (λ j x e. by j x (k == j) (sym (put.at j) ∙ e))
  where
    by : (j : ℕ) (x : A) (t : Bool) → cond t item (at_key key xs j) ≡ Some x → P x
    by j x true e = keeps x e
    by j x false e = all_at P key xs j x all e
