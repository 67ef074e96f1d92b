-- Calls that each test counts no more often are among the others, each once.
use Rattle.std.proofs.Common.{◌≡◌, ℕ, ◌+◌, ◌≤◌, List, [], ◌∷◌, ◌++◌, Bool, true, false, cond, ◌&&◌, ◌==◌, refl, sym, ap, ◌∙◌, subst, arith, ℤ, pos, negsuc}
use Rattle.std.specs.List.{count_by}
use Rattle.std.proofs.lemmas.Bool.{false≢true, eqb-true}
use Rattle.std.proofs.lemmas.List.Sums.{sum_by-cons, sum_by-append}
use Rattle.std.proofs.lemmas.Bool.{eq-eqb as same_is}
use Rattle.protocol_laws.proofs.Booleans.{left_of, right_of, both}
use Rattle.protocol_model.specs.Value.{Table, Arg, Scalar, Octets}
use Rattle.connection_model.specs.Handed.{Asked}
use Rattle.replication_model.specs.Story.{Player}
use Rattle.headline_laws.specs.Once.{AreAmong, HandsOverAtMost, HandsOverOnce}
use Rattle.headline_laws.specs.Once.AreAmong.{none, one_more}

-- ---- calls are compared

-- two integers are one
same_int : ℤ → ℤ → Bool
same_int (pos n) (pos m) = n == m
same_int (pos n) (negsuc m) = false
same_int (negsuc n) (pos m) = false
same_int (negsuc n) (negsuc m) = n == m

-- two texts are one
same_bytes : List ℕ → List ℕ → Bool
same_bytes [] [] = true
same_bytes [] (y ∷ ys) = false
same_bytes (x ∷ xs) [] = false
same_bytes (x ∷ xs) (y ∷ ys) = (x == y) && same_bytes xs ys

-- two arguments are one
same_arg : Arg → Arg → Bool
same_arg (Scalar v) (Scalar w) = same_int v w
same_arg (Scalar v) (Octets ys) = false
same_arg (Octets xs) (Scalar w) = false
same_arg (Octets xs) (Octets ys) = same_bytes xs ys

-- two lists of arguments are one
same_args : List Arg → List Arg → Bool
same_args [] [] = true
same_args [] (y ∷ ys) = false
same_args (x ∷ xs) [] = false
same_args (x ∷ xs) (y ∷ ys) = same_arg x y && same_args xs ys

-- two calls are one
same_asked : Asked → Asked → Bool
same_asked x y = (x.actor == y.actor) && ((x.number == y.number) && same_args x.args y.args)

-- what is found to be one is one
int_is : (v w : ℤ) → same_int v w ≡ true → v ≡ w
unfolding same_int
int_is (pos n) (pos m) h = ap (λ (k : ℕ). pos k) (eqb-true n m h)
int_is (pos n) (negsuc m) h = absurd (false≢true h)
int_is (negsuc n) (pos m) h = absurd (false≢true h)
int_is (negsuc n) (negsuc m) h = ap (λ (k : ℕ). negsuc k) (eqb-true n m h)

-- an integer is itself
int_itself : (v : ℤ) → same_int v v ≡ true
unfolding same_int
int_itself (pos n) = same_is n n refl
int_itself (negsuc n) = same_is n n refl

-- so of texts
bytes_are : (xs ys : List ℕ) → same_bytes xs ys ≡ true → xs ≡ ys
unfolding same_bytes
bytes_are [] [] h = refl
bytes_are [] (y ∷ ys) h = absurd (false≢true h)
bytes_are (x ∷ xs) [] h = absurd (false≢true h)
bytes_are (x ∷ xs) (y ∷ ys) h =
    ap (λ (k : ℕ). k ∷ xs) (eqb-true x y (left_of _ _ h)) ∙ ap (λ (l : List ℕ). y ∷ l) (bytes_are xs ys (right_of _ _ h))

-- a text is itself
bytes_itself : (xs : List ℕ) → same_bytes xs xs ≡ true
unfolding same_bytes
bytes_itself [] = refl
bytes_itself (x ∷ xs) = both _ _ (same_is x x refl) (bytes_itself xs)

-- so of arguments
arg_is : (a b : Arg) → same_arg a b ≡ true → a ≡ b
unfolding same_arg
arg_is (Scalar v) (Scalar w) h = ap (λ (z : ℤ). Scalar z) (int_is v w h)
arg_is (Scalar v) (Octets ys) h = absurd (false≢true h)
arg_is (Octets xs) (Scalar w) h = absurd (false≢true h)
arg_is (Octets xs) (Octets ys) h = ap (λ (l : List ℕ). Octets l) (bytes_are xs ys h)

-- an argument is itself
arg_itself : (a : Arg) → same_arg a a ≡ true
unfolding same_arg
arg_itself (Scalar v) = int_itself v
arg_itself (Octets xs) = bytes_itself xs

-- so of their lists
args_are : (xs ys : List Arg) → same_args xs ys ≡ true → xs ≡ ys
unfolding same_args
args_are [] [] h = refl
args_are [] (y ∷ ys) h = absurd (false≢true h)
args_are (x ∷ xs) [] h = absurd (false≢true h)
args_are (x ∷ xs) (y ∷ ys) h =
    ap (λ (a : Arg). a ∷ xs) (arg_is x y (left_of _ _ h)) ∙ ap (λ (l : List Arg). y ∷ l) (args_are xs ys (right_of _ _ h))

-- a list is itself
args_itself : (xs : List Arg) → same_args xs xs ≡ true
unfolding same_args
args_itself [] = refl
args_itself (x ∷ xs) = both _ _ (arg_itself x) (args_itself xs)

-- calls are one where their parts are
asked_of : (a b : ℕ) (n m : ℕ) (xs ys : List Arg) → a ≡ b → n ≡ m → xs ≡ ys → ◌≡◌ {A = Asked} (record { actor = a; number = n; args = xs }) (record { actor = b; number = m; args = ys })
asked_of a b n m xs ys e f g =
    ap (λ (k : ℕ). (let r : Asked = record { actor = k; number = n; args = xs } in r)) e
    ∙ ap (λ (k : ℕ). (let r : Asked = record { actor = b; number = k; args = xs } in r)) f
    ∙ ap (λ (l : List Arg). (let r : Asked = record { actor = b; number = m; args = l } in r)) g

-- so of calls
asked_is : (x y : Asked) → same_asked x y ≡ true → x ≡ y
unfolding same_asked
asked_is x y h =
    asked_of x.actor y.actor x.number y.number x.args y.args (eqb-true x.actor y.actor (left_of _ _ h)) (eqb-true x.number y.number (left_of _ _ (right_of _ _ h))) (args_are x.args y.args (right_of _ _ (right_of _ _ h)))

-- a call is itself
asked_itself : (x : Asked) → same_asked x x ≡ true
unfolding same_asked
asked_itself x = both _ _ (same_is x.actor x.actor refl) (both _ _ (same_is x.number x.number refl) (args_itself x.args))

-- ---- counts

-- one more item counts, if it passes
one_count : (t : Asked → Bool) (x : Asked) (xs : List Asked) → count_by t (x ∷ xs) ≡ cond (t x) 1 0 + count_by t xs
one_count t x xs = sum_by-cons (λ (y : Asked). cond (t y) 1 0) x xs

-- two lists count together
both_count : (t : Asked → Bool) (xs ys : List Asked) → count_by t (xs ++ ys) ≡ count_by t xs + count_by t ys
both_count t xs ys = sum_by-append (λ (y : Asked). cond (t y) 1 0) xs ys

-- a call that passes stands somewhere
record Place (t : Asked → Bool) (xs : List Asked) : Type 0 where
  before : List Asked
  item : Asked
  after : List Asked
  split : xs ≡ before ++ item ∷ after
  passes : t item ≡ true

-- what counts has a place
place : (t : Asked → Bool) (xs : List Asked) → 1 ≤ count_by t xs → Place t xs
place t [] h = absurd (omega (arith, h))
place t (y ∷ xs) h = by (t y) refl (λ q. place t xs q)
  where
    by : (b : Bool) → t y ≡ b → (1 ≤ count_by t xs → Place t xs) → Place t (y ∷ xs)
    by true e rest = record { before = []; item = y; after = xs; split = refl; passes = e }
    by false e rest =
        let none_here : ◌≡◌ {A = ℕ} (cond (t y) 1 0) 0 = ap (λ (b : Bool). cond b 1 0) e in
        let p = rest (omega (arith, h, one_count t y xs, none_here)) in
        record { before = y ∷ p.before; item = p.item; after = p.after; split = ap (λ (l : List Asked). y ∷ l) p.split; passes = p.passes }

-- items that each test counts no more often are among the others
pub among : (items others : List Asked) → ((t : Asked → Bool) → count_by t items ≤ count_by t others) → AreAmong items others
among [] others h = none
among (x ∷ items) others h =
    let here : ◌≡◌ {A = ℕ} (cond (same_asked x x) 1 0) 1 = ap (λ (b : Bool). cond b 1 0) (asked_itself x) in
    let p = place (same_asked x) others (omega (arith, h (same_asked x), one_count (same_asked x) x items, here)) in
    let same : p.item ≡ x = sym (asked_is x p.item p.passes) in
    let split : others ≡ p.before ++ x ∷ p.after = p.split ∙ ap (λ (y : Asked). p.before ++ y ∷ p.after) same in
    let fewer : (t : Asked → Bool) → count_by t items ≤ count_by t (p.before ++ p.after) =
    λ t. (let all : count_by t others ≡ count_by t (p.before ++ x ∷ p.after) = ap (count_by t) split in
    omega (arith, h t, all, one_count t x items, both_count t p.before (x ∷ p.after), one_count t x p.after, both_count t p.before p.after)) in
    subst (AreAmong (x ∷ items)) (sym split) (one_more p.before p.after (among items (p.before ++ p.after) fewer))

-- so calls that are handed over at most as often come once
pub once_of : (table : Table) (p : Player) → HandsOverAtMost table p → HandsOverOnce table p
once_of table p h side = among _ _ (h side)
