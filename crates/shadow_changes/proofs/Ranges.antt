-- Lists of changes made from a function of the index.
use Rattle.std.proofs.Common.{◌≡◌, ℕ, zero, suc, ◌+◌, ◌<◌, ◌≤◌, List, [], ◌∷◌, ◌++◌, Bool, false, ◌==◌, if◌then◌else◌, Option, Some, None, refl, ap, ◌∙◌, subst, arith, map, inl, inr}
use Rattle.std.specs.Prelude.{filter_map, option_map}
use Rattle.std.specs.List.{range_with_len, cons_option}
use Rattle.std.proofs.lemmas.List.Elements.{filter_map-append}
use Rattle.std.proofs.lemmas.Bool.{cases_lt, eq-eqb}
use Rattle.std.proofs.lemmas.Bool.Decides.{nat_tests}
use Rattle.std.proofs.lemmas.List.{append-nil}
use Rattle.change_model.specs.Changes.{handle_of}
use Rattle.shadow_changes.specs.declared.change.Change.{Change}
use Rattle.shadow_changes.specs.Lists.{tick_of, AreListed}

-- one more number
range_more : (a n k : ℕ) → k ≡ a + n → range_with_len a (suc n) ≡ range_with_len a n ++ k ∷ []
range_more a zero k e = let same : a ≡ k = omega arith in ap (λ (x : ℕ). x ∷ []) same
range_more a (suc n) k e = ap (λ (ks : List ℕ). a ∷ ks) (range_more (a + 1) n k (omega arith))

-- one more item, or none
filter_map_more : {X : Type 0} (f : ℕ → Option X) (n : ℕ)
    → filter_map f (range_with_len 0 (n + 1)) ≡ filter_map f (range_with_len 0 n) ++ cons_option (f n) []
filter_map_more {X} f n =
    let one : n + 1 ≡ suc n = omega arith in
    ap (λ (k : ℕ). filter_map f (range_with_len 0 k)) one ∙ ap (filter_map f) (range_more 0 n n (omega arith))
    ∙ filter_map-append f (range_with_len 0 n) (n ∷ [])

pub filter_map_some : {X : Type 0} (f : ℕ → Option X) (n : ℕ) (x : X) → f n ≡ Some x
    → filter_map f (range_with_len 0 (n + 1)) ≡ filter_map f (range_with_len 0 n) ++ x ∷ []
filter_map_some f n x e =
    filter_map_more f n ∙ ap (λ o. filter_map f (range_with_len 0 n) ++ cons_option o []) e

pub filter_map_same : {X : Type 0} (f : ℕ → Option X) (n : ℕ) → f n ≡ None
    → filter_map f (range_with_len 0 (n + 1)) ≡ filter_map f (range_with_len 0 n)
filter_map_same f n e =
    filter_map_more f n ∙ ap (λ o. filter_map f (range_with_len 0 n) ++ cons_option o []) e
    ∙ append-nil (filter_map f (range_with_len 0 n))

map_cons_option : {X Y : Type 0} (v : X → Y) (o : Option X) (xs : List X)
    → map v (cons_option o xs) ≡ cons_option (option_map v o) (map v xs)
map_cons_option v None xs = refl
map_cons_option v (Some x) xs = refl

-- the items of two functions that agree
pub map_filter_map : {X Y : Type 0} (v : X → Y) (f : ℕ → Option X) (g : ℕ → Option Y) (a n : ℕ)
    → ((i : ℕ) → a ≤ i → i < a + n → option_map v (f i) ≡ g i)
    → map v (filter_map f (range_with_len a n)) ≡ filter_map g (range_with_len a n)
map_filter_map v f g a zero same = refl
map_filter_map v f g a (suc n) same =
    map_cons_option v (f a) (filter_map f (range_with_len (a + 1) n))
    ∙ ap (λ o. cons_option o (map v (filter_map f (range_with_len (a + 1) n)))) (same a (omega arith) (omega arith))
    ∙ ap (cons_option (g a)) (map_filter_map v f g (a + 1) n (λ i low high. same i (omega arith) (omega arith)))

-- where there is nothing at any index
pub filter_map_none : {Y : Type 0} (g : ℕ → Option Y) (a n : ℕ)
    → ((i : ℕ) → a ≤ i → i < a + n → g i ≡ None) → filter_map g (range_with_len a n) ≡ []
filter_map_none g a zero none = refl
filter_map_none g a (suc n) none =
    ap (λ o. cons_option o (filter_map g (range_with_len (a + 1) n))) (none a (omega arith) (omega arith))
    ∙ filter_map_none g (a + 1) n (λ i low high. none i (omega arith) (omega arith))

-- ---- handles

pub handle_rises : (i j : ℕ) → i < j → handle_of i < handle_of j
handle_rises i j h = grind (arith, nat_tests)

-- a handle above that of an index is at least that of the next one
pub handle_next : (i j : ℕ) → handle_of i + 1 ≤ handle_of j → handle_of (i + 1) ≤ handle_of j
handle_next i j h = grind (arith, nat_tests)

pub handle_index : (i j : ℕ) → handle_of i ≤ handle_of j → i ≤ j
handle_index i j h = grind (arith, nat_tests)

pub apart : (a b : ℕ) → a < b → (a == b) ≡ false
apart a b h = grind (arith, nat_tests)

pub apart_back : (a b : ℕ) → b < a → (a == b) ≡ false
apart_back a b h = grind (arith, nat_tests)

-- a handle of a value, with a tick
abbrev pub noted_at : (i t : ℕ) → Change
noted_at i t = record { prop = handle_of i; tick = t }

skipped : (o : Option ℕ) (i h : ℕ) (changes : List Change) → (handle_of i == h) ≡ false
    → tick_of (cons_option (option_map (noted_at i) o) changes) h ≡ tick_of changes h
skipped None i h changes e = refl
skipped (Some t) i h changes e = ap (λ (b : Bool). if b then Some t else tick_of changes h) e

found : (o : Option ℕ) (i : ℕ) (changes : List Change) → tick_of changes (handle_of i) ≡ None
    → tick_of (cons_option (option_map (noted_at i) o) changes) (handle_of i) ≡ o
found None i changes e = e
found (Some t) i changes e = ap (λ (b : Bool). if b then Some t else tick_of changes (handle_of i)) (eq-eqb
    (handle_of i) (handle_of i) refl)

-- a handle of an earlier index isn't there
tick_before : (g : ℕ → Option ℕ) (a n j : ℕ) → j < a
    → tick_of (filter_map (λ i. option_map (noted_at i) (g i)) (range_with_len a n)) (handle_of j) ≡ None
tick_before g a zero j low = refl
tick_before g a (suc n) j low =
    skipped (g a) a (handle_of j) (filter_map (λ i. option_map (noted_at i) (g i)) (range_with_len (a + 1) n))
    (apart_back (handle_of a) (handle_of j) (handle_rises j a low))
    ∙ tick_before g (a + 1) n j (omega arith)

pub data Place (a j : ℕ) : Type 0 where
  Here : a ≡ j → Place a j
  Later : a < j → Place a j

pub place : (a j : ℕ) → a ≤ j → Place a j
place a j h = elim (cases_lt a j) [ inl low ↦ Later low | inr high ↦ Here (omega arith) ]

-- the tick of an index that is there
pub tick_listed : (g : ℕ → Option ℕ) (a n j : ℕ) → a ≤ j → j < a + n
    → tick_of (filter_map (λ i. option_map (noted_at i) (g i)) (range_with_len a n)) (handle_of j) ≡ g j
tick_listed g a zero j low high = absurd (omega arith)
tick_listed g a (suc n) j low high =
    let rest : List Change = filter_map (λ i. option_map (noted_at i) (g i)) (range_with_len (a + 1) n) in
    elim (place a j low) [
      | Here e ↦ subst (λ (k : ℕ). tick_of (cons_option (option_map (noted_at a) (g a)) rest) (handle_of k) ≡ g k) e
          (found (g a) a rest (tick_before g (a + 1) n a (omega arith)))
      | Later above ↦ skipped (g a) a (handle_of j) rest (apart (handle_of a) (handle_of j) (handle_rises a j above))
          ∙ tick_listed g (a + 1) n j (omega arith) (omega arith)
    ]

-- no tick is above a bound
abbrev pub IsAtMost : ℕ → Option ℕ → Type 0
IsAtMost newest None = Unit {0}
IsAtMost newest (Some t) = t ≤ newest

-- what is listed by the index is a list that ascends
pub listed_all : (g : ℕ → Option ℕ) (count newest a n least : ℕ) → a + n ≤ count → least ≤ handle_of a
    → ((i : ℕ) → IsAtMost newest (g i))
    → AreListed count newest least (filter_map (λ i. option_map (noted_at i) (g i)) (range_with_len a n))
listed_all g count newest a zero least within low most = tt
listed_all g count newest a (suc n) least within low most =
    let up : handle_of a + 1 ≤ handle_of (a + 1) = grind (arith, nat_tests) in
    by (g a) (most a) (omega arith) (λ k l. listed_all g count newest (a + 1) n k (omega arith) l most) up
  where
    by : (o : Option ℕ) → IsAtMost newest o → a < count
        → ((k : ℕ) → k ≤ handle_of (a + 1)
        → AreListed count newest k (filter_map (λ i. option_map (noted_at i) (g i)) (range_with_len (a + 1) n)))
        → handle_of a + 1 ≤ handle_of (a + 1)
        → AreListed count newest least (cons_option (option_map (noted_at a) o) (filter_map (λ i. option_map
        (noted_at i) (g i)) (range_with_len (a + 1) n)))
    by None m under rest up = rest least (omega (arith, up))
    by (Some t) m under rest up = (low, m, (a, under, refl), rest (handle_of a + 1) up)
