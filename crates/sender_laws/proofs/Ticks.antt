-- What a tick changes: idle ticks, the first sight, and whether the sight shows an actor as owned.
use Rattle.std.proofs.Common.{◌≡◌, ℕ, ◌+◌, ◌≤◌, List, [], ◌∷◌, ◌++◌, Bool, true, false, cond, length, reverse, refl, ap, ◌∙◌, arith, Option, Some, None}
use Rattle.std.specs.List.{filter_map, cons_option, slice_get}
use Rattle.std.proofs.lemmas.List.{reverse-append}
use Rattle.std.proofs.lemmas.List.Elements.{filter_map-append}
use Rattle.protocol_model.specs.Search.{oldest_of, items_since, or_else}
use Rattle.protocol_model.specs.Sight.{Seen}
use Rattle.connection_model.specs.Feed.{Past, Ticked, ticks_of, tick_count, is_relevant_in}
use Rattle.connection_model.specs.Items.{shown_in}
use Rattle.connection_model.specs.Pack.{idle_ticks}

-- ---- searches

-- what stands since an item is no longer than the list
pub since_few : {X : Type 0} (test : X → Bool) (xs : List X) → length (items_since test xs) ≤ length xs
since_few test [] = omega arith
since_few {X} test (x ∷ xs) = by (test x) (since_few test xs)
  where
    by : (b : Bool) → length (items_since test xs) ≤ length xs
        → length (cond b (let none : List X = [] in none) (x ∷ items_since test xs)) ≤ length (x ∷ xs)
    by true ih = omega arith
    by false ih = omega arith

-- what is found in the oldest stays, or is found in the one that comes
get_append : {X : Type 0} (xs ys : List X) → slice_get (xs ++ ys) 0 ≡ or_else (slice_get xs 0) (slice_get ys 0)
get_append [] ys = refl
get_append (x ∷ xs) ys = refl

only_one : {X : Type 0} (o : Option X) → slice_get (cons_option o []) 0 ≡ o
only_one None = refl
only_one (Some x) = refl

-- one more item in front is the oldest found only where there was none
pub oldest_more : {X Y : Type 0} (f : X → Option Y) (x : X) (xs : List X)
    → oldest_of f (x ∷ xs) ≡ or_else (oldest_of f xs) (f x)
oldest_more f x xs =
    ap (λ ys. slice_get (filter_map f ys) 0) (reverse-append (x ∷ []) xs)
    ∙ ap (λ ys. slice_get ys 0) (filter_map-append f (reverse xs) (x ∷ []))
    ∙ get_append (filter_map f (reverse xs)) (cons_option (f x) [])
    ∙ ap (or_else (oldest_of f xs)) (only_one (f x))

-- ---- a tick

-- there are no more idle ticks than ticks
pub idle_few : (past : Past) (a : ℕ) → idle_ticks past a ≤ tick_count past
idle_few past a = since_few (λ (tick : ℕ × List Seen). is_relevant_in tick.1 a) (ticks_of past)

-- a sight that has the actor as relevant ends its idle ticks
pub idle_shown : (past : Past) (t : ℕ) (sight : List Seen) (a : ℕ) → is_relevant_in sight a ≡ true
    → idle_ticks (Ticked t sight ∷ past) a ≡ 0
idle_shown past t sight a e = rw e refl

-- any other is one more
pub idle_more : (past : Past) (t : ℕ) (sight : List Seen) (a : ℕ) → is_relevant_in sight a ≡ false
    → idle_ticks (Ticked t sight ∷ past) a ≡ idle_ticks past a + 1
idle_more past t sight a e = rw e (omega arith)

-- the first sight stays, or is that of the new tick
pub first_shown : (past : Past) (t : ℕ) (sight : List Seen) (a : ℕ)
    → oldest_of (shown_in a) (ticks_of (Ticked t sight ∷ past))
    ≡ or_else (oldest_of (shown_in a) (ticks_of past)) (shown_in a (t, sight))
first_shown past t sight a = oldest_more (shown_in a) (t, sight) (ticks_of past)

pub count_ticked : (past : Past) (t : ℕ) (sight : List Seen) → tick_count (Ticked t sight ∷ past) ≡ tick_count past + 1
count_ticked past t sight = omega arith
