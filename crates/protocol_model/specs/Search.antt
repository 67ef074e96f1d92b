-- Words for searching whole lists. A history stands with its newest item first.
use Rattle.std.specs.Prelude.{ℕ, zero, suc, ◌+◌, List, [], ◌∷◌, take, reverse, Bool, nat_lt, ◌==◌, Option, Some, None, max, if◌then◌else◌, filter_map, slice_get}
use Rattle.std.specs.List.{fold, list_any}

-- what f finds in the newest item in which it finds something
abbrev pub newest_of : {A B : Type 0} → (A → Option B) → List A → Option B
newest_of f xs = slice_get (filter_map f xs) 0

-- and in the oldest one
abbrev pub oldest_of : {A B : Type 0} → (A → Option B) → List A → Option B
oldest_of f xs = newest_of f (reverse xs)

-- the first, or else the second
abbrev pub or_else : {A : Type 0} → Option A → Option A → Option A
or_else (Some x) other = Some x
or_else None other = other

-- the items that came after the newest one that passes
abbrev pub items_since : {A : Type 0} → (A → Bool) → List A → List A
items_since test [] = []
items_since test (x ∷ xs) = if test x then [] else x ∷ items_since test xs

-- the longest prefix, of at most so many items, that passes
abbrev pub longest_prefix : {A : Type 0} → (List A → Bool) → ℕ → List A → List A
longest_prefix test zero xs = []
longest_prefix test (suc most) xs =
    let shorter = longest_prefix test most xs in if test (take (suc most) xs) then take (suc most) xs else shorter

-- the number is among these
abbrev pub is_among : ℕ → List ℕ → Bool
is_among n ns = list_any (λ k. k == n) ns

-- the greatest of these, 0 where there is none
abbrev pub greatest_of : List ℕ → ℕ
greatest_of ns = fold max 0 ns

-- the least number from k on that passes, of so many; the one after them where none does
abbrev pub least_from : (ℕ → Bool) → ℕ → ℕ → ℕ
least_from test zero k = k
least_from test (suc many) k = let later = least_from test many (k + 1) in if test k then k else later

-- x in its place among items that stand in order, before those that it doesn't follow
abbrev pub insert_in_order : {A : Type 0} → (A → A → Bool) → A → List A → List A
insert_in_order goes_before x [] = x ∷ []
insert_in_order goes_before x (y ∷ ys) =
    if goes_before y x then y ∷ insert_in_order goes_before x ys else x ∷ y ∷ ys

-- the items in order
abbrev pub in_order : {A : Type 0} → (A → A → Bool) → List A → List A
in_order goes_before [] = []
in_order goes_before (x ∷ xs) = insert_in_order goes_before x (in_order goes_before xs)

-- each number once
abbrev pub each_once : List ℕ → List ℕ
each_once [] = []
each_once (n ∷ ns) = if is_among n ns then each_once ns else n ∷ each_once ns

-- each number once, ascending
abbrev pub ascending_numbers : List ℕ → List ℕ
ascending_numbers ns = in_order nat_lt (each_once ns)
