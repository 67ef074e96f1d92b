-- Finding the first item that passes, in a list and in the list of what its items stand for.
use Rattle.std.proofs.Common.{◌≡◌, ℕ, suc, ◌+◌, ◌<◌, List, [], ◌∷◌, map, length, Bool, true, false, not, cond, Some, None, option_map, refl, ap, sym, ◌∙◌, bytes_eq, nat_lt, IfSome, arith, rules}
use Rattle.std.specs.List.{position, position_or_len}
use Rattle.table_model.specs.Rules.{Entry, place_of, same_names, path_names}
use Rattle.class_layout.specs.declared.class.Segment.{Segment}
use Rattle.class_layout.specs.Tables.{entry_of, segment_at, place_of_path}
use Rattle.class_layout.specs.declared.class.Class.{Class}

next_of : (b : Bool) (n : ℕ) → cond b (Some (1 + n)) None ≡ option_map (λ n. n + 1) (cond b (Some n) None)
next_of true n = ap Some (omega arith)
next_of false n = refl

next_less : (n m : ℕ) → nat_lt (1 + n) (suc m) ≡ nat_lt n m
next_less n m = search (rules, arith)

first_less : (m : ℕ) → nat_lt 0 (suc m) ≡ true
first_less m = search (rules, arith)

step_of : (b : Bool) (n m : ℕ)
    → cond (nat_lt (cond (not b) (1 + n) 0) (suc m)) (Some (cond (not b) (1 + n) 0)) None
    ≡ cond b (Some 0) (option_map (λ n. n + 1) (cond (nat_lt n m) (Some n) None))
step_of true n m = rw (first_less m) refl
step_of false n m = rw (next_less n m) (next_of (nat_lt n m) n)

-- the first item passes, or the place is that among the others and one more
pub position_step : {A : Type 0} (test : A → Bool) (x : A) (xs : List A)
    → position test (x ∷ xs) ≡ cond (test x) (Some 0) (option_map (λ n. n + 1) (position test xs))
position_step test x xs = step_of (test x) (position_or_len test xs) (length xs)

-- the place in a list is that in the list of what its items stand for
pub position_mapped : {A B : Type 0} (f : A → B) (test : B → Bool) (xs : List A)
    → position (λ x. test (f x)) xs ≡ position test (map f xs)
position_mapped f test [] = refl
position_mapped f test (x ∷ xs) =
    position_step (λ x. test (f x)) x xs
    ∙ ap (λ o. cond (test (f x)) (Some 0) (option_map (λ n. n + 1) o)) (position_mapped f test xs)
    ∙ sym (position_step test (f x) (map f xs))

-- a class's place is that of the first one of its name
pub place_is_position : (entries : List Entry) (name : List ℕ)
    → place_of entries name ≡ position (λ (e : Entry). bytes_eq e.class.name name) entries
place_is_position [] name = refl
place_is_position (e ∷ entries) name =
    ap (λ o. cond (bytes_eq e.class.name name) (Some 0) (option_map (λ n. n + 1) o)) (place_is_position entries name)
    ∙ sym (position_step (λ (e : Entry). bytes_eq e.class.name name) e entries)

-- a place that is found is one of the list's
pub found_within : {A : Type 0} (test : A → Bool) (xs : List A) → IfSome (position test xs) (λ i. i < length xs)
found_within test xs = by_case (nat_lt (position_or_len test xs) (length xs)) refl
  where
    by_case : (b : Bool) → nat_lt (position_or_len test xs) (length xs) ≡ b
        → IfSome (cond b (Some (position_or_len test xs)) None) (λ i. i < length xs)
    by_case true e = search (rules, arith)
    by_case false e = tt

-- the place of a name and of a path among classes
pub class_place : (segments : List Segment) (classes : List Class) (name : List ℕ)
    → position (λ (c : Class). bytes_eq c.name name) classes ≡ place_of (map (entry_of segments) classes) name
class_place segments classes name =
    position_mapped (entry_of segments) (λ (e : Entry). bytes_eq e.class.name name) classes
    ∙ sym (place_is_position (map (entry_of segments) classes) name)

pub path_place : (segments : List Segment) (classes : List Class) (names : List (List ℕ))
    → position (λ (c : Class). same_names names (path_names (map (segment_at segments) c.path))) classes
    ≡ place_of_path (map (entry_of segments) classes) names
path_place segments classes names =
    position_mapped (entry_of segments) (λ (e : Entry). same_names names (path_names e.class.path)) classes
