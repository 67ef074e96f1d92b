-- How often an actor stands in lists that are joined, and in pieces of which one changes.
use Rattle.std.proofs.Common.{◌≡◌, ℕ, zero, suc, ◌+◌, ◌-◌, ◌<◌, ◌==◌, ◌||◌, Bool, List, [], ◌∷◌, ◌++◌, length, take, refl, sym, ap, ◌∙◌, get_or, arith, if◌then◌else◌, Option, Some, None}
use Rattle.std.specs.Prelude.{slice_get, slice_set, remove, is_some, nat_lt, IfSome, IfNone}
use Rattle.std.proofs.lemmas.Bool.Decides.{nat_tests}
use Rattle.std.proofs.lemmas.List.{take_more}
use Rattle.std.proofs.lemmas.List.Concat.{flat_map-append}
use Rattle.std.specs.Rc.{rc_slice_items}
use Rattle.std.specs.declared.rc.RcSlice.{RcSlice}
use Rattle.std.specs.declared.alloc.Global.{Global}
use Rattle.actor_lists.specs.Shared.{count_of, all_actors, StandsAt}

abbrev Piece : Type 0
Piece = RcSlice ℕ Global

pub count_of-append : (a : ℕ) (xs ys : List ℕ) → count_of a (xs ++ ys) ≡ count_of a xs + count_of a ys
count_of-append a [] ys = omega arith
count_of-append a (x ∷ xs) ys = let h = count_of-append a xs ys in omega arith

-- one actor less
pub count_of-remove : (a : ℕ) (xs : List ℕ) (i x : ℕ) → slice_get xs i ≡ Some x
    → count_of a (remove xs i) + (if x == a then 1 else 0) ≡ count_of a xs
count_of-remove a [] i x h = absurd (cc)
count_of-remove a (y ∷ xs) zero x h = let e : y ≡ x = cc in rw e (omega arith)
count_of-remove a (y ∷ xs) (suc i) x h = let k = count_of-remove a xs i x h in omega arith

-- a piece changes
pub count_of-set : (a : ℕ) (ps : List Piece) (i : ℕ) (old new : Piece) → slice_get ps i ≡ Some old
    → count_of a (all_actors (slice_set ps i new)) + count_of a (rc_slice_items old)
    ≡ count_of a (all_actors ps) + count_of a (rc_slice_items new)
count_of-set a [] i old new h = absurd (cc)
count_of-set a (p ∷ ps) zero old new h =
    let e : p ≡ old = cc in
    let l = count_of-append a (rc_slice_items new) (all_actors ps) in
    let m = count_of-append a (rc_slice_items p) (all_actors ps) in
    let n : count_of a (rc_slice_items p) ≡ count_of a (rc_slice_items old) =
    ap (λ q. count_of a (rc_slice_items q)) e in
    omega arith
count_of-set a (p ∷ ps) (suc i) old new h =
    let k = count_of-set a ps i old new h in
    let l = count_of-append a (rc_slice_items p) (all_actors (slice_set ps i new)) in
    let m = count_of-append a (rc_slice_items p) (all_actors ps) in
    omega arith

-- a piece goes
pub count_of-gone : (a : ℕ) (ps : List Piece) (i : ℕ) (old : Piece) → slice_get ps i ≡ Some old
    → count_of a (all_actors (remove ps i)) + count_of a (rc_slice_items old) ≡ count_of a (all_actors ps)
count_of-gone a [] i old h = absurd (cc)
count_of-gone a (p ∷ ps) zero old h =
    let e : p ≡ old = cc in
    let m = count_of-append a (rc_slice_items p) (all_actors ps) in
    let n : count_of a (rc_slice_items p) ≡ count_of a (rc_slice_items old) =
    ap (λ q. count_of a (rc_slice_items q)) e in
    omega arith
count_of-gone a (p ∷ ps) (suc i) old h =
    let k = count_of-gone a ps i old h in
    let l = count_of-append a (rc_slice_items p) (all_actors (remove ps i)) in
    let m = count_of-append a (rc_slice_items p) (all_actors ps) in
    omega arith

-- one actor further
pub count_of-more : (a : ℕ) (xs : List ℕ) (i x : ℕ) → i < length xs → x ≡ get_or xs i x
    → count_of a (take (i + 1) xs) ≡ count_of a (take i xs) + (if x == a then 1 else 0)
count_of-more a xs i x h e =
    let t = take_more xs i x h in
    let k = count_of-append a (take i xs) (get_or xs i x ∷ []) in
    let f : count_of a (take (i + 1) xs) ≡ count_of a (take i xs) + count_of a (get_or xs i x ∷ []) = rw t k in
    let g : count_of a (get_or xs i x ∷ []) ≡ count_of a (x ∷ []) = rw (← e) refl in
    omega arith

-- one piece further
pub count_of-more_pieces : (a : ℕ) (ps : List Piece) (i : ℕ) (p : Piece) → i < length ps → p ≡ get_or ps i p
    → count_of a (all_actors (take (i + 1) ps)) ≡ count_of a (all_actors (take i ps)) + count_of a (rc_slice_items p)
count_of-more_pieces a ps i p h e =
    let t = take_more ps i p h in
    let f = flat_map-append rc_slice_items (take i ps) (p ∷ []) in
    let k = count_of-append a (all_actors (take i ps)) (all_actors (p ∷ [])) in
    let l = count_of-append a (rc_slice_items p) [] in
    let t' : take (i + 1) ps ≡ take i ps ++ p ∷ [] = t ∙ ap (λ q. take i ps ++ q ∷ []) (sym e) in
    let m : count_of a (all_actors (take (i + 1) ps)) ≡ count_of a (all_actors (take i ps) ++ all_actors (p ∷ [])) =
    rw (t', f) refl in
    omega arith

-- what indexing gave is the element there
pub got : {A : Type 0} (xs : List A) (i : ℕ) (x : A) → i < length xs → x ≡ get_or xs i x → slice_get xs i ≡ Some x
got [] i x h e = absurd (omega arith)
got (y ∷ ys) zero x h e = ap (λ z. Some z) (sym e)
got (y ∷ ys) (suc i) x h e = got ys i x (omega arith) e

-- a place that has an element is in the list
pub within : {A : Type 0} (xs : List A) (i : ℕ) (x : A) → slice_get xs i ≡ Some x → i < length xs
within [] i x h = absurd (cc)
within (y ∷ ys) zero x h = omega arith
within (y ∷ ys) (suc i) x h = let k = within ys i x h in omega arith

-- one actor more
pub count_of-push : (a : ℕ) (xs : List ℕ) (x : ℕ)
    → count_of a (xs ++ x ∷ []) ≡ count_of a xs + (if x == a then 1 else 0)
count_of-push a xs x = let h = count_of-append a xs (x ∷ []) in omega arith

-- the actor goes to the end of a piece
pub count_of-added : (a x : ℕ) (ps : List Piece) (i : ℕ) (old new : Piece) → i < length ps → old ≡ get_or ps i old
    → rc_slice_items new ≡ rc_slice_items old ++ x ∷ []
    → count_of a (all_actors (slice_set ps i new)) ≡ (if x == a then 1 else 0) + count_of a (all_actors ps)
count_of-added a x ps i old new h e n =
    let s = count_of-set a ps i old new (got ps i old h e) in
    let p : count_of a (rc_slice_items new) ≡ count_of a (rc_slice_items old) + (if x == a then 1 else 0) =
    rw n (count_of-push a (rc_slice_items old) x) in
    omega arith

-- a piece of one actor comes
pub count_of-fresh : (a x : ℕ) (ps : List Piece) (new : Piece) → rc_slice_items new ≡ [] ++ x ∷ []
    → count_of a (all_actors (ps ++ new ∷ [])) ≡ (if x == a then 1 else 0) + count_of a (all_actors ps)
count_of-fresh a x ps new n =
    let f = flat_map-append rc_slice_items ps (new ∷ []) in
    let k = count_of-append a (all_actors ps) (all_actors (new ∷ [])) in
    let l = count_of-append a (rc_slice_items new) [] in
    let m : count_of a (rc_slice_items new) ≡ (if x == a then 1 else 0) + 0 = rw n refl in
    let o : count_of a (all_actors (ps ++ new ∷ [])) ≡ count_of a (all_actors ps ++ all_actors (new ∷ [])) =
    rw f refl in
    omega arith

-- the actor goes out of a piece, which stays
pub count_of-taken : (a x : ℕ) (ps : List Piece) (i j : ℕ) (old new : Piece) → slice_get ps i ≡ Some old
    → slice_get (rc_slice_items old) j ≡ Some x → rc_slice_items new ≡ remove (rc_slice_items old) j
    → count_of a (all_actors (slice_set ps i new)) ≡ count_of a (all_actors ps) - (if x == a then 1 else 0)
count_of-taken a x ps i j old new h e n =
    let s = count_of-set a ps i old new h in
    let r = count_of-remove a (rc_slice_items old) j x e in
    let p : count_of a (rc_slice_items new) ≡ count_of a (remove (rc_slice_items old) j) = rw n refl in
    let g = count_of-gone a ps i old h in
    omega arith

-- the one actor of a list of one
pub count_of-one : (a x : ℕ) (xs : List ℕ) (j : ℕ) → slice_get xs j ≡ Some x → length xs ≡ 1
    → count_of a xs ≡ (if x == a then 1 else 0)
count_of-one a x [] j h n = absurd (omega arith)
count_of-one a x (y ∷ z ∷ zs) j h n = absurd (omega arith)
count_of-one a x (y ∷ []) zero h n = let e : y ≡ x = cc in rw e (omega arith)
count_of-one a x (y ∷ []) (suc j) h n = absurd (cc)

-- the only actor of a piece goes, and the piece with it
pub count_of-emptied : (a x : ℕ) (ps : List Piece) (i j : ℕ) (old : Piece) → slice_get ps i ≡ Some old
    → slice_get (rc_slice_items old) j ≡ Some x → length (rc_slice_items old) ≡ 1
    → count_of a (all_actors (remove ps i)) ≡ count_of a (all_actors ps) - (if x == a then 1 else 0)
count_of-emptied a x ps i j old h e n =
    let r = count_of-one a x (rc_slice_items old) j e n in
    let g = count_of-gone a ps i old h in
    omega arith

-- what indexing gave where the actor stands
pub stands_in : (ps : List Piece) (x i j : ℕ) (piece : Piece) → StandsAt ps x i j → piece ≡ get_or ps i piece
    → slice_get ps i ≡ Some piece
stands_in ps x i j piece at is = got ps i piece (within ps i at.piece at.there) is

pub stands_at : (ps : List Piece) (x i j : ℕ) (piece : Piece) → StandsAt ps x i j → piece ≡ get_or ps i piece
    → slice_get (rc_slice_items piece) j ≡ Some x
stands_at ps x i j piece at is =
    let here = stands_in ps x i j piece at is in
    let there = at.there in
    let e : at.piece ≡ piece = cc in
    rw e at at.is

-- an actor that stands somewhere is counted
pub count_of-standing : (ps : List Piece) (x i j : ℕ) → StandsAt ps x i j → 0 < count_of x (all_actors ps)
count_of-standing ps x i j at =
    let g = count_of-gone x ps i at.piece at.there in
    let r = count_of-remove x (rc_slice_items at.piece) j x at.is in
    let one : ◌≡◌ {A = ℕ} (if x == x then 1 else 0) 1 = grind (arith, nat_tests) in
    omega arith

-- a search finds exactly the actors that are counted
pub found : (ps : List Piece) (x : ℕ) (o : Option (ℕ × ℕ)) → IfSome o (λ at. StandsAt ps x at.0 at.1)
    → IfNone o (count_of x (all_actors ps) ≡ 0) → is_some o ≡ nat_lt 0 (count_of x (all_actors ps))
found ps x None some none = rw none refl
found ps x (Some at) some none = let h = count_of-standing ps x at.0 at.1 some in grind (arith, nat_tests)

-- so does a search of one list
pub found_in : (xs : List ℕ) (x : ℕ) (o : Option ℕ) → IfSome o (λ i. slice_get xs i ≡ Some x)
    → IfNone o (count_of x xs ≡ 0) → is_some o ≡ nat_lt 0 (count_of x xs)
found_in xs x None some none = rw none refl
found_in xs x (Some i) some none =
    let r = count_of-remove x xs i x some in
    let one : ◌≡◌ {A = ℕ} (if x == x then 1 else 0) 1 = grind (arith, nat_tests) in
    grind (arith, nat_tests)

-- one look further
pub found_more : (found : Bool) (a : ℕ) (xs : List ℕ) (i x : ℕ) → i < length xs → x ≡ get_or xs i x
    → found ≡ nat_lt 0 (count_of a (take i xs))
    → (found || x == a) ≡ nat_lt 0 (count_of a (take (i + 1) xs))
found_more found a xs i x h is before =
    let more = count_of-more a xs i x h is in
    grind (arith, nat_tests)
