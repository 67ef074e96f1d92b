-- Paths that stand once.
use Rattle.std.proofs.Common.{◌≡◌, ℕ, zero, suc, List, [], ◌∷◌, ◌++◌, map, slice_get, true, false, ◌||◌, not, Some, refl, ap, ◌∙◌, subst}
use Rattle.std.specs.List.{list_any, list_all}
use Rattle.std.proofs.lemmas.Bool.{and_parts, and_from, or_parts, not-true, not_from_false, both_ways}
use Rattle.std.proofs.lemmas.Option.{none-some, same_Some}
use Rattle.table_model.specs.Rules.{Entry, same_names, path_names, has_path}
use Rattle.table_model.specs.Facts.{paths_differ}
use Rattle.table_model.proofs.Lists.{all_push}
use Rattle.table_model.proofs.Names.{name_itself, names_turned}

-- ---- two paths

path_itself : (p : List (List ℕ)) → same_names p p ≡ true
path_itself [] = refl
path_itself (n ∷ ns) = and_from _ _ (name_itself n) (path_itself ns)

-- paths are compared either way round
pub paths_turned : (p q : List (List ℕ)) → same_names p q ≡ same_names q p
paths_turned [] [] = refl
paths_turned [] (n ∷ ns) = refl
paths_turned (m ∷ ms) [] = refl
paths_turned (m ∷ ms) (n ∷ ns) = rw (names_turned m n, paths_turned ms ns) refl

-- ---- lists of paths

-- the paths of classes
abbrev pub paths_of : List Entry → List (List (List ℕ))
paths_of entries = map (λ (e : Entry). path_names e.class.path) entries

-- a class has a path where the path is among theirs
pub has_path_is : (entries : List Entry) (path : List (List ℕ))
    → list_any (same_names path) (paths_of entries) ≡ has_path entries path
has_path_is [] path = refl
has_path_is (e ∷ entries) path = ap (λ b. same_names path (path_names e.class.path) || b) (has_path_is entries path)

-- paths stay different with one behind them that isn't among them
pub differ_push : (paths : List (List (List ℕ))) (path : List (List ℕ)) → paths_differ paths ≡ true
    → list_any (same_names path) paths ≡ false → paths_differ (paths ++ path ∷ []) ≡ true
differ_push [] path d h = refl
differ_push (p ∷ paths) path d h =
    let u = and_parts (list_all (λ other. not (same_names p other)) paths) (paths_differ paths) d in
    let v = or_parts (same_names path p) (list_any (same_names path) paths) h in
    let new = not_from_false (same_names p path) (paths_turned p path ∙ v.0) in
    and_from _ _ (all_push (λ other. not (same_names p other)) paths path u.0 new) (differ_push paths path u.1 v.1)

-- ---- the place of a path

not_again : (path : List (List ℕ)) (paths : List (List (List ℕ))) (n : ℕ)
    → list_all (λ other. not (same_names path other)) paths ≡ true → slice_get paths n ≡ Some path → ⊥
not_again path [] n h s = none-some path s
not_again path (p ∷ paths) zero h s =
    let u = and_parts (not (same_names path p)) (list_all (λ other. not (same_names path other)) paths) h in
    let same : p ≡ path = same_Some p path s in
    both_ways (same_names path p) (not-true _ u.0) (rw same (path_itself path))
not_again path (p ∷ paths) (suc n) h s =
    let u = and_parts (not (same_names path p)) (list_all (λ other. not (same_names path other)) paths) h in
    not_again path paths n u.1 s

not_first : (p path : List (List ℕ)) (paths : List (List (List ℕ))) (n : ℕ)
    → list_all (λ other. not (same_names p other)) paths ≡ true → Some p ≡ Some path → slice_get paths n ≡ Some path → ⊥
not_first p path paths n h first s =
    let same : path ≡ p = let e = same_Some p path first in cc in
    not_again p paths n h (subst (λ (x : List (List ℕ)). slice_get paths n ≡ Some x) same s)

-- where paths differ, each stands at one place
pub path_once : (paths : List (List (List ℕ))) (m n : ℕ) (path : List (List ℕ)) → paths_differ paths ≡ true
    → slice_get paths m ≡ Some path → slice_get paths n ≡ Some path → m ≡ n
path_once [] m n path d s t = absurd (none-some path s)
path_once (p ∷ paths) zero zero path d s t = refl
path_once (p ∷ paths) zero (suc n) path d s t =
    let u = and_parts _ (paths_differ paths) d in absurd (not_first p path paths n u.0 s t)
path_once (p ∷ paths) (suc m) zero path d s t =
    let u = and_parts _ (paths_differ paths) d in absurd (not_first p path paths m u.0 t s)
path_once (p ∷ paths) (suc m) (suc n) path d s t =
    let u = and_parts _ (paths_differ paths) d in ap (λ k. suc k) (path_once paths m n path u.1 s t)
