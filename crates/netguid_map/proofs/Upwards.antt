-- Names from a learnt one up, beside the path that they are compared with.
use Rattle.std.proofs.Common.{◌≡◌, ℕ, zero, suc, ◌+◌, ◌≤◌, List, [], ◌∷◌, ◌++◌, ◌==◌, ◌&&◌, length, map, Bool, true, false, Option, Some, None, refl, sym, ap, ◌∙◌, arith, bytes_eq}
use Rattle.std.specs.Prelude.{option_map, if◌then◌else◌}
use Rattle.std.specs.Ordering.{nat_cmp}
use Rattle.std.specs.Map.{lookup}
use Rattle.std.specs.BTreeMap.{is_at}
use Rattle.std.proofs.Math.Bool.{and-false, and-true}
use Rattle.std.proofs.lemmas.Bool.Decides.{nat_tests}
use Rattle.std.proofs.lemmas.List.{map-append, length-map}
use Rattle.protocol_model.specs.Value.{Segment}
use Rattle.connection_model.specs.Names.{name_known, path_up, same_names}
use Rattle.class_layout.specs.Tables.{segment_at}
use Rattle.class_layout.specs.declared.class.Segment as Layout
use Rattle.netguid_map.specs.declared.names.Learnt.{Learnt}
use Rattle.netguid_map.specs.Names.{Stands, segment_of}
use Rattle.netguid_map.specs.Chains.{names_up, is_path}

-- names with one more behind them
abbrev pub with_name : List ℕ → List (List ℕ) → List (List ℕ)
with_name n names = names ++ n ∷ []

-- ---- what was learnt

pub known_is : (kept : List (ℕ × Learnt)) (names : List Segment) (g : ℕ) (o : Option Learnt) → Stands kept names
    → o ≡ lookup (is_at (nat_cmp g)) kept → name_known names g ≡ option_map (segment_of g) o
known_is kept names g o h e = sym (h.each g) ∙ ap (option_map (segment_of g)) (sym e)

pub up_none : (names : List Segment) (most g : ℕ) → name_known names g ≡ None → path_up names most g ≡ None
up_none names zero g e = refl
up_none names (suc most) g e = rw e refl

pub up_some : (names : List Segment) (most g : ℕ) (l : Learnt) → name_known names g ≡ Some (segment_of g l)
    → path_up names (suc most) g ≡ names_up names most l
up_some names most g l e = rw e refl

-- ---- one more name, and one more segment

none_longer : (names : List (List ℕ)) (n : List ℕ) → same_names [] (names ++ n ∷ []) ≡ false
none_longer [] n = refl
none_longer (m ∷ names) n = refl

some_longer : (path : List Segment) (s : Segment) → same_names (path ++ s ∷ []) [] ≡ false
some_longer [] s = refl
some_longer (t ∷ path) s = refl

and_assoc : (a b c : Bool) → (a && (b && c)) ≡ ((a && b) && c)
and_assoc true b c = refl
and_assoc false b c = refl

same_longer : (path : List Segment) (s : Segment) (names : List (List ℕ)) (n : List ℕ)
    → same_names (path ++ s ∷ []) (names ++ n ∷ []) ≡ (same_names path names && bytes_eq s.name n)
same_longer [] s [] n = and-true (bytes_eq s.name n)
same_longer [] s (m ∷ names) n = rw (none_longer names n) (and-false (bytes_eq s.name m))
same_longer (t ∷ path) s [] n = rw (some_longer path s) (and-false (bytes_eq t.name n))
same_longer (t ∷ path) s (m ∷ names) n =
    ap (λ (b : Bool). bytes_eq t.name m && b) (same_longer path s names n)
    ∙ and_assoc (bytes_eq t.name m) (same_names path names) (bytes_eq s.name n)

-- the last name is that of the last segment, and those before it are those of the segments before
pub longer_path : (o : Option (List (List ℕ))) (n : List ℕ) (path : List Segment) (s : Segment)
    → is_path (option_map (with_name n) o) (path ++ s ∷ []) ≡ (is_path o path && bytes_eq s.name n)
longer_path None n path s = refl
longer_path (Some names) n path s = same_longer path s names n

-- no names with one more behind them are those of no path
pub no_path : (o : Option (List (List ℕ))) (n : List ℕ) → is_path (option_map (with_name n) o) [] ≡ false
no_path None n = refl
no_path (Some names) n = none_longer names n

-- ---- one step up a path

-- a path has these segments and a last one, which is tested to have the learnt name
pub record Step (segments : List Layout.Segment) (path outer : List ℕ) (last : ℕ) (l : Learnt) (same : Bool)
    : Type 0 where
  pub whole : path ≡ outer ++ last ∷ []
  pub test : same ≡ bytes_eq (segment_at segments last).name l.name

-- the names above a learnt one
abbrev above_it : List Segment → (most : ℕ) → Learnt → Option (List (List ℕ))
above_it names most l = if l.outer == 0 then Some [] else path_up names most l.outer

-- by its last name and those above it
step_is : (names : List Segment) (most : ℕ) {segments : List Layout.Segment} {path outer : List ℕ} {last : ℕ}
    {l : Learnt} {same : Bool} → Step segments path outer last l same
    → is_path (names_up names most l) (map (segment_at segments) path)
    ≡ (is_path (above_it names most l) (map (segment_at segments) outer) && same)
step_is names most {segments} {path} {outer} {last} {l} {same} step =
    let f = segment_at segments in
    ap (λ (whole : List ℕ). is_path (names_up names most l) (map f whole)) step.whole
    ∙ ap (is_path (names_up names most l)) (map-append f outer (last ∷ []))
    ∙ longer_path (above_it names most l) l.name (map f outer) (f last)
    ∙ ap (λ (b : Bool). is_path (above_it names most l) (map f outer) && b) (sym step.test)

-- another last name
pub other_last : (names : List Segment) (most : ℕ) {segments : List Layout.Segment} {path outer : List ℕ} {last : ℕ}
    {l : Learnt} {same : Bool} → Step segments path outer last l same → same ≡ false
    → false ≡ is_path (names_up names most l) (map (segment_at segments) path)
other_last names most {segments} {path} {outer} {last} {l} step differ =
    let above = is_path (above_it names most l) (map (segment_at segments) outer) in
    sym (step_is names most step ∙ ap (λ (b : Bool). above && b) differ ∙ and-false above)

-- the same last name: by those above it, of which something is known
same_last : (names : List Segment) (most : ℕ) {segments : List Layout.Segment} {path outer : List ℕ} {last : ℕ}
    {l : Learnt} {same : Bool} → Step segments path outer last l same → same ≡ true
    → (o : Option (List (List ℕ))) → above_it names most l ≡ o
    → is_path (names_up names most l) (map (segment_at segments) path) ≡ is_path o (map (segment_at segments) outer)
same_last names most {segments} {path} {outer} {last} {l} step same o is =
    let above = is_path (above_it names most l) (map (segment_at segments) outer) in
    step_is names most step ∙ ap (λ (b : Bool). above && b) same ∙ and-true above
    ∙ ap (λ (o : Option (List (List ℕ))). is_path o (map (segment_at segments) outer)) is

top_of : (o : Option (List (List ℕ))) (outer : ℕ) → outer ≡ 0 → (if outer == 0 then Some [] else o) ≡ Some []
top_of o outer e = ap (λ (k : ℕ). if k == 0 then Some [] else o) e

rest_of : (o : Option (List (List ℕ))) (outer : ℕ) → (outer ≡ 0 → ⊥) → (if outer == 0 then Some [] else o) ≡ o
rest_of o outer h = ap (λ (b : Bool). if b then Some [] else o) (other outer h)
  where
    other : (k : ℕ) → (k ≡ 0 → ⊥) → (k == 0) ≡ false
    other k h = grind (arith, nat_tests)

no_more : (path : List Segment) → same_names path [] ≡ (length path == 0)
no_more [] = refl
no_more (s ∷ path) = grind (arith, nat_tests)

-- the same last name, which is an outermost one
pub outermost : (names : List Segment) (most : ℕ) {segments : List Layout.Segment} {path outer : List ℕ} {last : ℕ}
    {l : Learnt} {same : Bool} → Step segments path outer last l same → same ≡ true → l.outer ≡ 0
    → (length outer == 0) ≡ is_path (names_up names most l) (map (segment_at segments) path)
outermost names most {segments} {path} {outer} {last} {l} step same top =
    ap (λ (n : ℕ). n == 0) (sym (length-map outer (segment_at segments)))
    ∙ sym (no_more (map (segment_at segments) outer))
    ∙ sym (same_last names most step same (Some []) (top_of (path_up names most l.outer) l.outer top))

-- the same last name, whose outer isn't known
pub not_above : (names : List Segment) (most : ℕ) {segments : List Layout.Segment} {path outer : List ℕ} {last : ℕ}
    {l : Learnt} {same : Bool} → Step segments path outer last l same → same ≡ true → (l.outer ≡ 0 → ⊥)
    → name_known names l.outer ≡ None → false ≡ is_path (names_up names most l) (map (segment_at segments) path)
not_above names most {l = l} step same inner none =
    sym (same_last names most step same None
    (rest_of (path_up names most l.outer) l.outer inner ∙ up_none names most l.outer none))

no_guids : (path : List ℕ) → length path ≤ 0 → path ≡ []
no_guids [] h = refl
no_guids (g ∷ path) h = absurd (omega arith)

-- the same last name, and then the names from its outer up
pub above : (names : List Segment) (most : ℕ) {segments : List Layout.Segment} {path outer : List ℕ} {last : ℕ}
    {l : Learnt} {same : Bool} (up : Learnt) (b : Bool) → Step segments path outer last l same → same ≡ true
    → (l.outer ≡ 0 → ⊥) → name_known names l.outer ≡ Some (segment_of l.outer up) → length outer ≤ most
    → ((m : ℕ) → length outer ≤ m + 1 → b ≡ is_path (names_up names m up) (map (segment_at segments) outer))
    → b ≡ is_path (names_up names most l) (map (segment_at segments) path)
above names zero {segments} {path} {outer} {last} {l} up b step same inner known short h =
    h 0 (omega arith)
    ∙ ap (λ (guids : List ℕ). is_path (names_up names 0 up) (map (segment_at segments) guids)) (no_guids outer short)
    ∙ no_path (above_it names 0 up) up.name
    ∙ sym (same_last names 0 step same None (rest_of None l.outer inner))
above names (suc most) {segments} {path} {outer} {last} {l} up b step same inner known short h =
    h most (omega arith)
    ∙ sym (same_last names (suc most) step same (names_up names most up)
    (rest_of (path_up names (suc most) l.outer) l.outer inner ∙ up_some names most l.outer up known))
