-- Names that stand once, and the place of a class by its name.
use Rattle.std.proofs.Common.{◌≡◌, ℕ, zero, suc, ◌+◌, List, [], ◌∷◌, ◌++◌, slice_get, Bool, true, false, not, Option, Some, None, option_map, cond, refl, sym, ◌∙◌, subst, arith}
use Rattle.std.specs.Str.{bytes_eq}
use Rattle.std.proofs.lemmas.Bool.{and_parts, and_from, or_parts, or_from, not-true, not_from_false}
use Rattle.std.proofs.lemmas.Bool.Decides.{same_from_decides, Decides-like}
use Rattle.std.proofs.lemmas.Option.{none-some, same_Some}
use Rattle.std.proofs.lemmas.Slice.Eq.{bytes_eq-Decides}
use Rattle.table_model.specs.Rules.{Entry, is_there, class_names, place_of}
use Rattle.table_model.specs.Facts.{are_distinct}

-- ---- two names

-- equal names are one name
pub same_name : (m n : List ℕ) → bytes_eq m n ≡ true → m ≡ n
same_name m n h = (bytes_eq-Decides m n).0 h

-- a name is equal to itself
pub name_itself : (name : List ℕ) → bytes_eq name name ≡ true
name_itself name = (bytes_eq-Decides name name).1 refl

-- names are compared either way round
pub names_turned : (m n : List ℕ) → bytes_eq m n ≡ bytes_eq n m
names_turned m n =
    let other_way = Decides-like (bytes_eq n m) (λ (e : n ≡ m). sym e) (λ (e : m ≡ n). sym e) (bytes_eq-Decides n m) in
    same_from_decides _ _ (bytes_eq-Decides m n) other_way

-- ---- lists of names

there_push : (names : List (List ℕ)) (m name : List ℕ) → is_there names m ≡ false → bytes_eq m name ≡ false
    → is_there (names ++ name ∷ []) m ≡ false
there_push [] m name h e = or_from _ _ e refl
there_push (n ∷ names) m name h e =
    let p = or_parts (bytes_eq m n) (is_there names m) h in or_from _ _ p.0 (there_push names m name p.1 e)

-- names stay distinct with one behind them that isn't there
pub distinct_push : (names : List (List ℕ)) (name : List ℕ) → are_distinct names ≡ true
    → is_there names name ≡ false → are_distinct (names ++ name ∷ []) ≡ true
distinct_push [] name d h = refl
distinct_push (n ∷ names) name d h =
    let p = and_parts (not (is_there names n)) (are_distinct names) d in
    let q = or_parts (bytes_eq name n) (is_there names name) h in
    let kept = there_push names n name (not-true _ p.0) (names_turned n name ∙ q.0) in
    and_from _ _ (not_from_false _ kept) (distinct_push names name p.1 q.1)

-- ---- the place of a class

-- the class at the place has the name
abbrev pub NamedAt : List Entry → List ℕ → ℕ → Type 0
NamedAt entries name n = (e : Entry) × (slice_get entries n ≡ Some e) × (e.class.name ≡ name)

found_later : (d : Entry) (entries : List Entry) (name : List ℕ) (n : ℕ) (o : Option ℕ)
    → ((k : ℕ) → o ≡ Some k → NamedAt entries name k) → option_map (λ k. k + 1) o ≡ Some n
    → NamedAt (d ∷ entries) name n
found_later d entries name n None rest h = absurd (none-some n h)
found_later d entries name n (Some k) rest h =
    let f = rest k refl in
    let later : k + 1 ≡ n = same_Some _ _ h in
    let at : suc k ≡ n = omega arith in
    (f.0, subst (λ (i : ℕ). slice_get (d ∷ entries) i ≡ Some f.0) at f.1, f.2)

found_where : (b : Bool) (d : Entry) (entries : List Entry) (name : List ℕ) (n : ℕ) → bytes_eq d.class.name name ≡ b
    → ((k : ℕ) → place_of entries name ≡ Some k → NamedAt entries name k)
    → cond b (Some 0) (option_map (λ k. k + 1) (place_of entries name)) ≡ Some n → NamedAt (d ∷ entries) name n
found_where true d entries name n t rest h =
    (d, subst (λ (i : ℕ). slice_get (d ∷ entries) i ≡ Some d) (same_Some 0 n h) refl, same_name d.class.name name t)
found_where false d entries name n t rest h = found_later d entries name n (place_of entries name) rest h

-- a name's place is that of a class of that name
pub place_found : (entries : List Entry) (name : List ℕ) (n : ℕ) → place_of entries name ≡ Some n
    → NamedAt entries name n
place_found [] name n h = absurd (none-some n h)
place_found (d ∷ entries) name n h =
    found_where (bytes_eq d.class.name name) d entries name n refl (place_found entries name) h

-- a name that isn't there is no class's
pub not_named : (entries : List Entry) (name : List ℕ) (n : ℕ) (e : Entry)
    → is_there (class_names entries) name ≡ false → slice_get entries n ≡ Some e → bytes_eq name e.class.name ≡ false
not_named [] name n e h s = absurd (none-some e s)
not_named (d ∷ entries) name zero e h s =
    let p = or_parts (bytes_eq name d.class.name) (is_there (class_names entries) name) h in
    subst (λ (x : Entry). bytes_eq name x.class.name ≡ false) (same_Some d e s) p.0
not_named (d ∷ entries) name (suc n) e h s =
    let p = or_parts (bytes_eq name d.class.name) (is_there (class_names entries) name) h in
    not_named entries name n e p.1 s

-- where names stand once, a class's name leads to its place
pub place_at : (entries : List Entry) (n : ℕ) (e : Entry) → are_distinct (class_names entries) ≡ true
    → slice_get entries n ≡ Some e → place_of entries e.class.name ≡ Some n
place_at [] n e d s = absurd (none-some e s)
place_at (d ∷ entries) zero e u s =
    let named = name_itself d.class.name in
    let first = subst (λ (x : Entry). bytes_eq d.class.name x.class.name ≡ true) (same_Some d e s) named in
    rw first refl
place_at (d ∷ entries) (suc n) e u s =
    let p = and_parts (not (is_there (class_names entries) d.class.name)) (are_distinct (class_names entries)) u in
    let other = not_named entries d.class.name n e (not-true _ p.0) s in
    let k : n + 1 ≡ suc n = omega arith in
    rw (other, place_at entries n e p.1 s, k) refl
