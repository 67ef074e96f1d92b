-- Names that hold a class's path name the class.
use Rattle.std.proofs.Common.{◌≡◌, ℕ, suc, ◌≤◌, ◌+◌, ◌-◌, ◌==◌, List, [], ◌∷◌, ◌++◌, Bool, true, false, not, ◌&&◌, cond, Option, Some, option_and_then, slice_get, find, filter, map, bytes_eq, inl, refl, sym, ap, ◌∙◌, subst, arith, length, append_assoc, append-nil}
use Rattle.std.specs.List.{list_all}
use Rattle.std.proofs.lemmas.Slice.Eq.{bytes_eq-Decides}
use Rattle.std.proofs.lemmas.Bool.{and_parts, and_from, eqb-true, not-true}
use Rattle.protocol_model.specs.Value.{Segment, Class, guid_of, class_guid}
use Rattle.table_model.specs.Facts.{IsTable, is_chain, paths_differ}
use Rattle.table_model.specs.Rules.{Entry, segments_of, path_names}
use Rattle.table_model.specs.Rules as Rules
use Rattle.table_model.specs.Grammar.{table_of}
use Rattle.connection_model.specs.Names.{path_up, same_names, class_named}
use Rattle.payload_laws.specs.Limits.{AreSegments}
use Rattle.payload_laws.specs.Accepted.{StandsIn}
use Rattle.payload_laws.specs.Learning.{StandAmong, AreAmong, Knows, KnowsAll, KnowsOthers, MayLearn}
use Rattle.protocol_laws.proofs.Bounds.{not_zero}
use Rattle.payload_laws.proofs.TableFacts.{path_segments}
use Rattle.payload_laws.proofs.Learning.{Learnt, learn_path}

-- ---- from the last guid up

-- the names from the guid up, of at most so many; none above the outermost
abbrev Up : List Segment → (most guid : ℕ) → List (List ℕ) → Type 0
Up names most g path = cond (g == 0) (Some []) (path_up names most g) ≡ Some path

-- one step up from a segment to its outer
up_step : (names : List Segment) (most : ℕ) (s : Segment) (path : List (List ℕ)) → Knows names s → 3 ≤ s.guid → Up names most s.outer path → Up names (suc most) s.guid (path ++ s.name ∷ [])
up_step names most s path k l up = rw (not_zero s.guid (omega (arith, l)), k, up) refl

-- the guid of the last segment, or the outer's
abbrev last_guid : ℕ → List Segment → ℕ
last_guid outer [] = outer
last_guid outer (s ∷ path) = last_guid s.guid path

-- the names of a path, from its last guid up
up_path : (names : List Segment) (most outer : ℕ) (front : List (List ℕ)) (path : List Segment) → Up names most outer front → is_chain outer path ≡ true → AreSegments path → KnowsAll names path → Up names (most + length path) (last_guid outer path) (front ++ path_names path)
up_path names most outer front [] up chain are known = let e : most + 0 ≡ most = omega arith in rw (append-nil front, e) up
up_path names most outer front (s ∷ path) up chain are known =
    let under : s.outer ≡ outer = eqb-true s.outer outer (and_parts _ _ (and_parts _ _ chain).0).0 in
    let here : Up names (suc most) s.guid (front ++ s.name ∷ []) = up_step names most s front known.0 are.0.least (subst (λ (o : ℕ). Up names most o front) (sym under) up) in
    let more : most + suc (length path) ≡ suc most + length path = omega arith in
    rw (more, ← append_assoc front (s.name ∷ []) (path_names path)) (up_path names (suc most) s.guid (front ++ s.name ∷ []) path here (and_parts _ _ chain).1 are.1 known.1)

last_is : (s : Segment) (path : List Segment) → last_guid s.guid path ≡ guid_of (s ∷ path)
last_is s [] = refl
last_is s (t ∷ path) = last_is t path

last_least : (outer : ℕ) (path : List Segment) → 3 ≤ outer → AreSegments path → 3 ≤ last_guid outer path
last_least outer [] l are = l
last_least outer (s ∷ path) l are = last_least s.guid path are.0.least are.1

-- the names give the path of a class's guid
path_named : (names path : List Segment) → is_chain 0 path ≡ true → AreSegments path → KnowsAll names path → 1 ≤ length path → length path ≤ 8 → path_up names 8 (guid_of path) ≡ Some (path_names path)
path_named names [] chain are known some few = absurd (omega (arith, some))
path_named names (s ∷ path) chain are known some few =
    let all : List Segment = s ∷ path in
    let up = up_path names (8 - length all) 0 [] all refl chain are known in
    let eight : 8 - length all + length all ≡ 8 = omega (arith, few) in
    let least : 3 ≤ last_guid s.guid path = last_least s.guid path are.0.least are.1 in
    let not_none : (last_guid s.guid path == 0) ≡ false = not_zero (last_guid s.guid path) (omega (arith, least)) in
    ap (path_up names 8) (sym (last_is s path)) ∙ named (8 - length all + length all) (last_guid s.guid path) eight not_none up
  where
    named : (most g : ℕ) → most ≡ 8 → (g == 0) ≡ false → Up names most g (path_names (s ∷ path)) → path_up names 8 g ≡ Some (path_names (s ∷ path))
    named most g e f up = let here : path_up names most g ≡ Some (path_names (s ∷ path)) = rw f at up in subst (λ (m : ℕ). path_up names m g ≡ Some (path_names (s ∷ path))) e here

-- ---- the class of a path

-- both definitions of equal names agree
same_either : (path : List Segment) (names : List (List ℕ)) → same_names path names ≡ Rules.same_names (path_names path) names
same_either [] [] = refl
same_either [] (n ∷ names) = refl
same_either (s ∷ path) [] = refl
same_either (s ∷ path) (n ∷ names) = ap (λ (b : Bool). bytes_eq s.name n && b) (same_either path names)

-- a path has its own names
same_itself : (path : List Segment) → same_names path (path_names path) ≡ true
same_itself [] = refl
same_itself (s ∷ path) = and_from (bytes_eq s.name s.name) (same_names path (path_names path)) ((bytes_eq-Decides s.name s.name).1 refl) (same_itself path)

-- of paths that differ from the first, so does each
differs_there : (path : List (List ℕ)) (before : List Entry) (e : Entry) (after : List Entry) → list_all (λ other. not (Rules.same_names path other)) (map (λ (e : Entry). path_names e.class.path) (before ++ e ∷ after)) ≡ true → Rules.same_names path (path_names e.class.path) ≡ false
differs_there path [] e after h = not-true _ (and_parts _ _ h).0
differs_there path (x ∷ before) e after h = differs_there path before e after (and_parts _ _ h).1

-- a class is the first of its path
first_found : (before : List Entry) (e : Entry) (after : List Entry) → paths_differ (map (λ (e : Entry). path_names e.class.path) (before ++ e ∷ after)) ≡ true → find (λ (class : Class). same_names class.path (path_names e.class.path)) (table_of (before ++ e ∷ after)) ≡ Some e.class
first_found [] e after h = rw (same_itself e.class.path) refl
first_found (x ∷ before) e after h =
    let other : same_names x.class.path (path_names e.class.path) ≡ false = same_either x.class.path (path_names e.class.path) ∙ differs_there (path_names x.class.path) before e after (and_parts _ _ h).0 in
    rw other (first_found before e after (and_parts _ _ h).1)

-- ---- an open of a class of the table

-- a list of which each item is a segment of the table stands among them
pub stand_of : (whole xs : List Segment) → ((n : ℕ) (s : Segment) → slice_get xs n ≡ Some s → (m : ℕ) × (slice_get whole m ≡ Some s)) → StandAmong whole xs
stand_of whole [] h = tt
stand_of whole (s ∷ xs) h = (h 0 s refl, stand_of whole xs (λ n t e. h (suc n) t e))

stand_left : (whole xs ys : List Segment) → StandAmong whole (xs ++ ys) → StandAmong whole xs
stand_left whole [] ys h = tt
stand_left whole (x ∷ xs) ys h = (h.0, stand_left whole xs ys h.1)

stand_right : (whole xs ys : List Segment) → StandAmong whole (xs ++ ys) → StandAmong whole ys
stand_right whole [] ys h = h
stand_right whole (x ∷ xs) ys h = stand_right whole xs ys h.1

-- a class's path stands among the table's segments
pub stand_class : (whole : List Segment) (before : List Entry) (e : Entry) (after : List Entry) → StandAmong whole (segments_of (before ++ e ∷ after)) → StandAmong whole e.class.path
stand_class whole [] e after h = stand_left whole e.class.path (segments_of after) h
stand_class whole (x ∷ before) e after h = stand_class whole before e after (stand_right whole x.class.path (segments_of (before ++ e ∷ after)) h)

-- what is needed of a class's path is learnt
pub class_learnt : (entries before : List Entry) (e : Entry) (after : List Entry) (names : List Segment) (test : Segment → Bool) → IsTable entries → entries ≡ before ++ e ∷ after → AreAmong (segments_of entries) names → KnowsOthers names test e.class.path → length names ≤ 65528
    → Learnt (segments_of entries) names test e.class.path
class_learnt entries before e after names test is split among others few =
    let class = is.classes before e after split in
    let path_most : length e.class.path ≤ 8 = class.path_most in
    let stand : StandAmong (segments_of entries) e.class.path = stand_class (segments_of entries) before e after (subst (λ (xs : List Entry). StandAmong (segments_of entries) (segments_of xs)) split (stand_of (segments_of entries) (segments_of entries) (λ n s e. (n, e)))) in
    learn_path (segments_of entries) names test 0 e.class.path is.segments.same among stand (path_segments entries before e after is split) class.path (inl refl) (omega (arith, few, path_most)) others

-- and names that hold the path name the class
pub class_is_named : (entries before : List Entry) (e : Entry) (after : List Entry) (names : List Segment) → IsTable entries → entries ≡ before ++ e ∷ after → KnowsAll names e.class.path → class_named (table_of entries) names (class_guid e.class) ≡ Some e.class
class_is_named entries before e after names is split known =
    let class = is.classes before e after split in
    let named : path_up names 8 (class_guid e.class) ≡ Some (path_names e.class.path) = path_named names e.class.path class.path (path_segments entries before e after is split) known class.path_least class.path_most in
    let differ : paths_differ (map (λ (e : Entry). path_names e.class.path) (before ++ e ∷ after)) ≡ true = subst (λ (xs : List Entry). paths_differ (map (λ (e : Entry). path_names e.class.path) xs) ≡ true) split is.paths in
    let found : find (λ (class : Class). same_names class.path (path_names e.class.path)) (table_of entries) ≡ Some e.class = ap (λ (xs : List Entry). find (λ (class : Class). same_names class.path (path_names e.class.path)) (table_of xs)) split ∙ first_found before e after differ in
    ap (λ (o : Option (List (List ℕ))). option_and_then (λ (path : List (List ℕ)). find (λ (class : Class). same_names class.path path) (table_of entries)) o) named ∙ found

-- some of a path that stands among them does too
pub filter_stands : (whole : List Segment) (test : Segment → Bool) (path : List Segment) → StandAmong whole path → StandAmong whole (filter test path)
filter_stands whole test [] h = tt
filter_stands whole test (s ∷ path) h = by_test (test s) (filter_stands whole test path h.1)
  where
    by_test : (b : Bool) → StandAmong whole (filter test path) → StandAmong whole (cond b (s ∷ filter test path) (filter test path))
    by_test true later = (h.0, later)
    by_test false later = later

-- what an open exports of a class's path are segments of the table
pub exports_stand : (entries before : List Entry) (e : Entry) (after : List Entry) (test : Segment → Bool) → entries ≡ before ++ e ∷ after → StandAmong (segments_of entries) (filter test e.class.path)
exports_stand entries before e after test split =
    filter_stands (segments_of entries) test e.class.path (stand_class (segments_of entries) before e after (subst (λ (xs : List Entry). StandAmong (segments_of entries) (segments_of xs)) split (stand_of (segments_of entries) (segments_of entries) (λ n s e. (n, e)))))

-- ---- a class that stands in the table

-- what a client may learn from an open is learnt
pub may_learn : (entries : List Entry) (names : List Segment) (test : Segment → Bool) (class : Class) → MayLearn entries names test class → Learnt (segments_of entries) names test class.path
may_learn entries names test class may =
    let at = may.stands in
    let room = may.room in
    subst (λ (c : Class). Learnt (segments_of entries) names test c.path) at.4
    (class_learnt entries at.0 at.1 at.2 names test may.is_table at.3 may.among (subst (λ (c : Class). KnowsOthers names test c.path) (sym at.4) may.others) (omega (arith, room)))

-- and its path names it
pub class_is_named_in : (entries : List Entry) (names : List Segment) (class : Class) → IsTable entries → StandsIn entries class → KnowsAll names class.path → class_named (table_of entries) names (class_guid class) ≡ Some class
class_is_named_in entries names class is at known =
    subst (λ (c : Class). class_named (table_of entries) names (class_guid c) ≡ Some c) at.4
    (class_is_named entries at.0 at.1 at.2 names is at.3 (subst (λ (c : Class). KnowsAll names c.path) (sym at.4) known))
