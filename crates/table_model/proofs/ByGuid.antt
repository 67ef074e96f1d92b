-- A class by its guid: from the last segment of its path outwards, each guid tells the rest of the path.
use Rattle.std.proofs.Common.{◌≡◌, ℕ, zero, suc, ◌+◌, ◌*◌, ◌<◌, ◌≤◌, List, [], ◌∷◌, ◌++◌, length, take, drop, slice_get, true, ◌&&◌, ◌==◌, Some, refl, sym, ap, ◌∙◌, subst, append-nil, arith}
use Rattle.std.specs.Bool.{⊤}
use Rattle.std.specs.Str.{bytes_eq}
use Rattle.std.proofs.lemmas.Bool.{and_parts}
use Rattle.std.proofs.lemmas.Bool.Decides.{Decides-eqb}
use Rattle.std.proofs.lemmas.Option.{none-some, same_Some, slice_get_within, get_or_from_slice_get}
use Rattle.protocol_model.specs.Value.{Segment, guid_of, class_guid}
use Rattle.table_model.specs.Words.{is_name}
use Rattle.table_model.specs.Rules.{Entry, path_names, segments_of}
use Rattle.table_model.specs.Facts.{is_chain, IsClass, AreSegments, IsTable}
use Rattle.table_model.proofs.Lists.{split_at}
use Rattle.table_model.proofs.Names.{same_name}
use Rattle.table_model.proofs.Segments.{AreKnown, known_of}
use Rattle.table_model.proofs.Tables.{table_paths}

-- ---- a list turned round

-- the items, last first, before these
abbrev turn : {A : Type 0} → (these items : List A) → List A
turn these [] = these
turn these (x ∷ items) = turn (x ∷ these) items

turn_twice : {A : Type 0} (c b items : List A) → turn c (turn b items) ≡ turn (items ++ c) b
turn_twice c b [] = refl
turn_twice c b (x ∷ items) = turn_twice c (x ∷ b) items

turn_back : {A : Type 0} (items : List A) → turn [] (turn [] items) ≡ items
turn_back items = turn_twice [] [] items ∙ append-nil items

turn_names : (these path : List Segment) → path_names (turn these path) ≡ turn (path_names these) (path_names path)
turn_names these [] = refl
turn_names these (s ∷ path) = turn_names (s ∷ these) path

-- ---- segments that stand in a list

-- the segment stands in the list
abbrev IsIn : List Segment → Segment → Type 0
IsIn segments s = (n : ℕ) × (slice_get segments n ≡ Some s)

-- and each of these does
abbrev AllIn : (segments these : List Segment) → Type 0
AllIn segments [] = ⊤
AllIn segments (s ∷ these) = IsIn segments s × AllIn segments these

all_in : (a b these : List Segment) → ((s : Segment) → IsIn a s → IsIn b s) → AllIn a these → AllIn b these
all_in a b [] h p = tt
all_in a b (s ∷ these) h p = (h s p.0, all_in a b these h p.1)

in_front : (a b : List Segment) (s : Segment) (n : ℕ) → slice_get a n ≡ Some s → IsIn (a ++ b) s
in_front [] b s n h = absurd (none-some s h)
in_front (x ∷ a) b s zero h = (0, h)
in_front (x ∷ a) b s (suc n) h = let i = in_front a b s n h in (suc i.0, i.1)

in_back : (a b : List Segment) (s : Segment) → IsIn b s → IsIn (a ++ b) s
in_back [] b s i = i
in_back (x ∷ a) b s i = let j = in_back a b s i in (suc j.0, j.1)

all_in_itself : (these : List Segment) → AllIn these these
all_in_itself [] = tt
all_in_itself (s ∷ these) =
    ((0, refl), all_in these (s ∷ these) these (λ x i. (suc i.0, i.1)) (all_in_itself these))

all_in_turned : (segments these path : List Segment) → AllIn segments these → AllIn segments path
    → AllIn segments (turn these path)
all_in_turned segments these [] p q = p
all_in_turned segments these (s ∷ path) p q = all_in_turned segments (s ∷ these) path (q.0, p) q.1

-- the segments of a class's path are the table's
path_in : (entries : List Entry) (n : ℕ) (e : Entry) → slice_get entries n ≡ Some e
    → AllIn (segments_of entries) e.class.path
path_in [] n e h = absurd (none-some e h)
path_in (d ∷ entries) zero e h =
    let front = λ (s : Segment) (i : IsIn d.class.path s). in_front d.class.path (segments_of entries) s i.0 i.1 in
    subst (λ (x : Entry). AllIn (d.class.path ++ segments_of entries) x.class.path) (same_Some d e h)
    (all_in d.class.path _ d.class.path front (all_in_itself d.class.path))
path_in (d ∷ entries) (suc n) e h =
    all_in (segments_of entries) _ e.class.path (in_back d.class.path (segments_of entries)) (path_in entries n e h)

-- ---- a path from its last segment

-- the guid of the first of these
abbrev first_guid : List Segment → ℕ
first_guid [] = 0
first_guid (s ∷ these) = s.guid

-- each stands under the next one, and the last one under none
abbrev Climbs : List Segment → Type 0
Climbs [] = ⊤
Climbs (s ∷ these) = (s.outer ≡ first_guid these) × Climbs these

turn_climbs : (these path : List Segment) → Climbs these → is_chain (first_guid these) path ≡ true
    → Climbs (turn these path)
turn_climbs these [] c h = c
turn_climbs these (s ∷ path) c h =
    let p = and_parts (s.outer == first_guid these && is_name s.name) (is_chain s.guid path) h in
    let q = and_parts (s.outer == first_guid these) (is_name s.name) p.0 in
    turn_climbs (s ∷ these) path ((Decides-eqb s.outer (first_guid these)).0 q.0, c) p.1

turn_guid : (these : List Segment) (s : Segment) (path : List Segment)
    → first_guid (turn these (s ∷ path)) ≡ guid_of (s ∷ path)
turn_guid these s [] = refl
turn_guid these s (t ∷ path) = turn_guid (s ∷ these) t path

last_guid : (path : List Segment) → first_guid (turn [] path) ≡ guid_of path
last_guid [] = refl
last_guid (s ∷ path) = turn_guid [] s path

never_none : (segments : List Segment) (s : Segment) → AreKnown segments → IsIn segments s → 0 ≡ s.guid → ⊥
never_none segments s k i e = let g = k.guid i.0 s i.1 in let f = g.1 in absurd (omega (arith, e, f))

-- segments that climb from one guid have the same names
climb_alike : (segments a b : List Segment) → AreKnown segments → AllIn segments a → AllIn segments b → Climbs a
    → Climbs b → first_guid a ≡ first_guid b → path_names a ≡ path_names b
climb_alike segments [] [] k p q c d e = refl
climb_alike segments [] (t ∷ b) k p q c d e = absurd (never_none segments t k q.0 e)
climb_alike segments (s ∷ a) [] k p q c d e = absurd (never_none segments s k p.0 (sym e))
climb_alike segments (s ∷ a) (t ∷ b) k p q c d e =
    let one = k.same p.0.0 q.0.0 s t p.0.1 q.0.1 in
    let u = and_parts (s.outer == t.outer) (bytes_eq s.name t.name) (sym one ∙ (Decides-eqb s.guid t.guid).1 e) in
    let outer = sym c.0 ∙ (Decides-eqb s.outer t.outer).0 u.0 ∙ d.0 in
    let name = same_name s.name t.name u.1 in
    let rest = climb_alike segments a b k p.1 q.1 c.1 d.1 outer in cc

-- paths of a table with one guid have the same names
pub path_of_guid : (segments a b : List Segment) → AreKnown segments → AllIn segments a → AllIn segments b
    → is_chain 0 a ≡ true → is_chain 0 b ≡ true → guid_of a ≡ guid_of b → path_names a ≡ path_names b
path_of_guid segments a b k p q c d e =
    let all = λ (path : List Segment) (i : AllIn segments path). all_in_turned segments [] path tt i in
    let climb = λ (path : List Segment) (h : is_chain 0 path ≡ true). turn_climbs [] path tt h in
    let from = last_guid a ∙ e ∙ sym (last_guid b) in
    let turned = climb_alike segments (turn [] a) (turn [] b) k (all a p) (all b q) (climb a c) (climb b d) from in
    let names = sym (turn_names [] a) ∙ turned ∙ turn_names [] b in
    sym (turn_back (path_names a)) ∙ ap (turn []) names ∙ turn_back (path_names b)

-- ---- a class by its guid

class_at : (entries : List Entry) (n : ℕ) (e : Entry) → IsTable entries → slice_get entries n ≡ Some e
    → IsClass (take n entries) e
class_at entries n e t h =
    let split = split_at entries n e (slice_get_within entries n e h) in
    let same = get_or_from_slice_get entries n e e h in
    let at = split ∙ ap (λ x. take n entries ++ x ∷ drop (suc n) entries) same in
    t.classes (take n entries) e (drop (suc n) entries) at

-- a guid is that of one class at most
pub table_guids : (entries : List Entry) (m n : ℕ) (d e : Entry) → IsTable entries → slice_get entries m ≡ Some d
    → slice_get entries n ≡ Some e → class_guid d.class ≡ class_guid e.class → m ≡ n
table_guids entries m n d e t a b same =
    let k = known_of (segments_of entries) t.segments in
    let c = class_at entries m d t a in
    let f = class_at entries n e t b in
    let p = path_in entries m d a in
    let q = path_in entries n e b in
    table_paths entries m n d e t a b (path_of_guid (segments_of entries) _ _ k p q c.path f.path same)

-- ---- which guids classes have

-- a guid is 3, 5 and on, up to 2,049
abbrev InRange : ℕ → Type 0
InRange guid = (i : ℕ) × (i < 1024) × (guid ≡ 2 * i + 3)

last_in_range : (segments : List Segment) (s : Segment) (path : List Segment) → AreSegments segments
    → AllIn segments (s ∷ path) → InRange (guid_of (s ∷ path))
last_in_range segments s [] a p = a.guid p.0.0 s p.0.1
last_in_range segments s (t ∷ path) a p = last_in_range segments t path a p.1

path_in_range : (segments path : List Segment) → AreSegments segments → AllIn segments path → 1 ≤ length path
    → InRange (guid_of path)
path_in_range segments [] a p least = absurd (omega (arith, least))
path_in_range segments (s ∷ path) a p least = last_in_range segments s path a p

-- a class's guid is in the range of a table's
pub guid_in_range : (entries : List Entry) (n : ℕ) (e : Entry) → IsTable entries → slice_get entries n ≡ Some e
    → (i : ℕ) × (i < 1024) × (class_guid e.class ≡ 2 * i + 3)
guid_in_range entries n e t h =
    let c = class_at entries n e t h in
    path_in_range (segments_of entries) e.class.path t.segments (path_in entries n e h) c.path_least
