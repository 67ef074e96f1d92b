-- The classes and segments of an accepted table are such as payloads can spell.
use Rattle.std.proofs.Common.{◌≡◌, ℕ, suc, ◌<◌, ◌≤◌, ◌+◌, ◌*◌, ◌^◌, List, [], ◌∷◌, ◌++◌, Bool, true, false, cond, Option, Some, None, option_and_then, slice_get, find, refl, ap, subst, arith, length}
use Rattle.std.specs.Prelude.{⊤}
use Rattle.std.specs.List.{list_all}
use Rattle.std.specs.Char.{is_ascii_alphabetic}
use Rattle.std.proofs.lemmas.Bool.Decides.{nat_tests}
use Rattle.std.proofs.lemmas.Bool.{and_parts, and_from, ltb-true, eqb-true}
use Rattle.protocol_model.specs.Value.{Prop, Segment, Class, guid_of, class_guid}
use Rattle.table_model.specs.Words as Words
use Rattle.table_model.specs.Facts.{IsTable, IsClass, is_type, is_prop, is_chain}
use Rattle.table_model.specs.Rules.{Entry, segments_of}
use Rattle.table_model.specs.Grammar.{table_of}
use Rattle.connection_model.specs.Names as Names
use Rattle.connection_model.specs.Names.{class_named, path_up, same_names}
use Rattle.payload_laws.specs.Limits.{HasLimits, AreSegments}

-- ---- limits

-- the kinds of a class may stand among properties
types_of : (props : List Prop) → list_all is_prop props ≡ true → list_all (λ (p : Prop). is_type false p.kind) props ≡ true
types_of [] h = refl
types_of (p ∷ props) h = and_from (is_type false p.kind) _ (and_parts _ _ (and_parts _ _ (and_parts _ _ h).0).0).1 (types_of props (and_parts _ _ h).1)

-- a class that a table takes keeps the limits
pub class_limits : (before : List Entry) (e : Entry) → IsClass before e → HasLimits e.class
class_limits before e is = record { props = types_of e.class.props is.props; calls = is.calls; handles = is.handles; call_count = is.calls_most }

-- where a class that is found stands
record Found (p : Class → Bool) (entries : List Entry) (class : Class) : Type 0 where
  pub before : List Entry
  pub entry : Entry
  pub after : List Entry
  pub split : entries ≡ before ++ entry ∷ after
  pub is : entry.class ≡ class

found_in : (p : Class → Bool) (entries : List Entry) (class : Class) → find p (table_of entries) ≡ Some class → Found p entries class
found_in p [] class h = absurd (cc)
found_in p (e ∷ entries) class h = by_test (p e.class) h (λ k. found_in p entries class k)
  where
    same : (a b : Class) → Some a ≡ Some b → a ≡ b
    same a b h = cc

    by_test : (b : Bool) → cond b (Some e.class) (find p (table_of entries)) ≡ Some class → (find p (table_of entries) ≡ Some class → Found p entries class) → Found p (e ∷ entries) class
    by_test true h later = record { before = []; entry = e; after = entries; split = refl; is = same e.class class h }
    by_test false h later =
        let f = later h in
        record { before = e ∷ f.before; entry = f.entry; after = f.after; split = ap (λ (xs : List Entry). e ∷ xs) f.split; is = f.is }

-- a class that names name has limits
pub named_limits : (entries : List Entry) (names : List Segment) (guid : ℕ) (class : Class) → IsTable entries → class_named (table_of entries) names guid ≡ Some class → HasLimits class
named_limits entries names guid class is h = by_path (path_up names 8 guid) h
  where
    by_path : (o : Option (List (List ℕ))) → option_and_then (λ (path : List (List ℕ)). find (λ (class : Class). same_names class.path path) (table_of entries)) o ≡ Some class → HasLimits class
    by_path None h = absurd (cc)
    by_path (Some path) h =
        let f = found_in (λ (class : Class). same_names class.path path) entries class h in
        subst (λ (c : Class). HasLimits c) f.is (class_limits f.before f.entry (is.classes f.before f.entry f.after f.split))

-- ---- segments

-- a name's characters are the same in both definitions
chars_same : (cs : List ℕ) → list_all Words.is_name_byte cs ≡ true → list_all Names.is_name_char cs ≡ true
chars_same [] h = refl
chars_same (c ∷ cs) h = and_from (Names.is_name_char c) (list_all Names.is_name_char cs) (one c (and_parts _ _ h).0) (chars_same cs (and_parts _ _ h).1)
  where
    one : (c : ℕ) → Words.is_name_byte c ≡ true → Names.is_name_char c ≡ true
    one c h = grind (arith, nat_tests)

-- a name of a table is a name to the reader
name_same : (name : List ℕ) → Words.is_name name ≡ true → (Names.is_segment_name name ≡ true) × (length name ≤ 31)
name_same [] h = absurd (cc)
name_same (c ∷ cs) h =
    let few : length cs < 31 = ltb-true (length cs) 31 (and_parts _ _ h).1 in (
      and_from (Names.is_letter c) (list_all Names.is_name_char cs) (first c (and_parts (is_ascii_alphabetic c) _ (and_parts _ _ h).0).0) (chars_same cs (and_parts _ _ (and_parts _ _ h).0).1),
      omega (arith, few),
    )
  where
    first : (c : ℕ) → is_ascii_alphabetic c ≡ true → Names.is_letter c ≡ true
    first c h = grind (arith, nat_tests)

-- each has one of the first 1,024 guids
abbrev AreNumbered : List Segment → Type 0
AreNumbered [] = ⊤
AreNumbered (s ∷ segments) = ((i : ℕ) × (i < 1024) × (s.guid ≡ 2 * i + 3)) × AreNumbered segments

numbered_of : (segments : List Segment) → ((n : ℕ) (s : Segment) → slice_get segments n ≡ Some s → (i : ℕ) × (i < 1024) × (s.guid ≡ 2 * i + 3)) → AreNumbered segments
numbered_of [] h = tt
numbered_of (s ∷ segments) h = (h 0 s refl, numbered_of segments (λ n t e. h (suc n) t e))

numbered_left : (xs ys : List Segment) → AreNumbered (xs ++ ys) → AreNumbered xs
numbered_left [] ys h = tt
numbered_left (x ∷ xs) ys h = (h.0, numbered_left xs ys h.1)

numbered_right : (xs ys : List Segment) → AreNumbered (xs ++ ys) → AreNumbered ys
numbered_right [] ys h = h
numbered_right (x ∷ xs) ys h = numbered_right xs ys h.1

-- a class's segments have guids of the table
numbered_class : (before : List Entry) (e : Entry) (after : List Entry) → AreNumbered (segments_of (before ++ e ∷ after)) → AreNumbered e.class.path
numbered_class [] e after h = numbered_left e.class.path (segments_of after) h
numbered_class (x ∷ before) e after h = numbered_class before e after (numbered_right x.class.path (segments_of (before ++ e ∷ after)) h)

-- each segment of such a path can be exported
chain_segments : (outer : ℕ) (path : List Segment) → outer < 2 ^ 32 → is_chain outer path ≡ true → AreNumbered path → AreSegments path
chain_segments outer [] o h n = tt
chain_segments outer (s ∷ path) o h n =
    let i = n.0.0 in
    let few = n.0.1 in
    let guid = n.0.2 in
    let named = name_same s.name (and_parts _ _ (and_parts _ _ h).0).1 in
    let under : s.outer ≡ outer = eqb-true s.outer outer (and_parts _ _ (and_parts _ _ h).0).0 in (
      record {
        odd = omega (arith, guid);
        least = omega (arith, guid);
        guid = omega (arith, guid, few);
        outer = omega (arith, under, o);
        name = named.0;
        short = named.1;
      },
      chain_segments s.guid path (omega (arith, guid, few)) (and_parts _ _ h).1 n.1,
    )

-- each segment of a class's path can be exported
pub path_segments : (entries before : List Entry) (e : Entry) (after : List Entry) → IsTable entries → entries ≡ before ++ e ∷ after → AreSegments e.class.path
path_segments entries before e after is split =
    let numbered = numbered_of (segments_of entries) is.segments.guid in
    chain_segments 0 e.class.path (omega arith) (is.classes before e after split).path (numbered_class before e after (subst (λ (xs : List Entry). AreNumbered (segments_of xs)) split numbered))

-- the last of them has the class's guid
guid_below : (path : List Segment) → AreSegments path → guid_of path < 2 ^ 32
guid_below [] h = omega arith
guid_below (s ∷ []) h = h.0.guid
guid_below (s ∷ t ∷ path) h = guid_below (t ∷ path) h.1

-- the guid of a class of the table has 32 bits
pub class_below : (entries before : List Entry) (e : Entry) (after : List Entry) → IsTable entries → entries ≡ before ++ e ∷ after → class_guid e.class < 2 ^ 32
class_below entries before e after is split = guid_below e.class.path (path_segments entries before e after is split)

-- a class of the table keeps the limits
pub limits_in : (entries before : List Entry) (e : Entry) (after : List Entry) → IsTable entries → entries ≡ before ++ e ∷ after → HasLimits e.class
limits_in entries before e after is split = class_limits before e (is.classes before e after split)

-- its path has at most eight segments
pub few_in : (entries before : List Entry) (e : Entry) (after : List Entry) → IsTable entries → entries ≡ before ++ e ∷ after → length e.class.path ≤ 8
few_in entries before e after is split = (is.classes before e after split).path_most
