-- The rules of a table hold of no classes, and of classes with an accepted one behind them.
use Rattle.std.proofs.Common.{◌≡◌, ℕ, suc, ◌+◌, ◌<◌, ◌≤◌, List, [], ◌∷◌, ◌++◌, length, take, drop, true, false, ◌&&◌, nat_le, inl, inr, Option, Some, None, Ok, refl, sym, ap, ◌∙◌, subst, subst₂, arith}
use Rattle.std.specs.List.{list_all}
use Rattle.std.proofs.lemmas.Bool.{and_parts, leb-true}
use Rattle.std.proofs.lemmas.List.{map_push, length_push}
use Rattle.std.proofs.lemmas.Option.{none-some}
use Rattle.serde_json.specs.Data.{Data}
use Rattle.protocol_model.specs.Value.{Prop, Call, Class, handle_count}
use Rattle.protocol_model.specs.World.{no_class}
use Rattle.table_model.specs.declared.Place.{Place}
use Rattle.table_model.specs.declared.TableWhy.TheVariants.{TooMany}
use Rattle.table_model.specs.Checked.{each_after}
use Rattle.table_model.specs.Words.{is_name}
use Rattle.table_model.specs.Rules.{Entry, Heading, heading_after, property_after, call_after, is_there, class_names, path_names, has_path, segments_of, next_guid}
use Rattle.table_model.specs.Grammar.{parent_in, sizes_fit, class_with, class_after, classes_after}
use Rattle.table_model.specs.Facts.{are_distinct, paths_differ, IsClass, IsTableSoFar, AreSegments}
use Rattle.table_model.proofs.Lists.{EndsOrGoesOn, parts_push, split_at, BeginsWith}
use Rattle.table_model.proofs.Checking.{then_ok, at_then, must_hold, same_ok}
use Rattle.table_model.proofs.Names.{distinct_push}
use Rattle.table_model.proofs.Paths.{paths_of, has_path_is, differ_push}
use Rattle.table_model.proofs.Members.{AreProps, AreCalls, props_are, calls_are}
use Rattle.table_model.proofs.Segments.{known_of, segments_push}
use Rattle.table_model.proofs.Guids.{path_known, path_has_names, path_length, path_chains, segments_are}
use Rattle.table_model.proofs.Types.{are_path_names}
use Rattle.table_model.proofs.Headings.{StandsIn, IsHeading, heading_is}

-- ---- what a class inherits

-- inherited properties keep the rules of properties, and inherited calls those of calls
pub inherited_are : (before : List Entry) (parent : Option ℕ) → IsTableSoFar before → StandsIn before parent
    → AreProps (parent_in before parent).props × AreCalls (parent_in before parent).calls
inherited_are before None t p = (record { names = refl; each = refl }, record { names = refl; each = refl })
inherited_are before (Some n) t p =
    let none : Entry = record { parent = None; class = no_class } in
    let c = t.classes (take n before) _ (drop (suc n) before) (split_at before n none p) in
    (record { names = c.prop_names; each = c.props }, record { names = c.call_names; each = c.calls })

-- ---- classes with one more

-- a class that goes behind these
pub record FollowsOn (before : List Entry) (e : Entry) : Type 0 where
  pub is : IsClass before e
  pub new_name : is_there (class_names before) e.class.name ≡ false
  pub new_path : has_path before (path_names e.class.path) ≡ false
  pub segments : AreSegments (segments_of before ++ e.class.path)

not_empty : (before : List Entry) (e : Entry) (after : List Entry) → [] ≡ before ++ e ∷ after → ⊥
not_empty [] e after h = cc
not_empty (d ∷ before) e after h = cc

-- the rules hold of no classes
pub none_so_far : IsTableSoFar []
none_so_far = record {
  most = omega arith;
  names = refl;
  paths = refl;
  classes = λ before e after h. absurd (not_empty before e after h);
  segments = record { same = λ m n s t h. absurd (none-some s h); guid = λ n s h. absurd (none-some s h) };
}

-- and of classes with one more that goes behind them
pub so_far_push : (before : List Entry) (e : Entry) → IsTableSoFar before → length before < 256 → FollowsOn before e
    → IsTableSoFar (before ++ e ∷ [])
so_far_push before e t room f = record {
  most = omega (arith, length_push before e);
  names = rw (map_push (λ (x : Entry). x.class.name) before e) names;
  paths = rw (map_push (λ (x : Entry). path_names x.class.path) before e) paths;
  classes = λ these c more h. class_of these c (parts_push before these more e c h);
  segments = subst AreSegments (sym (segments_push before e)) f.segments;
}
  where
    names : are_distinct (class_names before ++ e.class.name ∷ []) ≡ true
    names = distinct_push (class_names before) e.class.name t.names f.new_name

    paths : paths_differ (paths_of before ++ path_names e.class.path ∷ []) ≡ true
    paths =
        let path = path_names e.class.path in
        differ_push (paths_of before) path t.paths (has_path_is before path ∙ f.new_path)

    class_of : (these : List Entry) (c : Entry) → EndsOrGoesOn before these e c → IsClass these c
    class_of these c (inl m) = t.classes these c m.0 m.1
    class_of these c (inr m) = subst₂ IsClass m.0 m.1 f.is

-- ---- an accepted class

sizes_are : (before : List Entry) (class : Class) → sizes_fit before class ≡ true
    → (handle_count class ≤ 200) × (length class.calls ≤ 64) × (next_guid (segments_of before ++ class.path) ≤ 2051)
sizes_are before class h =
    let p = and_parts (nat_le (handle_count class) 200 && nat_le (length class.calls) 64) _ h in
    let q = and_parts (nat_le (handle_count class) 200) _ p.0 in
    (leb-true _ 200 q.0, leb-true _ 64 q.1, leb-true _ 2051 p.1)

counts_are : (names : List (List ℕ)) → are_path_names names ≡ true
    → (1 ≤ length names) × (length names ≤ 8) × (list_all is_name names ≡ true)
counts_are names h =
    let p = and_parts (nat_le 1 (length names) && nat_le (length names) 8) _ h in
    let q = and_parts (nat_le 1 (length names)) _ p.0 in (leb-true 1 _ q.0, leb-true _ 8 q.1, p.1)

-- a class of an accepted heading, properties and calls goes behind those before it
pub class_follows : (before : List Entry) (h : Heading) (props : List Prop) (calls : List Call) → IsTableSoFar before
    → IsHeading before h
    → AreProps props × BeginsWith (parent_in before h.parent).props props
    → AreCalls calls × BeginsWith (parent_in before h.parent).calls calls
    → sizes_fit before (class_with before h props calls) ≡ true
    → FollowsOn before (record { parent = h.parent; class = class_with before h props calls })
class_follows before h props calls t head p c fit =
    let known = segments_of before in
    let size = sizes_are before (class_with before h props calls) fit in
    let path = counts_are h.path head.path in
    let count = sym (path_length known 0 h.path) in
    record {
      is = record {
        name = head.name;
        parent = head.parent;
        inherits_props = p.1;
        inherits_calls = c.1;
        prop_names = p.0.names;
        call_names = c.0.names;
        props = p.0.each;
        calls = c.0.each;
        handles = size.0;
        calls_most = size.1;
        priority_least = head.priority.0;
        priority_most = head.priority.1;
        reach = head.reach;
        path_least = subst (λ (n : ℕ). 1 ≤ n) count path.0;
        path_most = subst (λ (n : ℕ). n ≤ 8) count path.1;
        path = path_chains known 0 h.path path.2;
      };
      new_name = head.new_name;
      new_path = rw (path_has_names known 0 h.path) head.new_path;
      segments = segments_are _ (path_known known 0 h.path (known_of known t.segments)) size.2;
    }

-- an accepted class goes behind those before it
pub class_is : (k : ℕ) (before : List Entry) (d : Data) (e : Entry) → IsTableSoFar before
    → class_after k before d ≡ Ok e → FollowsOn before e
class_is k before d e t h =
    let a = at_then (Place.Class k) (heading_after before d) _ e h in
    let head = heading_is before d a.0 a.1 in
    let parent = parent_in before a.0.parent in
    let inherited = inherited_are before a.0.parent t head.parent in
    let props = then_ok (each_after property_after (Place.Property k) parent.props 1 a.0.properties) _ e a.2 in
    let calls = then_ok (each_after call_after (Place.Call k) parent.calls 1 a.0.calls) _ e props.2 in
    let size = at_then (Place.Class k) _ _ e calls.2 in
    let props_is = props_are (Place.Property k) parent.props a.0.properties props.0 inherited.0 props.1 in
    let calls_is = calls_are (Place.Call k) parent.calls a.0.calls calls.0 inherited.1 calls.1 in
    subst (FollowsOn before) (same_ok _ e size.2)
    (class_follows before a.0 props.0 calls.0 t head props_is calls_is (must_hold _ TooMany size.0 size.1))

-- the rules hold with an accepted class behind those before it
pub class_keeps : (k : ℕ) (before : List Entry) (d : Data) (e : Entry) → IsTableSoFar before → length before < 256
    → class_after k before d ≡ Ok e → IsTableSoFar (before ++ e ∷ [])
class_keeps k before d e t room h = so_far_push before e t room (class_is k before d e t h)

-- and with all of some accepted classes, up to 256
pub classes_keep : (before : List Entry) (ds : List Data) (all : List Entry) → IsTableSoFar before
    → length before + length ds ≤ 256 → classes_after before ds ≡ Ok all
    → IsTableSoFar all × (length all ≡ length before + length ds)
classes_keep before [] all t room h =
    let same = same_ok before all h in
    (subst IsTableSoFar same t, let e = ap (λ (entries : List Entry). length entries) same in omega (arith, e))
classes_keep before (d ∷ ds) all t room h =
    let a = then_ok (class_after (length before + 1) before d) _ all h in
    let more = length_push before a.0 in
    let one = class_keeps _ before d a.0 t (omega arith) a.1 in
    let rest = classes_keep (before ++ a.0 ∷ []) ds all one (omega (arith, more)) a.2 in
    (rest.0, let e = rest.1 in omega (arith, e, more))
