-- The classes of a table in memory: each is the one at its place, within the limits of tables.
use Rattle.std.proofs.Common.{◌≡◌, ℕ, zero, suc, List, [], ◌∷◌, ◌++◌, map, take, drop, Bool, false, ◌&&◌, Some, refl, sym, ap, ◌∙◌, arith}
use Rattle.std.specs.Prelude.{slice_get, slice_index_or}
use Rattle.std.specs.List.{list_all}
use Rattle.std.proofs.lemmas.List.{length-map}
use Rattle.protocol_model.specs.Value as Model
use Rattle.protocol_model.specs.World.{class_at, no_class}
use Rattle.table_model.specs.Facts.{IsTable, is_type}
use Rattle.table_model.specs.Rules.{Entry}
use Rattle.class_members.specs.Members.{prop_of, call_of}
use Rattle.class_members.specs.declared.members.Prop.{Prop}
use Rattle.class_layout.specs.Tables.{Layout, class_of, entry_of, entries_in, table_in}
use Rattle.class_layout.specs.declared.class.Class.{Class}
use Rattle.class_layout.specs.declared.class.Segment.{Segment}
use Rattle.payload_laws.proofs.TableFacts.{limits_in}
use Rattle.payload_reading.specs.TableLimits.{HasTableLimits}

class_in : (segments : List Segment) (classes : List Class) (i : ℕ) (c : Class)
    → slice_get classes i ≡ Some c
    → slice_index_or (map (λ (e : Entry). e.class) (map (entry_of segments) classes)) i no_class
    ≡ class_of segments c
class_in segments [] i c e = absurd (cc)
class_in segments (x ∷ classes) zero c e =
    let same : x ≡ c = cc in ap (class_of segments) same
class_in segments (x ∷ classes) (suc i) c e = class_in segments classes i c e

pub class_is : (layout : Layout) (i : ℕ) (c : Class) → slice_get layout.classes i ≡ Some c
    → class_of layout.segments c ≡ class_at (table_in layout) i
class_is layout i c e = sym (class_in layout.segments layout.classes i c e)

-- the entries of a table around one of its classes
split_at : (segments : List Segment) (classes : List Class) (i : ℕ) (c : Class)
    → slice_get classes i ≡ Some c
    → map (entry_of segments) classes ≡ map (entry_of segments) (take i classes)
    ++ entry_of segments c ∷ map (entry_of segments) (drop (suc i) classes)
split_at segments [] i c e = absurd (cc)
split_at segments (x ∷ classes) zero c e =
    let same : x ≡ c = cc in
    ap (λ (y : Class). entry_of segments y ∷ map (entry_of segments) classes) same
split_at segments (x ∷ classes) (suc i) c e =
    ap (λ (l : List Entry). entry_of segments x ∷ l) (split_at segments classes i c e)

kinds_same : (props : List Prop)
    → list_all (λ (p : Model.Prop). is_type false p.kind) (map prop_of props)
    ≡ list_all (λ (p : Prop). is_type false p.kind) props
kinds_same [] = refl
kinds_same (p ∷ props) = ap (λ (b : Bool). is_type false p.kind && b) (kinds_same props)

pub limits_kept : (layout : Layout) (i : ℕ) (c : Class) → IsTable (entries_in layout)
    → slice_get layout.classes i ≡ Some c → HasTableLimits c
limits_kept layout i c table e =
    let entry = entry_of layout.segments in
    let limits = limits_in (entries_in layout) (map entry (take i layout.classes)) (entry c)
    (map entry (drop (suc i) layout.classes)) table
    (split_at layout.segments layout.classes i c e) in
    let handles = limits.handles in
    let calls = limits.call_count in
    record {
      props = sym (kinds_same c.props) ∙ limits.props;
      calls = limits.calls;
      handles = omega (arith, handles, length-map c.props prop_of);
      call_count = omega (arith, calls, length-map c.calls call_of);
    }
