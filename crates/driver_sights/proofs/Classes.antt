-- Classes in memory, and how an actor stands.
use Rattle.std.proofs.Common.{◌≡◌, ◌≢◌, ℕ, zero, suc, ◌+◌, ◌-◌, ◌≤◌, ◌<◌, List, [], ◌∷◌, ◌++◌, map, length, Option, Some, None, option_map, refl, sym, ap, ◌∙◌, subst, arith, append_assoc}
use Rattle.std.specs.Prelude.{slice_get, slice_index_or}
use Rattle.std.proofs.lemmas.List.{map-append, length-map}
use Rattle.std.proofs.lemmas.Option.{none-some, same_Some}
use Rattle.protocol_model.specs.Limits.{handle_limit}
use Rattle.protocol_model.specs.Value.{Table, Class, handle_count}
use Rattle.protocol_model.specs.World.{Edits, Spawned, spawn_of, class_at, class_in, class_of, no_class, is_dormant, flush_of}
use Rattle.table_model.specs.Facts.{IsTable}
use Rattle.table_model.specs.Rules.{Entry}
use Rattle.class_layout.specs.Tables.{Layout, table_in, entries_in, entry_of, class_of as class_value}
use Rattle.class_layout.specs.declared.class.Class.{Class as ClassKept}
use Rattle.class_layout.specs.declared.class.Segment.{Segment}
use Rattle.class_members.specs.Members.{prop_of}
use Rattle.world_table.specs.Answers.{look_of, spawned_look}
use Rattle.world_table.specs.declared.edit.Look.{Look}
use Rattle.driver_laws.specs.Counted.{cells_of}

found : (segments : List Segment) (classes : List ClassKept) (n : ℕ) (c : ClassKept) → slice_get classes n ≡ Some c
    → slice_index_or (map (λ (e : Entry). e.class) (map (entry_of segments) classes)) n no_class
    ≡ class_value segments c
found segments [] n c e = absurd (none-some c e)
found segments (x ∷ classes) zero c e = ap (class_value segments) (same_Some x c e)
found segments (x ∷ classes) (suc n) c e = found segments classes n c e

pub class_there : (layout : Layout) (n : ℕ) (c : ClassKept) → slice_get layout.classes n ≡ Some c
    → class_at (table_in layout) n ≡ class_value layout.segments c
class_there layout n c e = found layout.segments layout.classes n c e

pub within : {A : Type 0} (xs : List A) (n : ℕ) (x : A) → slice_get xs n ≡ Some x → n + 1 ≤ length xs
within [] n x e = absurd (none-some x e)
within (y ∷ xs) zero x e = omega arith
within (y ∷ xs) (suc n) x e = (let h = within xs n x e in omega (arith, h))

few_from : (segments : List Segment) (before rest : List ClassKept) (n : ℕ) (c : ClassKept) → slice_get rest n ≡ Some c
    → IsTable (map (entry_of segments) (before ++ rest)) → length c.props + 3 ≤ handle_limit
few_from segments before [] n c e h = absurd (none-some c e)
few_from segments before (x ∷ rest) zero c e h =
    let is = h.classes (map (entry_of segments) before) (entry_of segments x) (map (entry_of segments) rest)
    (map-append (entry_of segments) before (x ∷ rest)) in
    let many = is.handles in
    let l = length-map x.props prop_of in
    let same = ap (λ (c : ClassKept). length c.props) (same_Some x c e) in
    omega (arith, many, l, same)
few_from segments before (x ∷ rest) (suc n) c e h =
    few_from segments (before ++ x ∷ []) rest n c e
    (subst (λ (cs : List ClassKept). IsTable (map (entry_of segments) cs)) (sym (append_assoc before (x ∷ []) rest)) h)

pub few_there : (layout : Layout) (n : ℕ) (c : ClassKept) → slice_get layout.classes n ≡ Some c
    → IsTable (entries_in layout) → length c.props + 3 ≤ handle_limit
few_there layout n c e h = few_from layout.segments [] layout.classes n c e h

-- as many values as a sample of the class has
pub cells_there : (segments : List Segment) (c : ClassKept)
    → handle_count (class_value segments c) - 1 ≡ length c.props + 2
cells_there segments c = (let l = length-map c.props prop_of in omega (arith, l))

-- what a look tells of an actor
pub record LookIs (table : Table) (edits : Edits) (a : ℕ) (look : Look) : Type 0 where
  pub spawned : spawn_of edits a ≢ None
  pub class : class_of table edits a ≡ class_at table look.class
  pub dormant : look.dormant ≡ is_dormant edits a
  pub flush : look.flush ≡ flush_of edits a

pub look_is : (table : Table) (edits : Edits) (a : ℕ) (look : Look) → look_of table edits a ≡ Some look
    → LookIs table edits a look
look_is table edits a look e = by (spawn_of edits a) refl e
  where
    by : (o : Option Spawned) → spawn_of edits a ≡ o → option_map (spawned_look table edits a) o ≡ Some look
        → LookIs table edits a look
    by None q e = absurd (none-some look e)
    by (Some s) q e =
        let is : spawned_look table edits a s ≡ look = same_Some (spawned_look table edits a s) look e in
        record {
          spawned = λ none. none-some s (sym none ∙ q);
          class = ap (class_in table) q ∙ ap (λ (l : Look). class_at table l.class) is;
          dormant = ap (λ (l : Look). l.dormant) (sym is);
          flush = ap (λ (l : Look). l.flush) (sym is);
        }

-- an actor that was spawned, in a world over a table that keeps its rules: its class in memory
pub record FoundIs (layout : Layout) (edits : Edits) (a : ℕ) (look : Look) (c : ClassKept) : Type 0 where
  pub is : LookIs (table_in layout) edits a look
  pub there : look.class < length layout.classes
  pub value : class_at (table_in layout) look.class ≡ class_value layout.segments c
  pub class : class_of (table_in layout) edits a ≡ class_value layout.segments c
  pub few : length c.props + 3 ≤ handle_limit
  pub cells : cells_of (table_in layout) edits a ≡ length c.props + 2

pub found_is : (layout : Layout) (edits : Edits) (a : ℕ) (look : Look) (c : ClassKept) → IsTable (entries_in layout)
    → look_of (table_in layout) edits a ≡ Some look → slice_get layout.classes look.class ≡ Some c
    → FoundIs layout edits a look c
found_is layout edits a look c rules looked at =
    let is = look_is (table_in layout) edits a look looked in
    let value = class_there layout look.class c at in
    record {
      is = is;
      there = below (within layout.classes look.class c at);
      value = value;
      class = is.class ∙ value;
      few = few_there layout look.class c at rules;
      cells = ap (λ (k : Class). handle_count k - 1) (is.class ∙ value) ∙ cells_there layout.segments c;
    }
  where
    below : {m n : ℕ} → m + 1 ≤ n → m < n
    below h = omega (arith, h)

-- as the code finds it, in classes that are the world's
pub found_in : (kept layout : Layout) (edits : Edits) (a : ℕ) (look : Look) (c : ClassKept) → kept ≡ layout
    → IsTable (entries_in kept) → Some look ≡ look_of (table_in layout) edits a
    → Some c ≡ slice_get kept.classes look.class → FoundIs layout edits a look c
found_in kept layout edits a look c same rules looked at =
    found_is layout edits a look c (subst (λ (l : Layout). IsTable (entries_in l)) same rules) (sym looked)
    (subst (λ (l : Layout). slice_get l.classes look.class ≡ Some c) same (sym at))
