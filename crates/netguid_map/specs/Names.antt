-- The names that a client learnt.
use Rattle.std.specs.Prelude.{◌≡◌, ℕ, List, length, Some, None, option_map, Result, Ok, Err}
use Rattle.std.specs.Ordering.{nat_cmp}
use Rattle.std.specs.Map.{lookup}
use Rattle.std.specs.BTreeMap.{is_at}
use Rattle.protocol_model.specs.Value.{Segment, Table}
use Rattle.protocol_model.specs.World.{class_at}
use Rattle.protocol_model.specs.declared.Cause.TheVariants.{UnknownGuid, Clash, NamesFull}
use Rattle.connection_model.specs.Names.{name_known, learn_fault, class_named}
use Rattle.netguid_map.specs.declared.names.Learnt.{Learnt}
use Rattle.netguid_map.specs.declared.names.NameRefusal.{NameRefusal}
use Rattle.netguid_map.specs.declared.names.NameRefusal.TheVariants as refusal

-- what was learnt under a guid, as a segment
abbrev pub segment_of : (guid : ℕ) → Learnt → Segment
segment_of g l = record { guid = g; outer = l.outer; name = l.name }

-- a map of names stands for those learnt: it answers as a search of them does, and has as many
pub record Stands (kept : List (ℕ × Learnt)) (names : List Segment) : Type 0 where
  pub each : (g : ℕ) → option_map (segment_of g) (lookup (is_at (nat_cmp g)) kept)
      ≡ name_known names g
  pub count : length kept ≡ length names

-- a segment is learnt where nothing stands against it, and refused by the first rule that does;
-- memory is wanted only for a new one that no rule stands against
abbrev pub IsLearnt : {A : Type 0} → List Segment → Segment → Result A NameRefusal → Type 0
IsLearnt names s (Ok done) = learn_fault names s ≡ None
IsLearnt names s (Err (refusal.Unknown guid)) = learn_fault names s ≡ Some (UnknownGuid guid)
IsLearnt names s (Err (refusal.Clash guid)) = learn_fault names s ≡ Some (Clash guid)
IsLearnt names s (Err refusal.NamesFull) = learn_fault names s ≡ Some NamesFull
IsLearnt names s (Err refusal.Memory) =
    (learn_fault names s ≡ None) × (name_known names s.guid ≡ None)

-- the class that a guid names, or none of that path; no other refusal comes
abbrev pub IsClassOf : Table → List Segment → (guid : ℕ) → Result ℕ NameRefusal → Type 0
IsClassOf table names g (Ok place) = class_named table names g ≡ Some (class_at table place)
IsClassOf table names g (Err (refusal.Unknown guid)) =
    (class_named table names g ≡ None) × (guid ≡ g)
IsClassOf table names g (Err (refusal.Clash guid)) = ⊥
IsClassOf table names g (Err refusal.NamesFull) = ⊥
IsClassOf table names g (Err refusal.Memory) = ⊥
