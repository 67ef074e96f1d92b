-- Searching a table for the first class of a path.
use Rattle.std.proofs.Common.{◌≡◌, ℕ, zero, suc, ◌<◌, List, [], ◌∷◌, length, cond, Bool, true, false, Option, Some, None, refl, sym, ap, ◌∙◌, arith}
use Rattle.std.specs.Prelude.{find, option_and_then}
use Rattle.protocol_model.specs.Limits.{depth_limit}
use Rattle.protocol_model.specs.Value.{Segment, Class, Table}
use Rattle.protocol_model.specs.World.{class_at}
use Rattle.connection_model.specs.Names.{class_named, name_known, path_up, same_names}
use Rattle.netguid_map.specs.declared.names.Learnt.{Learnt}
use Rattle.netguid_map.specs.Names.{segment_of}
use Rattle.netguid_map.specs.Chains.{has_names, names_up, most_above}
use Rattle.netguid_map.proofs.Upwards.{up_none, up_some}

-- the first class that passes
pub first_found : (test : Class → Bool) (table : Table) (place : ℕ) → place < length table
    → ((k : ℕ) → k < place → test (class_at table k) ≡ false) → test (class_at table place) ≡ true
    → find test table ≡ Some (class_at table place)
first_found test [] place h before e = absurd (omega arith)
first_found test (c ∷ table) zero h before e = ap (λ (b : Bool). cond b (Some c) (find test table)) e
first_found test (c ∷ table) (suc place) h before e =
    ap (λ (b : Bool). cond b (Some c) (find test table)) (before 0 (omega arith))
    ∙ first_found test table place (omega arith) (λ k below. before (suc k) (omega arith)) e

-- or none does
pub none_found : (test : Class → Bool) (table : Table) → ((k : ℕ) → k < length table → test (class_at table k) ≡ false)
    → find test table ≡ None
none_found test [] each = refl
none_found test (c ∷ table) each =
    ap (λ (b : Bool). cond b (Some c) (find test table)) (each 0 (omega arith))
    ∙ none_found test table (λ k below. each (suc k) (omega arith))

no_names : (table : Table) → find (has_names None) table ≡ None
no_names [] = refl
no_names (c ∷ table) = no_names table

-- the class of a path, where there may be no path
named_by : (table : Table) (o : Option (List (List ℕ)))
    → option_and_then (λ (names : List (List ℕ)). find (λ (c : Class). same_names c.path names) table) o
    ≡ find (has_names o) table
named_by table None = sym (no_names table)
named_by table (Some names) = refl

-- no class is named by a guid that isn't known
pub unknown_named : (table : Table) (names : List Segment) (g : ℕ) → name_known names g ≡ None
    → class_named table names g ≡ None
unknown_named table names g none =
    named_by table (path_up names depth_limit g)
    ∙ ap (λ (o : Option (List (List ℕ))). find (has_names o) table) (up_none names depth_limit g none) ∙ no_names table

-- and by a known one that of the names from it up
pub known_named : (table : Table) (names : List Segment) (g : ℕ) (l : Learnt)
    → name_known names g ≡ Some (segment_of g l)
    → class_named table names g ≡ find (has_names (names_up names most_above l)) table
known_named table names g l known =
    named_by table (path_up names depth_limit g)
    ∙ ap (λ (o : Option (List (List ℕ))). find (has_names o) table) (up_some names most_above g l known)
