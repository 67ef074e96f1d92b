-- Names of properties and of calls, in memory and in the definitions.
use Rattle.std.proofs.Common.{◌≡◌, List, [], ◌∷◌, map, Bool, true, false, ◌||◌, codes, ◌∙◌, refl, ap, bytes_eq, ℕ}
use Rattle.std.specs.List.{list_any}
use Rattle.protocol_model.specs.Value as Model
use Rattle.table_model.specs.Rules.{is_there, call_names, prop_names}
use Rattle.class_members.specs.Members.{prop_of, call_of}
use Rattle.class_members.specs.declared.members.Prop.{Prop}
use Rattle.class_members.specs.declared.members.Call.{Call}

any_kept : (name : List ℕ) (props : List Prop)
    → list_any (λ (p : Prop). bytes_eq name p.name) props ≡ is_there
    (map (λ (p : Model.Prop). p.name) (map prop_of props)) name
any_kept name [] = refl
any_kept name (p ∷ props) = rw (any_kept name props) refl

or_behind : (a b c d : Bool) → ((a || (b || c)) || d) ≡ (a || (b || (c || d)))
or_behind true b c d = refl
or_behind false true c d = refl
or_behind false false c d = refl

-- the names of properties and of calls, in memory and in the definitions
pub any_prop : (name : List ℕ) (props : List Prop)
    → ((bytes_eq name (codes "x") || (bytes_eq name (codes "y") || bytes_eq name (codes "role")))
    || list_any (λ (p : Prop). bytes_eq name p.name) props)
    ≡ is_there (prop_names (map prop_of props)) name
any_prop name props =
    or_behind (bytes_eq name (codes "x")) (bytes_eq name (codes "y")) (bytes_eq name (codes "role")) _
    ∙ ap (λ d. bytes_eq name (codes "x") || (bytes_eq name (codes "y") || (bytes_eq name (codes "role") || d)))
    (any_kept name props)

pub any_call : (name : List ℕ) (calls : List Call)
    → list_any (λ (c : Call). bytes_eq name c.name) calls ≡ is_there (call_names (map call_of calls)) name
any_call name [] = refl
any_call name (c ∷ calls) = rw (any_call name calls) refl
