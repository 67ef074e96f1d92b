-- Names of a path, compared one by one.
use Rattle.std.proofs.Common.{◌≡◌, ◌≢◌, ℕ, suc, List, [], ◌∷◌, map, length, Bool, true, false, ◌&&◌, refl, ap, sym, bytes_eq}
use Rattle.std.specs.List.{list_any}
use Rattle.protocol_model.specs.Value as Model
use Rattle.table_model.specs.Rules.{same_names, path_names, is_there, class_names, has_path}
use Rattle.class_layout.specs.Tables.{entry_of, segment_at}
use Rattle.class_layout.specs.declared.class.Class.{Class}
use Rattle.class_layout.specs.declared.class.Segment.{Segment}

and_false : (b : Bool) → false ≡ (b && false)
and_false true = refl
and_false false = refl

-- paths of another length are other paths
pub other_length : (names : List (List ℕ)) (f : ℕ → Model.Segment) (guids : List ℕ) → length names ≢ length guids
    → false ≡ same_names names (path_names (map f guids))
other_length [] f [] h = absurd (h refl)
other_length [] f (g ∷ guids) h = refl
other_length (n ∷ names) f [] h = refl
other_length (n ∷ names) f (g ∷ guids) h =
    rw (sym (other_length names f guids (λ e. h (ap (λ m. suc m) e)))) (and_false (bytes_eq n (f g).name))

-- the names and paths of classes
pub any_class : (name : List ℕ) (segments : List Segment) (classes : List Class)
    → list_any (λ (c : Class). bytes_eq name c.name) classes ≡ is_there
    (class_names (map (entry_of segments) classes)) name
any_class name segments [] = refl
any_class name segments (c ∷ classes) = rw (any_class name segments classes) refl

pub any_path : (names : List (List ℕ)) (segments : List Segment) (classes : List Class)
    → list_any (λ (c : Class). same_names names (path_names (map (segment_at segments) c.path))) classes
    ≡ has_path (map (entry_of segments) classes) names
any_path names segments [] = refl
any_path names segments (c ∷ classes) = rw (any_path names segments classes) refl
