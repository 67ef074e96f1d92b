-- Classes in memory as the definitions see them.
use Rattle.std.proofs.Common.{◌≡◌, ℕ, zero, suc, ◌-◌, ◌≤◌, arith, List, [], ◌∷◌, map, Option, Some, None, option_map, unwrap_or, refl, ap, ◌∙◌}
use Rattle.std.specs.Prelude.{slice_get, slice_index_or, slice_set}
use Rattle.std.proofs.lemmas.Option.{none-some}
use Rattle.protocol_model.specs.Value.{call_at}
use Rattle.protocol_model.specs.World.{class_at, no_class}
use Rattle.table_model.specs.Rules.{Entry}
use Rattle.class_layout.specs.Tables.{Layout, table_in, class_of, entry_of}
use Rattle.class_members.specs.Members.{call_of}
use Rattle.class_layout.specs.declared.class.Class.{Class}
use Rattle.class_members.specs.declared.members.Call.{Call}
use Rattle.class_layout.specs.declared.class.Segment.{Segment}

class_in : (segments : List Segment) (classes : List Class) (n : ℕ)
    → slice_index_or (map (λ (e : Entry). e.class) (map (entry_of segments) classes)) n no_class
    ≡ unwrap_or (option_map (class_of segments) (slice_get classes n)) no_class
class_in segments [] n = refl
class_in segments (c ∷ classes) zero = refl
class_in segments (c ∷ classes) (suc n) = class_in segments classes n

called : (calls : List Call) (k : ℕ) → slice_get (map call_of calls) k ≡ option_map call_of (slice_get calls k)
called [] k = refl
called (c ∷ calls) zero = refl
called (c ∷ calls) (suc k) = called calls k

none_at : (number : ℕ) → call_at no_class number ≡ None
none_at zero = refl
none_at (suc n) = refl

pub no_class_there : (layout : Layout) (n number : ℕ) → slice_get layout.classes n ≡ None
    → call_at (class_at (table_in layout) n) number ≡ None
no_class_there layout n number e =
    ap (λ c. call_at c number) (class_in layout.segments layout.classes n
    ∙ ap (λ o. unwrap_or (option_map (class_of layout.segments) o) no_class) e) ∙ none_at number

pub call_there : (layout : Layout) (n number : ℕ) (c : Class) → slice_get layout.classes n ≡ Some c → 1 ≤ number
    → call_at (class_at (table_in layout) n) number ≡ option_map call_of (slice_get c.calls (number - 1))
call_there layout n zero c e h = absurd (omega arith)
call_there layout n (suc k) c e h =
    ap (λ c. call_at c (suc k)) (class_in layout.segments layout.classes n
    ∙ ap (λ o. unwrap_or (option_map (class_of layout.segments) o) no_class) e) ∙ called c.calls k
    ∙ ap (λ i. option_map call_of (slice_get c.calls i)) (less k)
  where
    less : (k : ℕ) → k ≡ suc k - 1
    less k = omega arith

-- what is put under a key that had something is found there
pub set_there : {A : Type 0} (xs : List (Option A)) (i : ℕ) (e x : A) → slice_index_or xs i None ≡ Some e
    → slice_index_or (slice_set xs i (Some x)) i None ≡ Some x
set_there [] i e x h = absurd (none-some e h)
set_there (y ∷ xs) zero e x h = refl
set_there (y ∷ xs) (suc i) e x h = set_there xs i e x h
