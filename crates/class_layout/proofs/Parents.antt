-- What a class inherits, in memory and in the definitions.
use Rattle.std.proofs.Common.{◌≡◌, ℕ, zero, suc, List, [], ◌∷◌, map, Option, Some, None, option_and_then, slice_get, refl}
use Rattle.protocol_model.specs.World.{no_class}
use Rattle.table_model.specs.Grammar.{parent_in}
use Rattle.class_layout.specs.Tables.{entry_of}
use Rattle.class_layout.specs.declared.class.Class.{Class}
use Rattle.class_layout.specs.declared.class.Segment.{Segment}

-- where no class stands at the parent's place, nothing is inherited
pub no_parent : (segments : List Segment) (classes : List Class) (parent : Option ℕ)
    → option_and_then (λ n. slice_get classes n) parent ≡ None
    → parent_in (map (entry_of segments) classes) parent ≡ no_class
no_parent segments classes None h = refl
no_parent segments [] (Some n) h = refl
no_parent segments (c ∷ classes) (Some zero) h = absurd (cc)
no_parent segments (c ∷ classes) (Some (suc n)) h = no_parent segments classes (Some n) h
