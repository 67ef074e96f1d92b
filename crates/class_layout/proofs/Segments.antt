-- Segments in memory, found by their guids.
use Rattle.std.proofs.Common.{◌≡◌, ℕ, ◌+◌, ◌*◌, List, Option, Some, None, Bor, IfSome, IfNone, slice_get, sym, ap, ◌∙◌, arith}
use Rattle.std.specs.Option.{option_copied}
use Rattle.protocol_model.specs.Value as Model
use Rattle.table_model.specs.Rules.{guid_in}
use Rattle.class_layout.specs.Tables.{AreOf}
use Rattle.class_layout.specs.declared.class.Segment.{Segment}

-- what stands at a guid's place is the segment of that guid
pub segment_found : {segments : List Segment} {known : List Model.Segment} → AreOf segments known
    → (g i : ℕ) → g ≡ 2 * i + 3 → (r : Option (Bor Segment)) → option_copied r ≡ slice_get segments i
    → IfSome r (λ s. guid_in known s.now.outer s.now.name ≡ Some g)
segment_found are g i e None h = tt
segment_found are g i e (Some s) h = rw e (are.each i s.now (sym h))

nothing_there : {A : Type 0} {a : A} → None ≡ Some a → ⊥
nothing_there e = cc

-- where nothing stands there is none of that guid
pub segment_absent : {segments : List Segment} {known : List Model.Segment} → AreOf segments known
    → (g i : ℕ) → g ≡ 2 * i + 3 → (r : Option (Bor Segment)) → option_copied r ≡ slice_get segments i
    → IfNone r ((outer : ℕ) (name : List ℕ) → guid_in known outer name ≡ Some g → ⊥)
segment_absent {segments} are g i e None h = λ outer name found.
    let back = are.back outer g name found in
    let same : back.0 ≡ i = omega (arith, back.1, e) in
    nothing_there (h ∙ ap (slice_get segments) (sym same) ∙ back.2)
segment_absent are g i e (Some s) h = tt

-- a guid that is none of a segment's names none
pub no_segment : {segments : List Segment} {known : List Model.Segment} → AreOf segments known
    → (g : ℕ) → ((i : ℕ) → g ≡ 2 * i + 3 → ⊥) → (outer : ℕ) (name : List ℕ) → guid_in known outer name ≡ Some g → ⊥
no_segment are g none outer name found =
    let back = are.back outer g name found in none back.0 back.1
