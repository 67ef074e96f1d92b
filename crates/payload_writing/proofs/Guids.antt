-- Segments of the table by their guids.
use Rattle.std.proofs.Common.{◌≡◌, ◌∙◌, ℕ, suc, ◌-◌, ◌/◌, ◌≤◌, List, [], ◌∷◌, Bool, true, false, cond, map, filter, length, Option, Some, None, Bor, IfNone, IsSome, slice_get, refl, sym, ap, arith}
use Rattle.protocol_model.specs.Value.{guid_of}
use Rattle.table_model.specs.Rules.{guid_in, segments_of}
use Rattle.class_layout.specs.Tables.{Layout, IsLayout, entries_in, segment_at}
use Rattle.class_layout.specs.declared.class.Segment.{Segment}
use Rattle.class_layout.specs.declared.class.Class.{Class}
use Rattle.netguid_map.specs.Chains.{AreThere, IsThere}
use Rattle.netguid_map.proofs.Needed.{guid_is}
use Rattle.netguid_map.proofs.Within.{segment_told, path_there, path_short}
use Rattle.payload_writing.specs.Exports.{MayExport}

-- a segment that is there is found
pub is_found : (layout : Layout) (g : ℕ) → IsLayout layout → IsThere layout.segments g → (found : Option (Bor Segment))
    → IfNone found ((outer : ℕ) (name : List ℕ) → guid_in (segments_of (entries_in layout)) outer name ≡ Some g → ⊥)
    → IsSome found
is_found layout g is there None absent =
    absurd (segment_told layout.segments (segments_of (entries_in layout)) g is.segments there absent)
is_found layout g is there (Some s) absent = refl

-- and it is the one that stands at the guid's place
pub segment_is : (layout : Layout) (g outer : ℕ) (name : List ℕ) → IsLayout layout
    → guid_in (segments_of (entries_in layout)) outer name ≡ Some g
    → segment_at layout.segments g ≡ record { guid = g; outer = outer; name = name }
segment_is layout g outer name is found =
    let back = is.segments.back outer g name found in
    let place : (g - 3) / 2 ≡ back.0 = omega (arith, back.1) in
    let there : slice_get layout.segments ((g - 3) / 2) ≡ Some (record { outer = outer; name = name }) =
    ap (slice_get layout.segments) place ∙ back.2 in
    rw there refl

-- the last guid of a path is its class's
pub last_is : (segments : List Segment) (path : List ℕ) (g : ℕ) → Some g ≡ slice_get path (length path - 1)
    → g ≡ guid_of (map (segment_at segments) path)
last_is segments [] g e = absurd (cc)
last_is segments (h ∷ []) g e =
    let same : g ≡ h = cc in same ∙ sym (guid_is segments h (slice_get segments ((h - 3) / 2)) refl)
last_is segments (h ∷ k ∷ path) g e =
    let index : length (h ∷ k ∷ path) - 1 ≡ suc (length (k ∷ path) - 1) = omega arith in
    last_is segments (k ∷ path) g (e ∙ ap (slice_get (h ∷ k ∷ path)) index)

-- ---- paths

-- the path of a class may be exported
pub may_export : (layout : Layout) (place : ℕ) (class : Class) → IsLayout layout
    → slice_get layout.classes place ≡ Some class → MayExport layout.segments class.path
may_export layout place class is at = record {
  there = path_there layout place class is (sym at);
  few = path_short layout place class is (sym at);
}

-- a part of a path has no other segments and no more
kept_are_there : (segments : List Segment) (path : List ℕ) (is_kept : ℕ → Bool) → AreThere segments path
    → AreThere segments (filter is_kept path)
kept_are_there segments [] is_kept there = tt
kept_are_there segments (g ∷ path) is_kept there = by_case (is_kept g) (kept_are_there segments path is_kept there.1)
  where
    by_case : (b : Bool) → AreThere segments (filter is_kept path)
        → AreThere segments (cond b (g ∷ filter is_kept path) (filter is_kept path))
    by_case true later = (there.0, later)
    by_case false later = later

no_more : (path : List ℕ) (is_kept : ℕ → Bool) → length (filter is_kept path) ≤ length path
no_more [] is_kept = omega arith
no_more (g ∷ path) is_kept = by_case (is_kept g) (no_more path is_kept)
  where
    by_case : (b : Bool) → length (filter is_kept path) ≤ length path
        → length (cond b (g ∷ filter is_kept path) (filter is_kept path)) ≤ suc (length path)
    by_case true later = omega (arith, later)
    by_case false later = omega (arith, later)

pub may_export_part : (layout : Layout) (place : ℕ) (class : Class) (is_kept : ℕ → Bool) → IsLayout layout
    → slice_get layout.classes place ≡ Some class → MayExport layout.segments (filter is_kept class.path)
may_export_part layout place class is_kept is at =
    let whole = may_export layout place class is at in
    let few = whole.few in
    record {
      there = kept_are_there layout.segments class.path is_kept whole.there;
      few = omega (arith, few, no_more class.path is_kept);
    }
