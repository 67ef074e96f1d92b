-- How long an open is at most.
use Rattle.std.proofs.Common.{◌≡◌, ◌∙◌, ℕ, ℤ, zero, suc, ◌+◌, ◌-◌, ◌*◌, ◌/◌, ◌%◌, ◌^◌, ◌≤◌, ◌==◌, List, [], ◌∷◌, ◌++◌, map, length, length-append, append_assoc, Bool, true, false, cond, ◌&&◌, nat_le, Some, refl, sym, arith, bytes_eq}
use Rattle.std.specs.List.{flat_map}
use Rattle.std.proofs.lemmas.Bool.{and_parts}
use Rattle.std.proofs.lemmas.Slice.Eq.{bytes_eq-Decides}
use Rattle.protocol_model.specs.declared.Kind.{Kind}
use Rattle.protocol_model.specs.declared.Kind.TheVariants.{U8, I32, U32, I64, Packed, Guid, Enum, Bytes}
use Rattle.protocol_model.specs.Bits.{int_width, packed_bits}
use Rattle.protocol_model.specs.Limits.{name_bytes, handle_limit, depth_limit, payload_bits}
use Rattle.protocol_model.specs.Value.{Class, Pair, Segment, class_guid}
use Rattle.protocol_model.specs.World.{no_class}
use Rattle.protocol_model.specs.Payload.{Opens, exports_bits, list_bits, pair_bits, kind_at, natural, value_bits, message_bits}
use Rattle.protocol_model.specs.Search.{least_from}
use Rattle.protocol_laws.proofs.Digits.{length-digits}
use Rattle.protocol_laws.proofs.Lengths.{length-packed, length-signed}
use Rattle.table_model.specs.Facts.{IsTable}
use Rattle.table_model.specs.Rules.{Entry, guid_in, segments_of}
use Rattle.class_layout.specs.Tables.{Layout, IsLayout, entries_in, segment_at}
use Rattle.class_layout.specs.declared.class.Segment.{Segment as SegmentValue}
use Rattle.netguid_map.specs.Chains.{IsThere, AreThere}
use Rattle.payload_laws.specs.Limits.{AreSegments}
use Rattle.payload_laws.specs.Sizes.{segments_size, exports_size}
use Rattle.payload_laws.proofs.Bounds.{packed_most}
use Rattle.payload_laws.proofs.Lengths.{message_length, packed_length}
use Rattle.payload_laws.proofs.TableFacts.{path_segments}
use Rattle.payload_writing.specs.Exports.{MayExport}

-- ---- values

least_most : (test : ℕ → Bool) (many k : ℕ) → least_from test many k ≤ k + many
least_most test zero k = omega arith
least_most test (suc many) k = by_case (test k) (least_most test many (k + 1))
  where
    by_case : (b : Bool) → least_from test many (k + 1) ≤ k + 1 + many
        → cond b k (least_from test many (k + 1)) ≤ k + suc many
    by_case true later = omega arith
    by_case false later = omega (arith, later)

width_most : (max n : ℕ) → int_width max n ≤ 32
unfolding int_width
width_most max n = least_most (λ i. nat_le max (n % 2 ^ i + 2 ^ i)) 32 0

value_short : (kind : Kind) (v : ℤ) → length (value_bits kind v) ≤ 64
value_short Kind.Bool v = omega (arith, length-digits 1 (natural v))
value_short U8 v = omega (arith, length-digits 8 (natural v))
value_short I32 v = omega (arith, length-signed 32 v)
value_short U32 v = omega (arith, length-digits 32 (natural v))
value_short I64 v = omega (arith, length-signed 64 v)
value_short Packed v = omega (arith, length-packed (natural v))
value_short Guid v = omega (arith, length-packed (natural v))
value_short (Enum count) v =
    omega (arith, length-digits (int_width count (natural v)) (natural v), width_most count (natural v))
value_short (Bytes most) v = omega arith

pairs_short : (class : Class) (pairs : List Pair) → length (flat_map (λ p. pair_bits class p) pairs)
    ≤ 104 * length pairs
pairs_short class [] = omega arith
pairs_short class (p ∷ pairs) =
    omega (
      arith,
      length-append (pair_bits class p) (flat_map (λ p. pair_bits class p) pairs),
      length-append (packed_bits p.handle) (value_bits (kind_at class p.handle) p.value),
      length-packed p.handle,
      value_short (kind_at class p.handle) p.value,
      pairs_short class pairs,
    )

-- ---- segments

-- what may be exported of two paths
both : (path more : List Segment) → AreSegments path → AreSegments more → AreSegments (path ++ more)
both [] more h k = k
both (s ∷ path) more h k = (h.0, both path more h.1 k)

-- each segment behind some classes can be exported
behind : (entries before after : List Entry) → IsTable entries → entries ≡ before ++ after
    → AreSegments (segments_of after)
behind entries before [] table whole = tt
behind entries before (e ∷ after) table whole =
    both e.class.path (segments_of after) (path_segments entries before e after table whole)
    (behind entries (before ++ e ∷ []) after table (whole ∙ sym (append_assoc before (e ∷ []) after)))

-- a name that is found among such is short
found_short : (segments : List Segment) (outer g : ℕ) (name : List ℕ) → AreSegments segments
    → guid_in segments outer name ≡ Some g → length name ≤ name_bytes
found_short [] outer g name h e = absurd (cc)
found_short (s ∷ segments) outer g name h e =
    by_case (s.outer == outer && bytes_eq s.name name) refl e (λ later. found_short segments outer g name h.1 later)
  where
    by_case : (b : Bool) → (s.outer == outer && bytes_eq s.name name) ≡ b
        → cond b (Some s.guid) (guid_in segments outer name) ≡ Some g
        → (guid_in segments outer name ≡ Some g → length name ≤ name_bytes) → length name ≤ name_bytes
    by_case true test e later =
        let same : s.name ≡ name = (bytes_eq-Decides s.name name).0 (and_parts _ _ test).1 in
        let short : length s.name ≤ name_bytes = h.0.short in
        rw (sym same) short
    by_case false test e later = later e

-- a segment of a table has a short name
named : (layout : Layout) (g : ℕ) → IsLayout layout → IsThere layout.segments g
    → length (segment_at layout.segments g).name ≤ name_bytes
named layout g is there =
    let place : ℕ = (g - 3) / 2 in
    let s : SegmentValue = there.0 in
    let short : length s.name ≤ name_bytes = found_short (segments_of (entries_in layout)) s.outer
    (2 * place + 3) s.name
    (behind (entries_in layout) [] (entries_in layout) is.table refl) (is.segments.each place s there.1) in
    rw there.1 short

segments_short : (layout : Layout) (guids : List ℕ) → IsLayout layout → AreThere layout.segments guids
    → segments_size (map (segment_at layout.segments) guids) ≤ 334 * length guids
segments_short layout [] is there = omega arith
segments_short layout (g ∷ guids) is there =
    let s : Segment = segment_at layout.segments g in
    omega (
      arith,
      named layout g is there.0,
      packed_most s.guid,
      packed_most s.outer,
      segments_short layout guids is there.1,
    )

exports_short : (layout : Layout) (guids : List ℕ) → IsLayout layout → AreThere layout.segments guids
    → exports_size (map (segment_at layout.segments) guids) ≤ 40 + 334 * length guids
exports_short layout [] is there = omega arith
exports_short layout (g ∷ guids) is there =
    omega (
      arith,
      packed_most (length (map (segment_at layout.segments) (g ∷ guids))),
      segments_short layout (g ∷ guids) is there,
    )

-- by the length of an open without values
exports_length : (exports : List Segment) → length (exports_bits exports) ≡ exports_size exports
exports_length exports =
    omega (
      arith,
      message_length (Opens exports 0 no_class []),
      length-append (exports_bits exports ++ packed_bits 0 ++ packed_bits (class_guid no_class)) (packed_bits 0),
      length-append (exports_bits exports ++ packed_bits 0) (packed_bits (class_guid no_class)),
      length-append (exports_bits exports) (packed_bits 0),
      packed_length 0,
      packed_length (class_guid no_class),
    )

-- ---- an open

-- an open with segments of a path and no more values than a class has handles has room in ten bunches
pub open_short : (layout : Layout) (guids : List ℕ) (actor : ℕ) (class : Class) (values : List Pair)
    → IsLayout layout → MayExport layout.segments guids → length values ≤ handle_limit
    → length (message_bits (Opens (map (segment_at layout.segments) guids) actor class values)) ≤ payload_bits
open_short layout guids actor class values is may few =
    let exports : List Segment = map (segment_at layout.segments) guids in
    let many : length guids ≤ depth_limit = may.few in
    omega (
      arith,
      few,
      many,
      length-append (exports_bits exports ++ packed_bits actor ++ packed_bits (class_guid class))
          (list_bits class values),
      length-append (exports_bits exports ++ packed_bits actor) (packed_bits (class_guid class)),
      length-append (exports_bits exports) (packed_bits actor),
      length-append (flat_map (λ p. pair_bits class p) values) (packed_bits 0),
      exports_length exports,
      exports_short layout guids is may.there,
      length-packed actor,
      length-packed (class_guid class),
      length-packed 0,
      pairs_short class values,
    )
