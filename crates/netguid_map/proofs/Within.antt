-- Each segment of a class's path stands in the table.
use Rattle.std.proofs.Common.{◌≡◌, ℕ, zero, suc, ◌+◌, ◌-◌, ◌/◌, ◌<◌, ◌≤◌, List, [], ◌∷◌, ◌++◌, map, length, Option, Some, refl, sym, ap, ◌∙◌, arith, append_assoc}
use Rattle.std.specs.Prelude.{slice_get, option_map}
use Rattle.std.proofs.lemmas.List.{map-append, length-map}
use Rattle.std.proofs.lemmas.Option.{slice_get-map, slice_get-get_or}
use Rattle.protocol_model.specs.Limits.{depth_limit}
use Rattle.protocol_model.specs.Search.{greatest_of}
use Rattle.protocol_model.specs.Value as Model
use Rattle.protocol_laws.proofs.Greatest.{greatest_of-cons, greatest_of-append}
use Rattle.table_model.specs.Rules.{Entry, segments_of, next_guid, guid_in}
use Rattle.table_model.specs.Facts.{AreSegments}
use Rattle.class_layout.specs.Tables.{Layout, AreOf, IsLayout, entry_of, entries_in, segment_at}
use Rattle.class_layout.specs.declared.class.Class.{Class}
use Rattle.class_layout.specs.declared.class.Segment.{Segment}
use Rattle.netguid_map.specs.Chains.{IsThere, AreThere}
use Rattle.netguid_map.proofs.Needed.{guid_is}

-- the item behind others
item_behind : {A : Type 0} (before : List A) (x : A) (after : List A)
    → slice_get (before ++ x ∷ after) (length before) ≡ Some x
item_behind [] x after = refl
item_behind (y ∷ before) x after = item_behind before x after

-- no guid is above the greatest
below_next : (before : List Model.Segment) (s : Model.Segment) (after : List Model.Segment)
    → s.guid + 2 ≤ next_guid (before ++ s ∷ after)
below_next before s after =
    let guid : Model.Segment → ℕ = λ s. s.guid in
    let first = greatest_of-cons 1 (map guid (before ++ s ∷ after)) in
    let all = ap greatest_of (map-append guid before (s ∷ after)) in
    let parts = greatest_of-append (map guid before) (s.guid ∷ map guid after) in
    let last = greatest_of-cons s.guid (map guid after) in
    omega (arith, first, all, parts, last)

-- a segment of a path is there
is_there : (segments : List Segment) (known before : List Model.Segment) (g : ℕ) (after : List Model.Segment)
    → AreOf segments known → AreSegments known → known ≡ before ++ segment_at segments g ∷ after → IsThere segments g
is_there segments known before g after are model whole =
    let same : (segment_at segments g).guid ≡ g = guid_is segments g (slice_get segments ((g - 3) / 2)) refl in
    let at : slice_get known (length before) ≡ Some (segment_at segments g) =
    ap (λ (l : List Model.Segment). slice_get l (length before)) whole
    ∙ item_behind before (segment_at segments g) after in
    let odd = model.guid (length before) (segment_at segments g) at in
    let next : next_guid known ≡ next_guid (before ++ segment_at segments g ∷ after) = ap next_guid whole in
    let below = below_next before (segment_at segments g) after in
    let within : (g - 3) / 2 < length segments = omega (arith, same, odd.2, next, below, are.next) in
    (_, slice_get-get_or segments ((g - 3) / 2) (record { outer = 0; name = [] }) within, omega (arith, same, odd.2))

-- and its guid is told
pub segment_told : (segments : List Segment) (known : List Model.Segment) (g : ℕ) → AreOf segments known
    → IsThere segments g → ((outer : ℕ) (name : List ℕ) → guid_in known outer name ≡ Some g → ⊥) → ⊥
segment_told segments known g are there absent =
    absent there.0.outer there.0.name (are.each ((g - 3) / 2) there.0 there.1 ∙ ap Some (sym there.2))

-- each segment of a path is there
are_there : (segments : List Segment) (known before : List Model.Segment) (path : List ℕ) (after : List Model.Segment)
    → AreOf segments known → AreSegments known → known ≡ before ++ (map (segment_at segments) path ++ after)
    → AreThere segments path
are_there segments known before [] after are model whole = tt
are_there segments known before (g ∷ path) after are model whole = (
  is_there segments known before g (map (segment_at segments) path ++ after) are model whole,
  are_there segments known (before ++ segment_at segments g ∷ []) path after are model
      (whole ∙ sym (append_assoc before (segment_at segments g ∷ []) (map (segment_at segments) path ++ after))),
)

-- where a class stands, with those before and after it
record Around (entries : List Entry) (e : Entry) : Type 0 where
  before : List Entry
  after : List Entry
  whole : entries ≡ before ++ e ∷ after

around : (entries : List Entry) (place : ℕ) (e : Entry) → slice_get entries place ≡ Some e → Around entries e
around [] place e h = cc
around (x ∷ entries) zero e h =
    let same : x ≡ e = cc in record { before = []; after = entries; whole = ap (λ (y : Entry). y ∷ entries) same }
around (x ∷ entries) (suc place) e h =
    let rest = around entries place e h in
    record { before = x ∷ rest.before; after = rest.after; whole = ap (λ (l : List Entry). x ∷ l) rest.whole }

segments_around : (before : List Entry) (e : Entry) (after : List Entry)
    → segments_of (before ++ e ∷ after) ≡ segments_of before ++ (e.class.path ++ segments_of after)
segments_around [] e after = refl
segments_around (x ∷ before) e after =
    ap (λ (l : List Model.Segment). x.class.path ++ l) (segments_around before e after)
    ∙ sym (append_assoc x.class.path (segments_of before) (e.class.path ++ segments_of after))

class_around : (layout : Layout) (place : ℕ) (class : Class) → Some class ≡ slice_get layout.classes place
    → Around (entries_in layout) (entry_of layout.segments class)
class_around layout place class e =
    around (entries_in layout) place (entry_of layout.segments class)
    (slice_get-map (entry_of layout.segments) layout.classes place
    ∙ ap (λ (o : Option Class). option_map (entry_of layout.segments) o) (sym e))

-- the path of a class of the table: each segment is there, and at most eight are
pub path_there : (layout : Layout) (place : ℕ) (class : Class) → IsLayout layout
    → Some class ≡ slice_get layout.classes place → AreThere layout.segments class.path
path_there layout place class is e =
    let a = class_around layout place class e in
    are_there layout.segments (segments_of (entries_in layout)) (segments_of a.before) class.path (segments_of a.after)
    is.segments is.table.segments
    (ap segments_of a.whole ∙ segments_around a.before (entry_of layout.segments class) a.after)

pub path_short : (layout : Layout) (place : ℕ) (class : Class) → IsLayout layout
    → Some class ≡ slice_get layout.classes place → length class.path ≤ depth_limit
path_short layout place class is e =
    let a = class_around layout place class e in
    let short = (is.table.classes a.before (entry_of layout.segments class) a.after a.whole).path_most in
    omega (arith, short, length-map class.path (segment_at layout.segments))

-- ---- the last segment of a path, and those before it

pub last_there : (segments : List Segment) (outer : List ℕ) (last : ℕ) → AreThere segments (outer ++ last ∷ [])
    → IsThere segments last
last_there segments [] last h = h.0
last_there segments (g ∷ outer) last h = last_there segments outer last h.1

pub outer_there : (segments : List Segment) (outer : List ℕ) (last : ℕ) → AreThere segments (outer ++ last ∷ [])
    → AreThere segments outer
outer_there segments [] last h = tt
outer_there segments (g ∷ outer) last h = (h.0, outer_there segments outer last h.1)
