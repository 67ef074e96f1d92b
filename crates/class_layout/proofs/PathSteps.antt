-- A path that grows by one segment a turn.
use Rattle.std.proofs.Common.{◌≡◌, ℕ, ◌+◌, ◌-◌, ◌/◌, ◌<◌, ◌≤◌, List, [], ◌∷◌, ◌++◌, map, length, drop, get_or, Bool, true, false, ◌&&◌, nat_lt, IsTrue, refl, sym, ap, ◌∙◌, arith, rules}
use Rattle.std.proofs.lemmas.List.{drop_more, append_assoc, map-append, length-append}
use Rattle.protocol_model.specs.Value as Model
use Rattle.table_model.specs.Rules.{path_under, segment_under}
use Rattle.class_layout.specs.Tables.{AreOf, Extends, segment_at, stand_within}
use Rattle.class_layout.specs.declared.class.Segment.{Segment}
use Rattle.class_layout.proofs.Growing.{slice_get_left}

-- the path so far, of the guids, and what is left of it
pub record Grown (known : List Model.Segment) (names : List (List ℕ)) (segments : List Segment) (path : List ℕ)
    (outer i : ℕ) : Type 0 where
  pub are : AreOf segments (known ++ map (segment_at segments) path)
  pub left : map (segment_at segments) path
      ++ path_under (known ++ map (segment_at segments) path) outer (drop i names)
      ≡ path_under known 0 names

pub and_parts : (a b : Bool) → IsTrue (a && b) → IsTrue a × IsTrue b
and_parts true b h = (refl, h)
and_parts false b h = absurd (cc)

less : (m n : ℕ) → IsTrue (nat_lt m n) → m < n
less m n h = search (rules, arith)

-- a path that stands within is seen as before when segments are added
pub seen_still : (segments more : List Segment) (path : List ℕ) → IsTrue (stand_within (length segments) path)
    → map (segment_at (segments ++ more)) path ≡ map (segment_at segments) path
seen_still segments more [] h = refl
seen_still segments more (g ∷ path) h =
    let parts = and_parts (nat_lt ((g - 3) / 2) (length segments)) _ h in
    rw (slice_get_left segments more ((g - 3) / 2) (less _ _ parts.0), seen_still segments more path parts.1) refl

-- one more segment
pub grown_more : {known : List Model.Segment} {names : List (List ℕ)} {segments after : List Segment} {path : List ℕ}
    {outer i : ℕ} (guid : ℕ) (name : List ℕ) → Grown known names segments path outer i → i < length names
    → name ≡ get_or names i name → IsTrue (stand_within (length segments) path) → Extends segments after
    → ((k : List Model.Segment) → AreOf segments k → guid ≡ (segment_under k outer name).guid)
    → ((k : List Model.Segment) → AreOf segments k → AreOf after (k ++ segment_under k outer name ∷ []))
    → segment_at after guid ≡ record { guid = guid; outer = outer; name = name }
    → Grown known names after (path ++ guid ∷ []) guid (i + 1)
grown_more {known} {names} {segments} {after} {path} {outer} {i} guid name grown within its stand more is are there =
    record { are = are'; left = left' }
  where
    done : List Model.Segment
    done = map (segment_at segments) path

    s : Model.Segment
    s = segment_under (known ++ done) outer name

    its_guid : guid ≡ s.guid
    its_guid = is (known ++ done) grown.are

    seen : segment_at after guid ≡ s
    seen = there ∙ rw its_guid refl

    still : map (segment_at after) path ≡ done
    still = rw more.1 (seen_still segments more.0 path stand)

    done' : map (segment_at after) (path ++ guid ∷ []) ≡ done ++ s ∷ []
    done' = map-append (segment_at after) path (guid ∷ []) ∙ rw (still, seen) refl

    behind : known ++ map (segment_at after) (path ++ guid ∷ []) ≡ known ++ done ++ s ∷ []
    behind = ap (λ d. known ++ d) done' ∙ sym (append_assoc known done (s ∷ []))

    are' : AreOf after (known ++ map (segment_at after) (path ++ guid ∷ []))
    are' = rw behind (are (known ++ done) grown.are)

    next : drop i names ≡ name ∷ drop (i + 1) names
    next = drop_more names i name within ∙ ap (λ n. n ∷ drop (i + 1) names) (sym its)

    turned : done ++ s ∷ path_under (known ++ done ++ s ∷ []) s.guid (drop (i + 1) names) ≡ path_under known 0 names
    turned = ap (λ ns. done ++ path_under (known ++ done) outer ns) (sym next) ∙ grown.left

    left' : map (segment_at after) (path ++ guid ∷ [])
        ++ path_under (known ++ map (segment_at after) (path ++ guid ∷ [])) guid (drop (i + 1) names)
        ≡ path_under known 0 names
    left' = rw (behind, done', its_guid) (append_assoc done (s ∷ []) _ ∙ turned)

-- what stands within fewer stands within more
pub within_wider : (count more : ℕ) (path : List ℕ) → count ≤ more → IsTrue (stand_within count path)
    → IsTrue (stand_within more path)
within_wider count more [] h stand = refl
within_wider count more (g ∷ path) h stand =
    let parts = and_parts (nat_lt ((g - 3) / 2) count) _ stand in
    rw (wider ((g - 3) / 2) count more h parts.0) (within_wider count more path h parts.1)
  where
    wider : (n count more : ℕ) → count ≤ more → IsTrue (nat_lt n count) → nat_lt n more ≡ true
    wider n count more h less = search (rules, arith)

-- the guids of a path stand within when one more does
pub within_more : (count more : ℕ) (path : List ℕ) (guid : ℕ) → count ≤ more → IsTrue (stand_within count path)
    → IsTrue (stand_within more (guid ∷ [])) → IsTrue (stand_within more (path ++ guid ∷ []))
within_more count more [] guid h stand one = one
within_more count more (g ∷ path) guid h stand one =
    let parts = and_parts (nat_lt ((g - 3) / 2) count) _ stand in
    rw (wider _ count more h parts.0) (within_more count more path guid h parts.1 one)
  where
    wider : (n count more : ℕ) → count ≤ more → IsTrue (nat_lt n count) → nat_lt n more ≡ true
    wider n count more h less = search (rules, arith)

-- a list with more behind it isn't shorter
pub longer : {A : Type 0} (old new : List A) → Extends old new → length old ≤ length new
longer old new more = rw (more.1, length-append old more.0) (omega arith)
