-- The segments that the client doesn't know, in memory and as the definitions have them.
use Rattle.std.proofs.Common.{◌≡◌, ◌∙◌, ℕ, ◌-◌, ◌/◌, ◌==◌, List, [], ◌∷◌, map, Bool, true, false, not, ◌||◌, cond, slice_get, slice_index_or, refl, sym, ap}
use Rattle.std.specs.List.{list_any, filter}
use Rattle.protocol_model.specs.Value as Model
use Rattle.protocol_model.specs.Search.{is_among}
use Rattle.connection_model.specs.Feed.{Past}
use Rattle.connection_model.specs.Exports.{is_known}
use Rattle.class_layout.specs.Tables.{segment_at}
use Rattle.class_layout.specs.declared.class.Segment.{Segment}
use Rattle.netguid_map.proofs.Needed.{guid_is}
use Rattle.sender_turns.specs.Opening.{is_unknown}

-- a segment has the guid that it is found under
guid_of : (segments : List Segment) (g : ℕ) → (segment_at segments g).guid ≡ g
guid_of segments g = guid_is segments g (slice_get segments ((g - 3) / 2)) refl

-- those that are unknown, where the places tell what is known
pub needed_is : (segments : List Segment) (past : Past) (known : List Bool) (path : List ℕ)
    → ((g : ℕ) → is_known past g ≡ slice_index_or known g false)
    → map (segment_at segments) (filter (is_unknown known) path)
    ≡ filter (λ (s : Model.Segment). not (is_known past s.guid)) (map (segment_at segments) path)
needed_is segments past known [] places = refl
needed_is segments past known (g ∷ path) places =
    kept (is_unknown known g) (needed_is segments past known path places)
    ∙ ap (λ (b : Bool). cond b (segment_at segments g ∷ others) others) (told g)
  where
    others : List Model.Segment
    others = filter (λ (s : Model.Segment). not (is_known past s.guid)) (map (segment_at segments) path)

    told : (g : ℕ) → is_unknown known g ≡ not (is_known past (segment_at segments g).guid)
    told g = ap not (sym (places g)) ∙ ap (λ (k : ℕ). not (is_known past k)) (sym (guid_of segments g))

    kept : (b : Bool) → map (segment_at segments) (filter (is_unknown known) path) ≡ others
        → map (segment_at segments) (cond b (g ∷ filter (is_unknown known) path) (filter (is_unknown known) path))
        ≡ cond b (segment_at segments g ∷ others) others
    kept true h = ap (λ (l : List Model.Segment). segment_at segments g ∷ l) h
    kept false h = h

-- an open of these segments exports those of these guids
pub exports_are : (segments : List Segment) (guids : List ℕ) (g : ℕ)
    → list_any (λ (s : Model.Segment). s.guid == g) (map (segment_at segments) guids) ≡ is_among g guids
exports_are segments [] g = refl
exports_are segments (h ∷ guids) g =
    ap (λ (k : ℕ). k == g || list_any (λ (s : Model.Segment). s.guid == g) (map (segment_at segments) guids))
    (guid_of segments h)
    ∙ ap (λ (b : Bool). h == g || b) (exports_are segments guids g)
