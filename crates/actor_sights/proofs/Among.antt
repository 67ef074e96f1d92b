-- The handles that a player sees, one after another.
use Rattle.std.proofs.Common.{◌≡◌, ℕ, ◌+◌, List, ◌∷◌, ◌++◌, [], take, length, map, ap, ◌∙◌, arith}
use Rattle.std.specs.Prelude.{filter, slice_get, Some}
use Rattle.std.proofs.lemmas.List.Elements.{filter-append}
use Rattle.std.proofs.lemmas.List.{map-append, length-take-le}
use Rattle.std.proofs.lemmas.Option.{slice_get_within}
use Rattle.sender_records.proofs.Writes.{take_step}
use Rattle.protocol_model.specs.Value.{Table, Prop, numbered_from}
use Rattle.protocol_model.specs.World.{Edits, owns, is_on}
use Rattle.protocol_model.specs.Sight.{seen_value}
use Rattle.protocol_model.specs.Cond.{visible}
use Rattle.actor_sights.specs.Visible.{visible_among}

numbered_more : (h : ℕ) (props : List Prop) (p : Prop) (k : ℕ) → k ≡ h + length props
    → numbered_from h (props ++ p ∷ []) ≡ numbered_from h props ++ (k, p) ∷ []
numbered_more h [] p k e = ap (λ (n : ℕ). (n, p) ∷ []) (omega (e, arith))
numbered_more h (q ∷ props) p k e = ap (λ entries. (h, q) ∷ entries)
    (numbered_more (h + 1) props p k (omega (e, arith)))

pub among_append : (table : Table) (edits : Edits) (player a : ℕ) (before after : List (ℕ × Prop))
    → visible_among table edits player a (before ++ after) ≡ visible_among table edits player a before
    ++ visible_among table edits player a after
among_append table edits player a before after =
    ap (map (λ (entry : ℕ × Prop). record { handle = entry.0; value = seen_value table edits player a entry.0 }))
    (filter-append (λ (entry : ℕ × Prop). visible entry.1.cond (owns edits player a) (is_on edits a entry.0)) before
    after)
    ∙ map-append _ (filter (λ (entry : ℕ × Prop). visible entry.1.cond (owns edits player a) (is_on edits a entry.0))
    before) _

-- with one property more
pub among_more : (table : Table) (edits : Edits) (player a i k : ℕ) (props : List Prop) (p : Prop)
    → slice_get props i ≡ Some p → k ≡ i + 4
    → visible_among table edits player a (numbered_from 4 (take (i + 1) props))
    ≡ visible_among table edits player a (numbered_from 4 (take i props)) ++ visible_among table edits player a
    ((k, p) ∷ [])
among_more table edits player a i k props p there at =
    ap (λ (ps : List Prop). visible_among table edits player a (numbered_from 4 ps)) (take_step props i p there)
    ∙ ap (visible_among table edits player a) (numbered_more 4 (take i props) p k
    (let l = length-take-le i props (let w = slice_get_within props i p there in omega (w, arith)) in
    omega (at, l, arith)))
    ∙ among_append table edits player a (numbered_from 4 (take i props)) ((k, p) ∷ [])
