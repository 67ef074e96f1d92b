-- Values that are answered are ones of their kinds.
use Rattle.std.proofs.Common.{◌≡◌, ◌∙◌, ℕ, zero, suc, ◌+◌, ◌<◌, List, Option, Some, None, option_map, option_and_then, sym, ap, subst, arith}
use Rattle.std.specs.Prelude.{slice_get, IsTrue, IfSome}
use Rattle.std.proofs.lemmas.Option.{same_Some}
use Rattle.protocol_model.specs.declared.Kind.{Kind}
use Rattle.protocol_model.specs.Value.{Prop, prop_at}
use Rattle.protocol_model.specs.World.{Edits, Spawned, class_of, class_in, class_at}
use Rattle.class_layout.specs.Tables.{Layout, IsLayout, table_in}
use Rattle.value_codec.specs.Values.{value_fits}
use Rattle.value_codec.specs.declared.value.Value.{Value}
use Rattle.world_table.specs.declared.actor.Actor.{Actor}
use Rattle.world_table.specs.declared.actor.Cell.{Cell}
use Rattle.world_table.specs.Kept.{Kept, actor_at, record_value}
use Rattle.world_table.specs.Stands.{History, history_of, HasCell, ActorIs, Stands}
use Rattle.world_table.proofs.Props.{apart}
use Rattle.world_table.proofs.Cells.{place_is}
use Rattle.world_table.proofs.Changing.{actor_of}

cell_fits : (layout : Layout) (told : History) (k : ℕ) (p : Prop) (v : Value) (o : Option Cell) → IsLayout layout
    → HasCell layout (told.set (4 + k)) (told.on (4 + k)) p o → option_map (λ (c : Cell). c.value) o ≡ Some v
    → IsTrue (value_fits p.kind v)
cell_fits layout told k p v None is h e = absurd h
cell_fits layout told k p v (Some cell) is h e = subst (λ (x : Value). IsTrue (value_fits p.kind x))
    (same_Some cell.value v e) (h.fits is)

record_fits : (layout : Layout) (cells : List Cell) (told : History) (r : Actor) (i : ActorIs layout cells told r) (h : ℕ)
    (p : Prop) (v : Value)
    → IsLayout layout → prop_at (class_at (table_in layout) i.spawned.class) h ≡ Some p
    → record_value cells r h ≡ Some v
    → (h < 4 → IsTrue (value_fits Kind.I32 v)) → IsTrue (value_fits p.kind v)
record_fits layout cells told r i zero p v is at_h value low = absurd (cc)
record_fits layout cells told r i (suc zero) p v is at_h value low =
    subst (λ (k : Kind). IsTrue (value_fits k v)) (ap (λ (o : Option Prop). kind_or o) at_h) (low (omega arith))
  where
    kind_or : Option Prop → Kind
    kind_or None = Kind.I32
    kind_or (Some q) = q.kind
record_fits layout cells told r i (suc (suc zero)) p v is at_h value low =
    subst (λ (k : Kind). IsTrue (value_fits k v)) (ap (λ (o : Option Prop). kind_or o) at_h) (low (omega arith))
  where
    kind_or : Option Prop → Kind
    kind_or None = Kind.I32
    kind_or (Some q) = q.kind
record_fits layout cells told r i (suc (suc (suc zero))) p v is at_h value low = absurd (cc)
record_fits layout cells told r i (suc (suc (suc (suc k)))) p v is at_h value low =
    let props : List Prop = (class_at (table_in layout) i.spawned.class).props in
    let place = place_is r props k i.past ∙ ap (option_map (λ (q : Prop). r.first + k)) at_h in
    let held = ap (λ (o : Option ℕ). option_map (λ (c : Cell). c.value) (option_and_then (slice_get cells) o))
    (sym place)
    ∙ rw (apart k 1 (omega arith), apart k 2 (omega arith)) at value in
    cell_fits layout told k p v (slice_get cells (r.first + k)) is (i.holds k p at_h) held

pub fits_is : (w : Kept) (edits : Edits) (a h : ℕ) (p : Prop) (r : Actor) (o : Option Value) → Stands w edits
    → IsLayout w.layout
    → prop_at (class_of (table_in w.layout) edits a) h ≡ Some p → Some r ≡ actor_at w.actors a
    → o ≡ record_value w.cells r h
    → (h < 4 → IfSome o (λ (v : Value). IsTrue (value_fits Kind.I32 v)))
    → IfSome o (λ (v : Value). IsTrue (value_fits p.kind v))
fits_is w edits a h p r None stands is at_h found value low = tt
fits_is w edits a h p r (Some v) stands is at_h found value low =
    let right = actor_of w edits a r stands (sym found) in
    record_fits w.layout w.cells (history_of edits a) r right h p v is
    (ap (λ (o : Option Spawned). prop_at (class_in (table_in w.layout) o) h) (sym right.spawn) ∙ at_h) (sym value) low
