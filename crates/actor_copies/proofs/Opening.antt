-- An open that is applied leaves the copies standing for those of the definitions.
use Rattle.std.proofs.Common.{◌≡◌, ℕ, zero, suc, ◌<◌, List, [], ◌∷◌, length, Bool, true, false, not, Some, None, option_map, refl, sym, ap, ◌∙◌, arith}
use Rattle.std.specs.Prelude.{slice_get}
use Rattle.std.proofs.lemmas.Bool.{eqb-true}
use Rattle.std.proofs.lemmas.Option.{slice_get-map}
use Rattle.protocol_model.specs.Value as Model
use Rattle.protocol_model.specs.World.{class_at}
use Rattle.protocol_model.specs.Payload.{Opens}
use Rattle.table_model.specs.Facts.{IsTable}
use Rattle.table_model.proofs.ByGuid.{table_guids}
use Rattle.connection_model.specs.Feed.{Past, Delivered}
use Rattle.connection_model.specs.Copies.{copy_class}
use Rattle.connection_model.specs.PayloadReading.{is_other_class}
use Rattle.class_layout.specs.Tables.{Layout, entries_in, entry_of, table_in}
use Rattle.class_layout.specs.declared.class.Class.{Class}
use Rattle.class_layout.proofs.InMemory.{class_in_memory}
use Rattle.payload_laws.specs.Applied.{Applied}
use Rattle.actor_copies.specs.declared.copy.ActorCopy.{ActorCopy}
use Rattle.actor_copies.specs.declared.copy.ReadOpen.{ReadOpen}
use Rattle.actor_copies.specs.Applied.{IsNew, open_message}
use Rattle.actor_copies.specs.Kept.{copy_actor, ArePlaced, changed}
use Rattle.actor_copies.specs.Keyed.{Put, at_key}
use Rattle.actor_copies.specs.Copies.{initial_values}
use Rattle.actor_copies.specs.Stands.{Shows, IsClean}
use Rattle.payload_reading.specs.Values.{pair_values}
use Rattle.actor_copies.proofs.Keyed.{all_at}
use Rattle.actor_copies.proofs.Knowing.{class_known}
use Rattle.actor_copies.proofs.Mirroring.{is_kept, reopen_shows, open_shows}

-- ---- one class has one guid

there : (classes : List Class) (i : ℕ) → i < length classes → (c : Class) × (slice_get classes i ≡ Some c)
there [] i l = absurd (omega (arith, l))
there (c ∷ classes) zero l = (c, refl)
there (c ∷ classes) (suc i) l = there classes i (omega (arith, l))

same_place : (layout : Layout) (i j : ℕ) → IsTable (entries_in layout) → i < length layout.classes
    → j < length layout.classes
    → Model.class_guid (class_at (table_in layout) i) ≡ Model.class_guid (class_at (table_in layout) j) → i ≡ j
same_place layout i j table l m same =
    let a = there layout.classes i l in
    let b = there layout.classes j m in
    table_guids (entries_in layout) i j (entry_of layout.segments a.0) (entry_of layout.segments b.0) table
    (slice_get-map (entry_of layout.segments) layout.classes i ∙ ap (option_map (entry_of layout.segments)) a.1)
    (slice_get-map (entry_of layout.segments) layout.classes j ∙ ap (option_map (entry_of layout.segments)) b.1)
    (sym (ap Model.class_guid (class_in_memory layout.segments layout.classes i a.0 a.1)) ∙ same
    ∙ ap Model.class_guid (class_in_memory layout.segments layout.classes j b.0 b.1))

not_false : (b : Bool) → not b ≡ false → b ≡ true
not_false true h = refl
not_false false h = absurd (cc)

-- ---- an actor that has a copy

pub reopen_by : (layout : Layout) (old new : List ActorCopy) (o : ReadOpen) (ch : ℕ) (x : ActorCopy)
    → IsTable (entries_in layout) → ArePlaced (length layout.classes) old → o.class < length layout.classes
    → at_key copy_actor old o.actor ≡ Some x
    → Put copy_actor o.actor (Some (changed x (Some ch) o.values)) old new
    → (past later : Past) (d : Delivered) (exports : List Model.Segment) → Shows layout old past
    → Applied past later d → d.message ≡ open_message layout exports o → d.channel ≡ ch
    → is_other_class (class_at (table_in layout) o.class) (copy_class past o.actor) ≡ false → Shows layout new later
reopen_by layout old new o ch x table placed l e put past later d exports shows applied m on other =
    let k = is_kept layout old past o.actor x shows e in
    let guids = eqb-true _ _ (not_false _ (sym (ap (is_other_class (class_at (table_in layout) o.class)) k.class)
    ∙ other)) in
    let place : x.class ≡ o.class = same_place layout x.class o.class table
    (all_at (λ (c : ActorCopy). c.class < length layout.classes) copy_actor old o.actor x placed e) l guids
    in
    reopen_shows layout old new past later d exports o.actor ch x o.values shows e applied
    (m ∙ ap (λ (n : ℕ). Opens exports o.actor (class_at (table_in layout) n) (pair_values o.values)) (sym place)) on
    put

-- ---- one that has none

pub open_by : (layout : Layout) (old new : List ActorCopy) (o : ReadOpen) (ch : ℕ) (c : ActorCopy)
    → IsNew layout ch o c → at_key copy_actor old o.actor ≡ None
    → Put copy_actor c.actor (Some c) old new → (past later : Past) (d : Delivered) (exports : List Model.Segment)
    → Shows layout old past → IsClean past → Applied past later d → d.message ≡ open_message layout exports o
    → d.channel ≡ ch → Shows layout new later
open_by layout old new o ch c n none put past later d exports shows clean applied m on =
    let no_class : copy_class past o.actor ≡ None =
    sym (class_known layout old past o.actor shows)
    ∙ ap (option_map (λ (c : ActorCopy). class_at (table_in layout) c.class)) none in
    open_shows layout old new past later d exports c ch n.begun o.values shows clean
    (ap (copy_class past) n.named ∙ no_class) applied
    (m ∙ parts exports o.actor c.actor o.class c.class (pair_values o.values) (sym n.named) (sym n.class)) on
    n.channel n.values
    (n.begins ∙ ap (λ (k : ℕ). initial_values (class_at (table_in layout) k)) (sym n.class)) put
  where
    parts : (exports : List Model.Segment) (a b i j : ℕ) (values : List Model.Pair) → a ≡ b → i ≡ j
        → Opens exports a (class_at (table_in layout) i) values ≡ Opens exports b
        (class_at (table_in layout) j) values
    parts exports a b i j values e f = rw (e, f) refl
