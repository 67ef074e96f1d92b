-- What a world answers is what its edits say.
use Rattle.std.proofs.Common.{◌≡◌, ◌∙◌, ℕ, ℤ, pos, zero, suc, ◌+◌, List, Bool, false, ◌&&◌, Option, Some, None, is_some, option_map, option_and_then, unwrap_or, refl, sym, ap, subst, arith}
use Rattle.std.specs.Prelude.{slice_get}
use Rattle.std.specs.Bool.{then_some}
use Rattle.protocol_model.specs.Value.{Prop}
use Rattle.protocol_model.specs.World.{Edits, class_at, class_in, no_class, is_custom, has_switch, Spawned}
use Rattle.value_codec.specs.Values.{whole_of}
use Rattle.class_layout.specs.Tables.{Layout, table_in}
use Rattle.world_table.specs.declared.actor.Actor.{Actor}
use Rattle.world_table.specs.declared.actor.Cell.{Cell}
use Rattle.world_table.specs.declared.edit.Look.{Look}
use Rattle.world_table.specs.Answers.{settable_at, named_value, is_switched}
use Rattle.world_table.specs.Kept.{Kept, actor_at, cell_at, record_value, switch_at}
use Rattle.world_table.specs.Stands.{History, history_of, told_value, HasCell, ActorIs, IsKept, Stands}
use Rattle.world_table.proofs.Props.{apart}
use Rattle.world_table.proofs.Cells.{place_is}

-- ---- the value and the switch of a property of its own

cell_value : (layout : Layout) (set : Option ℤ) (switch : Bool) (p : Prop) (o : Option Cell)
    → HasCell layout set switch p o
    → option_map (λ (c : Cell). whole_of c.value) o ≡ Some (unwrap_or set p.init)
cell_value layout set switch p None h = absurd h
cell_value layout set switch p (Some cell) h = ap Some h.value

cell_switch : (layout : Layout) (set : Option ℤ) (switch : Bool) (p : Prop) (o : Option Cell)
    → HasCell layout set switch p o
    → unwrap_or (option_map (λ (c : Cell). c.on) o) false ≡ (is_custom p.cond && switch)
cell_switch layout set switch p None h = absurd h
cell_switch layout set switch p (Some cell) h = h.on

-- ---- what stands of the class's properties, by the handles from 4 on

switch_told : (layout : Layout) (cells : List Cell) (told : History) (r : Actor) (h : ActorIs layout cells told r) (k : ℕ)
    (o : Option Prop)
    → slice_get (class_at (table_in layout) h.spawned.class).props k ≡ o
    → unwrap_or
    (option_map (λ (c : Cell). c.on) (option_and_then (slice_get cells) (option_map (λ (p : Prop). r.first + k) o)))
    false
    ≡ (unwrap_or (option_map (λ (p : Prop). is_custom p.cond) o) false && told.on (4 + k))
switch_told layout cells told r h k None e = refl
switch_told layout cells told r h k (Some p) e = cell_switch layout (told.set (4 + k)) (told.on (4 + k)) p
    (slice_get cells (r.first + k)) (h.holds k p e)

value_told : (layout : Layout) (cells : List Cell) (told : History) (r : Actor) (h : ActorIs layout cells told r) (k : ℕ)
    (o : Option Prop)
    → slice_get (class_at (table_in layout) h.spawned.class).props k ≡ o
    → option_map (λ (c : Cell). whole_of c.value)
    (option_and_then (slice_get cells) (option_map (λ (p : Prop). r.first + k) o))
    ≡ option_map (λ (p : Prop). unwrap_or (told.set (4 + k)) p.init) o
value_told layout cells told r h k None e = refl
value_told layout cells told r h k (Some p) e = cell_value layout (told.set (4 + k)) (told.on (4 + k)) p
    (slice_get cells (r.first + k)) (h.holds k p e)

-- ---- switches

record_switch : (layout : Layout) (cells : List Cell) (told : History) (r : Actor) (i : ActorIs layout cells told r)
    (h : ℕ)
    → unwrap_or (option_map (λ (c : Cell). c.on) (cell_at cells r h)) false
    ≡ (has_switch (class_at (table_in layout) i.spawned.class) h && told.on h)
record_switch layout cells told r i zero = refl
record_switch layout cells told r i (suc zero) = refl
record_switch layout cells told r i (suc (suc zero)) = refl
record_switch layout cells told r i (suc (suc (suc zero))) = refl
record_switch layout cells told r i (suc (suc (suc (suc k)))) =
    let props = (class_at (table_in layout) i.spawned.class).props in
    let four : 4 + k ≡ suc (suc (suc (suc k))) = omega arith in
    rw (place_is r props k i.past)
    (switch_told layout cells told r i k (slice_get props k) refl
    ∙ ap (λ (h : ℕ). unwrap_or (option_map (λ (p : Prop). is_custom p.cond) (slice_get props k)) false && told.on h)
    four)

no_switch : (h : ℕ) (on : Bool) → (has_switch no_class h && on) ≡ false
no_switch zero on = refl
no_switch (suc zero) on = refl
no_switch (suc (suc zero)) on = refl
no_switch (suc (suc (suc zero))) on = refl
no_switch (suc (suc (suc (suc k)))) on = refl

switch_by : (layout : Layout) (cells : List Cell) (told : History) (h : ℕ) (o : Option Actor) → IsKept layout cells told o
    → unwrap_or (option_map (λ (c : Cell). c.on) (option_and_then (λ (r : Actor). cell_at cells r h) o)) false
    ≡ (has_switch (class_in (table_in layout) told.spawn) h && told.on h)
switch_by layout cells told h None e =
    sym (no_switch h (told.on h))
    ∙ ap (λ (o : Option Spawned). has_switch (class_in (table_in layout) o) h && told.on h)
    (sym (ap (λ (t : History). t.spawn) e))
switch_by layout cells told h (Some r) i =
    record_switch layout cells told r i h
    ∙ ap (λ (o : Option Spawned). has_switch (class_in (table_in layout) o) h && told.on h) (sym i.spawn)

pub switched_is : (w : Kept) (edits : Edits) (a h : ℕ) → Stands w edits
    → switch_at w.actors w.cells a h ≡ is_switched (table_in w.layout) edits a h
switched_is w edits a h stands = switch_by w.layout w.cells (history_of edits a) h (actor_at w.actors a) (stands.actors a)

-- ---- values

two_maps : (o : Option Cell)
    → option_map whole_of (option_map (λ (c : Cell). c.value) o) ≡ option_map (λ (c : Cell). whole_of c.value) o
two_maps None = refl
two_maps (Some cell) = refl

own_init : (o : Option Prop) (set : Option ℤ)
    → option_map (λ (p : Prop). unwrap_or set p.init) o
    ≡ option_map (λ (p : Prop). unwrap_or set (unwrap_or (option_map (λ (q : Prop). q.init) o) (pos 0))) o
own_init None set = refl
own_init (Some p) set = refl

told_own : (layout : Layout) (told : History) (spawned : Spawned) (k : ℕ) → told.spawn ≡ Some spawned
    → told_value (table_in layout) told (suc (suc (suc (suc k))))
    ≡ unwrap_or (told.set (suc (suc (suc (suc k)))))
    (unwrap_or (option_map (λ (q : Prop). q.init) (slice_get (class_at (table_in layout) spawned.class).props k))
    (pos 0))
told_own layout told spawned k e = rw (e, apart k 1 (omega arith), apart k 2 (omega arith)) refl

record_told : (layout : Layout) (cells : List Cell) (told : History) (r : Actor) (i : ActorIs layout cells told r) (h : ℕ)
    → option_map whole_of (record_value cells r h)
    ≡ option_map (λ (p : Prop). told_value (table_in layout) told h)
    (settable_at (class_at (table_in layout) i.spawned.class) h)
record_told layout cells told r i zero = refl
record_told layout cells told r i (suc zero) = ap (λ (l : Look). Some l.x) i.look
record_told layout cells told r i (suc (suc zero)) = ap (λ (l : Look). Some l.y) i.look
record_told layout cells told r i (suc (suc (suc zero))) = refl
record_told layout cells told r i (suc (suc (suc (suc k)))) =
    let props = (class_at (table_in layout) i.spawned.class).props in
    let h : ℕ = suc (suc (suc (suc k))) in
    let four : 4 + k ≡ h = omega arith in
    let own : Option Prop = slice_get props k in
    rw (apart k 1 (omega arith), apart k 2 (omega arith), apart k 3 (omega arith))
    (two_maps (cell_at cells r h)
    ∙ ap (λ (o : Option ℕ). option_map (λ (c : Cell). whole_of c.value) (option_and_then (slice_get cells) o))
    (place_is r props k i.past)
    ∙ value_told layout cells told r i k own refl
    ∙ ap (λ (n : ℕ). option_map (λ (p : Prop). unwrap_or (told.set n) p.init) own) four
    ∙ own_init own (told.set h)
    ∙ ap (λ (v : ℤ). option_map (λ (p : Prop). v) own) (sym (told_own layout told i.spawned k i.spawn)))

some_map : (o : Option Prop) (v : ℤ) → option_map (λ (p : Prop). v) o ≡ then_some (is_some o) v
some_map None v = refl
some_map (Some p) v = refl

value_by : (layout : Layout) (cells : List Cell) (told : History) (h : ℕ) (o : Option Actor) → IsKept layout cells told o
    → option_map whole_of (option_and_then (λ (r : Actor). record_value cells r h) o)
    ≡ then_some (is_some told.spawn && is_some (settable_at (class_in (table_in layout) told.spawn) h))
    (told_value (table_in layout) told h)
value_by layout cells told h None e = let none : told.spawn ≡ None = ap (λ (t : History). t.spawn) e in rw none refl
value_by layout cells told h (Some r) i =
    record_told layout cells told r i h
    ∙ some_map (settable_at (class_at (table_in layout) i.spawned.class) h) (told_value (table_in layout) told h)
    ∙ ap (λ (o : Option Spawned). then_some (is_some o && is_some (settable_at (class_in (table_in layout) o) h))
    (told_value (table_in layout) told h)) (sym i.spawn)

pub value_is : (w : Kept) (edits : Edits) (a h : ℕ) (r : Actor) → Stands w edits → Some r ≡ actor_at w.actors a
    → option_map whole_of (record_value w.cells r h) ≡ named_value (table_in w.layout) edits a h
value_is w edits a h r stands found =
    value_by w.layout w.cells (history_of edits a) h (Some r)
    (subst (λ (o : Option Actor). IsKept w.layout w.cells (history_of edits a) o) (sym found) (stands.actors a))
