-- How a world goes along with a value or a switch that is set, by the handle.
use Rattle.std.proofs.Common.{◌≡◌, ◌∙◌, ℕ, ℤ, zero, suc, ◌+◌, ◌-◌, List, ◌∷◌, Bool, true, false, ◌&&◌, nat_le, nat_lt, Option, Some, None, option_map, unwrap_or, refl, sym, ap, subst, arith}
use Rattle.std.specs.Prelude.{slice_get, slice_set}
use Rattle.std.specs.Bool.{then_some}
use Rattle.std.proofs.lemmas.Bool.Decides.{nat_tests}
use Rattle.std.proofs.lemmas.Option.{same_Some, none-some}
use Rattle.protocol_model.specs.declared.Kind.{Kind}
use Rattle.protocol_model.specs.Value.{Class, Prop}
use Rattle.protocol_model.specs.World.{Edits, Set, Switch, class_at, has_switch, is_custom}
use Rattle.class_layout.specs.Tables.{Layout, IsLayout, table_in}
use Rattle.value_codec.specs.Values.{whole_of, value_fits}
use Rattle.value_codec.specs.declared.value.Value.{Value}
use Rattle.world_table.specs.declared.actor.Actor.{Actor}
use Rattle.world_table.specs.declared.actor.Cell.{Cell}
use Rattle.world_table.specs.declared.edit.Look.{Look}
use Rattle.world_table.specs.Answers.{settable_at}
use Rattle.world_table.specs.Kept.{Kept, actor_at, place_in, moved_look}
use Rattle.world_table.specs.Stands.{History, history_of, HasCell, Stands}
use Rattle.world_table.proofs.Props.{apart}
use Rattle.world_table.proofs.Cells.{place_is}
use Rattle.world_table.proofs.Changing.{actor_of}
use Rattle.world_table.proofs.Edits.{Puts, x_stands, y_stands, value_stands, switch_stands}

-- ---- a place

-- the property of a place's handle
pub record AtPlace (r : Actor) (h n : ℕ) : Type 0 where
  pub k : ℕ
  pub handle : h ≡ 4 + k
  pub place : n ≡ r.first + k

at_place : (r : Actor) (h n : ℕ) → place_in r h ≡ Some n → AtPlace r h n
at_place r h n e = of (nat_le 4 h && nat_lt (h - 4) (r.past - r.first)) refl e
  where
    of : (t : Bool) → (nat_le 4 h && nat_lt (h - 4) (r.past - r.first)) ≡ t → then_some t (r.first + (h - 4)) ≡ Some n
        → AtPlace r h n
    of true q s =
        record { k = h - 4; handle = grind (arith, nat_tests); place = sym (same_Some (r.first + (h - 4)) n s) }
    of false q s = absurd (cc)

some_cell : (layout : Layout) (set : Option ℤ) (switch : Bool) (p : Prop) (o : Option Cell)
    → HasCell layout set switch p o
    → (cell : Cell) × (o ≡ Some cell)
some_cell layout set switch p None h = absurd h
some_cell layout set switch p (Some cell) h = (cell, refl)

settable_own : (class : Class) (k : ℕ) → settable_at class (suc (suc (suc (suc k)))) ≡ slice_get class.props k
settable_own class k = rw (apart k 3 (omega arith)) refl

some_prop : (o : Option Prop) (kind : Kind) → option_map (λ (p : Prop). p.kind) o ≡ Some kind
    → (p : Prop) × (o ≡ Some p) × (p.kind ≡ kind)
some_prop None kind h = absurd (cc)
some_prop (Some p) kind h = (p, refl, same_Some p.kind kind h)

-- ---- the value that is in a place

-- a cell with the kind of its handle, which its value fits
pub record KindHeld (w : Kept) (r : Actor) (h n : ℕ) : Type 0 where
  pub kind : Kind
  pub cell : Cell
  pub is : slice_get w.cells n ≡ Some cell
  pub some : option_map (λ (p : Prop). p.kind) (settable_at (class_at (table_in w.layout) r.look.class) h) ≡ Some kind
  pub fits : value_fits kind cell.value ≡ true

held : (layout : Layout) (set : Option ℤ) (switch : Bool) (p : Prop) (o : Option Cell) → IsLayout layout
    → HasCell layout set switch p o
    → (cell : Cell) × (o ≡ Some cell) × (value_fits p.kind cell.value ≡ true)
held layout set switch p None is h = absurd h
held layout set switch p (Some cell) is h = (cell, refl, h.fits is)

some_own : (o : Option Prop) (m n : ℕ) → option_map (λ (p : Prop). m) o ≡ Some n → (p : Prop) × (o ≡ Some p)
some_own None m n h = absurd (cc)
some_own (Some p) m n h = (p, refl)

pub kind_held : (w : Kept) (edits : Edits) (a h n : ℕ) (r : Actor) → Stands w edits → IsLayout w.layout
    → actor_at w.actors a ≡ Some r → place_in r h ≡ Some n
    → KindHeld w r h n
kind_held w edits a h n r stands layout is place =
    let told : History = history_of edits a in
    let right = actor_of w edits a r stands is in
    let class : Class = class_at (table_in w.layout) right.spawned.class in
    let at = at_place r h n place in
    let four : h ≡ suc (suc (suc (suc at.k))) = omega (arith, at.handle) in
    let prop = some_own (slice_get class.props at.k) (r.first + at.k) n
    (sym (place_is r class.props at.k right.past) ∙ ap (place_in r) (sym four) ∙ place) in
    let cell = held w.layout (told.set (4 + at.k)) (told.on (4 + at.k)) prop.0 (slice_get w.cells (r.first + at.k))
    layout (right.holds at.k prop.0 prop.1) in
    record {
      kind = (prop.0).kind;
      cell = cell.0;
      is = ap (slice_get w.cells) at.place ∙ cell.1;
      some = ap (λ (l : Look). option_map (λ (p : Prop). p.kind) (settable_at (class_at (table_in w.layout) l.class) h))
          right.look
          ∙ ap (option_map (λ (p : Prop). p.kind)) (ap (settable_at class) four ∙ settable_own class at.k ∙ prop.1);
      fits = cell.2;
    }

-- a value is set that a cell holds
pub own_set : (w : Kept) (edits : Edits) (a h n : ℕ) (v : Value) (r : Actor) (kind : Kind) (cells : List Cell)
    → Stands w edits
    → actor_at w.actors a ≡ Some r → place_in r h ≡ Some n
    → option_map (λ (p : Prop). p.kind) (settable_at (class_at (table_in w.layout) r.look.class) h) ≡ Some kind
    → value_fits kind v ≡ true
    → ((cell : Cell) → slice_get w.cells n ≡ Some cell → cells ≡ slice_set w.cells n (record cell { value = v }))
    → Stands (record w { cells = cells }) (Set a h (whole_of v) ∷ edits)
own_set w edits a h n v r kind cells stands is place some fits set =
    let class : Class = class_at (table_in w.layout) r.look.class in
    let told : History = history_of edits a in
    let at = at_place r h n place in
    let four : h ≡ suc (suc (suc (suc at.k))) = omega (arith, at.handle) in
    let prop = some_prop (settable_at class h) kind some in
    let own : slice_get class.props at.k ≡ Some prop.0 = sym (settable_own class at.k)
    ∙ ap (settable_at class) (sym four) ∙ prop.1 in
    let right = actor_of w edits a r stands is in
    let by_look = ap (λ (l : Look). slice_get (class_at (table_in w.layout) l.class).props at.k) (sym right.look)
    ∙ own in
    let cell = some_cell w.layout (told.set (4 + at.k)) (told.on (4 + at.k)) prop.0 (slice_get w.cells (r.first + at.k))
    (right.holds at.k prop.0 by_look) in
    subst (λ (m : ℕ). Stands (record w { cells = cells }) (Set a m (whole_of v) ∷ edits)) (sym at.handle)
    (value_stands w edits a at.k v r prop.0 cell.0 cells stands is own
    (ap (λ (x : Kind). value_fits x v) prop.2 ∙ fits) cell.1
    (set cell.0 (ap (slice_get w.cells) at.place ∙ cell.1)
    ∙ ap (λ (m : ℕ). slice_set w.cells m (record cell.0 { value = v })) at.place))

-- a value is set that the record holds
pub place_set : (w : Kept) (edits : Edits) (a h : ℕ) (v : Value) (r : Actor) (kind : Kind) (actors : List Actor)
    → Stands w edits
    → actor_at w.actors a ≡ Some r → place_in r h ≡ None
    → option_map (λ (p : Prop). p.kind) (settable_at (class_at (table_in w.layout) r.look.class) h) ≡ Some kind
    → value_fits kind v ≡ true
    → Puts w actors a (record r { look = moved_look r.look h v })
    → Stands (record w { actors = actors }) (Set a h (whole_of v) ∷ edits)
place_set w edits a zero v r kind actors stands is place some fits puts = absurd (cc)
place_set w edits a (suc zero) v r kind actors stands is place some fits puts =
    x_by v (ap (λ (k : Kind). value_fits k v) (same_Some Kind.I32 kind some) ∙ fits) puts
  where
    x_by : (v : Value) → value_fits Kind.I32 v ≡ true → Puts w actors a (record r { look = moved_look r.look 1 v })
        → Stands (record w { actors = actors }) (Set a 1 (whole_of v) ∷ edits)
    x_by (Value.I32 z) e p = x_stands w edits a z r actors stands is p
    x_by (Value.Bool b) e p = absurd (cc)
    x_by (Value.U8 n) e p = absurd (cc)
    x_by (Value.U32 n) e p = absurd (cc)
    x_by (Value.I64 z) e p = absurd (cc)
    x_by (Value.Enum n) e p = absurd (cc)
    x_by (Value.Packed n) e p = absurd (cc)
    x_by (Value.Guid n) e p = absurd (cc)
place_set w edits a (suc (suc zero)) v r kind actors stands is place some fits puts =
    y_by v (ap (λ (k : Kind). value_fits k v) (same_Some Kind.I32 kind some) ∙ fits) puts
  where
    y_by : (v : Value) → value_fits Kind.I32 v ≡ true → Puts w actors a (record r { look = moved_look r.look 2 v })
        → Stands (record w { actors = actors }) (Set a 2 (whole_of v) ∷ edits)
    y_by (Value.I32 z) e p = y_stands w edits a z r actors stands is p
    y_by (Value.Bool b) e p = absurd (cc)
    y_by (Value.U8 n) e p = absurd (cc)
    y_by (Value.U32 n) e p = absurd (cc)
    y_by (Value.I64 z) e p = absurd (cc)
    y_by (Value.Enum n) e p = absurd (cc)
    y_by (Value.Packed n) e p = absurd (cc)
    y_by (Value.Guid n) e p = absurd (cc)
place_set w edits a (suc (suc (suc zero))) v r kind actors stands is place some fits puts = absurd (cc)
place_set w edits a (suc (suc (suc (suc k)))) v r kind actors stands is place some fits puts =
    let class : Class = class_at (table_in w.layout) r.look.class in
    let prop = some_prop (settable_at class (suc (suc (suc (suc k))))) kind some in
    let own : slice_get class.props k ≡ Some prop.0 = sym (settable_own class k) ∙ prop.1 in
    let right = actor_of w edits a r stands is in
    let by_look = ap (λ (l : Look). slice_get (class_at (table_in w.layout) l.class).props k) (sym right.look) ∙ own in
    let there = place_is r (class_at (table_in w.layout) right.spawned.class).props k right.past in
    absurd (none-some (r.first + k) (sym place ∙ there ∙ ap (option_map (λ (p : Prop). r.first + k)) by_look))

some_custom : (o : Option Prop) → unwrap_or (option_map (λ (p : Prop). is_custom p.cond) o) false ≡ true
    → (p : Prop) × (o ≡ Some p) × (is_custom p.cond ≡ true)
some_custom None h = absurd (cc)
some_custom (Some p) h = (p, refl, h)

-- a switch is set
pub own_switch : (w : Kept) (edits : Edits) (a h n : ℕ) (on : Bool) (r : Actor) (cells : List Cell) → Stands w edits
    → actor_at w.actors a ≡ Some r → place_in r h ≡ Some n
    → has_switch (class_at (table_in w.layout) r.look.class) h ≡ true
    → ((cell : Cell) → slice_get w.cells n ≡ Some cell → cells ≡ slice_set w.cells n (record cell { on = on }))
    → Stands (record w { cells = cells }) (Switch a h on ∷ edits)
own_switch w edits a h n on r cells stands is place has set =
    let class : Class = class_at (table_in w.layout) r.look.class in
    let told : History = history_of edits a in
    let at = at_place r h n place in
    let four : h ≡ suc (suc (suc (suc at.k))) = omega (arith, at.handle) in
    let prop = some_custom (slice_get class.props at.k) (sym (ap (has_switch class) four) ∙ has) in
    let right = actor_of w edits a r stands is in
    let by_look = ap (λ (l : Look). slice_get (class_at (table_in w.layout) l.class).props at.k) (sym right.look)
    ∙ prop.1 in
    let cell = some_cell w.layout (told.set (4 + at.k)) (told.on (4 + at.k)) prop.0 (slice_get w.cells (r.first + at.k))
    (right.holds at.k prop.0 by_look) in
    subst (λ (m : ℕ). Stands (record w { cells = cells }) (Switch a m on ∷ edits)) (sym at.handle)
    (switch_stands w edits a at.k on r prop.0 cell.0 cells stands is prop.1 prop.2 cell.1
    (set cell.0 (ap (slice_get w.cells) at.place ∙ cell.1)
    ∙ ap (λ (m : ℕ). slice_set w.cells m (record cell.0 { on = on })) at.place))

no_custom : (o : Option Prop) (first : ℕ) → option_map (λ (p : Prop). first) o ≡ None
    → unwrap_or (option_map (λ (p : Prop). is_custom p.cond) o) false ≡ false
no_custom None first h = refl
no_custom (Some p) first h = absurd (cc)

-- a handle without a place has no switch
pub no_place : (w : Kept) (edits : Edits) (a h : ℕ) (r : Actor) → Stands w edits → actor_at w.actors a ≡ Some r
    → place_in r h ≡ None
    → has_switch (class_at (table_in w.layout) r.look.class) h ≡ false
no_place w edits a zero r stands is place = refl
no_place w edits a (suc zero) r stands is place = refl
no_place w edits a (suc (suc zero)) r stands is place = refl
no_place w edits a (suc (suc (suc zero))) r stands is place = refl
no_place w edits a (suc (suc (suc (suc k)))) r stands is place =
    let right = actor_of w edits a r stands is in
    let there = place_is r (class_at (table_in w.layout) right.spawned.class).props k right.past in
    ap (λ (l : Look). has_switch (class_at (table_in w.layout) l.class) (suc (suc (suc (suc k))))) right.look
    ∙ no_custom (slice_get (class_at (table_in w.layout) right.spawned.class).props k) (r.first + k) (sym there ∙ place)
