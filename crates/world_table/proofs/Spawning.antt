-- How a world goes along with a spawn.
use Rattle.std.proofs.Common.{◌≡◌, ◌≢◌, ◌∙◌, ℕ, ℤ, ◌+◌, ◌*◌, ◌<◌, ◌≤◌, List, [], ◌∷◌, ◌++◌, map, length, Bool, true, false, ◌==◌, ◌&&◌, Option, Some, None, option_map, refl, sym, ap, subst, arith, if◌then◌else◌, length-append}
use Rattle.std.proofs.lemmas.List.{length-map}
use Rattle.std.specs.Prelude.{slice_get}
use Rattle.std.proofs.lemmas.Bool.Decides.{nat_tests}
use Rattle.std.proofs.lemmas.Option.{slice_get-map, same_Some}
use Rattle.protocol_model.specs.Value as Model
use Rattle.protocol_model.specs.World.{Edits, Spawn, Spawned, class_at, spawn_count, spawn_of, is_custom}
use Rattle.class_layout.specs.Tables.{Layout, class_of, table_in}
use Rattle.class_members.specs.Members.{prop_of}
use Rattle.class_layout.specs.declared.class.Class.{Class}
use Rattle.class_members.specs.declared.members.Prop.{Prop}
use Rattle.class_layout.proofs.InMemory.{class_in_memory}
use Rattle.class_layout.proofs.InitialValues.{init_fits}
use Rattle.world_table.specs.declared.actor.Actor.{Actor}
use Rattle.world_table.specs.declared.actor.Cell.{Cell}
use Rattle.world_table.specs.Kept.{Kept, actor_at, first_cell}
use Rattle.world_table.specs.Stands.{History, history_of, untold, Holds, HasCell, ActorIs, IsKept, Stands}
use Rattle.world_table.proofs.Numbers.{same_number, other_number}
use Rattle.world_table.proofs.Lists.{slice_get-append_left, slice_get-append_right}
use Rattle.world_table.proofs.Records.{push_each, guid_within}
use Rattle.world_table.proofs.Telling.{spawn_counts}
use Rattle.world_table.proofs.Changing.{actor_of, other_cells}

-- ---- the record and the cells of a new actor

and_on : (b : Bool) → b ≡ (b && true)
and_on true = refl
and_on false = refl

mapped : (o : Option Prop) (p : Model.Prop) → option_map prop_of o ≡ Some p
    → (q : Prop) × (o ≡ Some q) × (prop_of q ≡ p)
mapped None p h = absurd (cc)
mapped (Some q) p h = (q, refl, same_Some (prop_of q) p h)

-- how a new actor stands
abbrev pub new_actor : (cells : List Cell) → (n : ℕ) → (x y : ℤ) → Class → Actor
new_actor cells n x y c = record {
  look = record { class = n; alive = true; x = x; y = y; owner = None; dormant = false; flush = 0 };
  given = 0;
  first = length cells;
  past = length (cells ++ map first_cell c.props);
}

spawned_is : (layout : Layout) (cells : List Cell) (n : ℕ) (x y : ℤ) (c : Class) → slice_get layout.classes n ≡ Some c
    → ActorIs layout (cells ++ map first_cell c.props)
    (record untold { spawn = Some (record { class = n; x = x; y = y }) }) (new_actor cells n x y c)
spawned_is layout cells n x y c at_n =
    let class : class_at (table_in layout) n
    ≡ class_of layout.segments c = class_in_memory layout.segments layout.classes n c at_n in
    let props = ap (λ (m : Model.Class). length m.props) class ∙ length-map c.props prop_of in
    record {
      spawned = record { class = n; x = x; y = y };
      spawn = refl;
      look = refl;
      given = refl;
      past = omega (arith, props, length-append cells (map first_cell c.props), length-map c.props first_cell);
      within = omega arith;
      holds = λ k p e.
          let own = mapped (slice_get c.props k) p
          (sym (slice_get-map prop_of c.props k) ∙ ap (λ (m : Model.Class). slice_get m.props k) (sym class) ∙ e) in
          let q : Prop = own.0 in
          let there = slice_get-append_right cells (map first_cell c.props) k ∙ slice_get-map first_cell c.props k
          ∙ ap (option_map first_cell) own.1 in
          subst (HasCell layout None true p) (sym there)
          (subst (λ (m : Model.Prop). Holds layout None true m (first_cell q)) own.2
          (record {
            value = refl;
            on = and_on (is_custom q.cond);
            fits = λ is.
                init_fits layout n k c q is at_n own.1;
          }));
    }

-- ---- the world

pub spawn_stands : (w : Kept) (edits : Edits) (n : ℕ) (x y : ℤ) (c : Class) → Stands w edits
    → slice_get w.layout.classes n ≡ Some c
    → Stands (record w
    { actors = w.actors ++ new_actor w.cells n x y c ∷ []; cells = w.cells ++ map first_cell c.props })
    (Spawn n x y ∷ edits)
spawn_stands w edits n x y c stands at_n = record {
  count = omega (arith, length-append w.actors (r ∷ []), spawn_counts edits n x y, stands.count);
  actors = λ b. kept b (b == new) refl (push_each w.actors b r);
  apart = λ a b s t below s_is t_is.
      apart a b s t below (a == new) refl (push_each w.actors a r) s_is (b == new) refl (push_each w.actors b r) t_is;
  seats = stands.seats;
  added = stands.added;
}
  where
    r : Actor
    r = new_actor w.cells n x y c

    new : ℕ
    new = 2 * (length w.actors + 1)

    cells : List Cell
    cells = w.cells ++ map first_cell c.props

    spawned : Spawned
    spawned = record { class = n; x = x; y = y }

    none_before : (b : ℕ) → b ≡ new → history_of edits b ≡ untold
    none_before b e = of (actor_at w.actors b) refl (stands.actors b)
      where
        of : (o : Option Actor) → actor_at w.actors b ≡ o → IsKept w.layout w.cells (history_of edits b) o
            → history_of edits b ≡ untold
        of None f k = k
        of (Some s) f k = absurd (omega (arith, guid_within w.actors b s f))

    told_new : (b : ℕ) → b ≡ new → history_of (Spawn n x y ∷ edits) b ≡ record untold { spawn = Some spawned }
    told_new b e =
        let is : (b == 2 * (spawn_count edits + 1)) ≡ true = let count = stands.count in grind (arith, nat_tests) in
        ap (λ (t : Bool). record (history_of edits b) { spawn = if t then Some spawned else spawn_of edits b }) is
        ∙ ap (λ (told : History). record told { spawn = Some spawned }) (none_before b e)

    told_old : (b : ℕ) → b ≢ new → history_of (Spawn n x y ∷ edits) b ≡ history_of edits b
    told_old b e =
        let is : (b == 2 * (spawn_count edits + 1)) ≡ false = let count = stands.count in grind (arith, nat_tests) in
        ap (λ (t : Bool). record (history_of edits b) { spawn = if t then Some spawned else spawn_of edits b }) is

    kept : (b : ℕ) (t : Bool) → (b == new) ≡ t
        → actor_at (w.actors ++ r ∷ []) b ≡ (if t then Some r else actor_at w.actors b)
        → IsKept w.layout cells (history_of (Spawn n x y ∷ edits) b) (actor_at (w.actors ++ r ∷ []) b)
    kept b true e now =
        subst (λ (o : Option Actor). IsKept w.layout cells (history_of (Spawn n x y ∷ edits) b) o) (sym now)
        (subst (λ (told : History). ActorIs w.layout cells told r) (sym (told_new b (same_number b new e)))
        (spawned_is w.layout w.cells n x y c at_n))
    kept b false e now =
        subst (λ (o : Option Actor). IsKept w.layout cells (history_of (Spawn n x y ∷ edits) b) o) (sym now)
        (subst (λ (told : History). IsKept w.layout cells told (actor_at w.actors b))
        (sym (told_old b (other_number b new e)))
        (other_cells w.layout w.cells cells (history_of edits b) (actor_at w.actors b) (stands.actors b)
        (omega (arith, length-append w.cells (map first_cell c.props)))
        (λ s s_is m low high.
        slice_get-append_left w.cells (map first_cell c.props) m
        (omega (arith, (actor_of w edits b s stands s_is).within)))))

    apart : (a b : ℕ) (s t : Actor) → a < b
        → (p : Bool) → (a == new) ≡ p → actor_at (w.actors ++ r ∷ []) a ≡ (if p then Some r else actor_at w.actors a)
        → actor_at (w.actors ++ r ∷ []) a ≡ Some s
        → (q : Bool) → (b == new) ≡ q → actor_at (w.actors ++ r ∷ []) b ≡ (if q then Some r else actor_at w.actors b)
        → actor_at (w.actors ++ r ∷ []) b ≡ Some t → s.past ≤ t.first
    apart a b s t below true e a_now s_is true f b_now t_is =
        absurd (omega (arith, same_number a new e, same_number b new f))
    apart a b s t below true e a_now s_is false f b_now t_is =
        absurd (omega (arith, same_number a new e, guid_within w.actors b t (sym b_now ∙ t_is)))
    apart a b s t below false e a_now s_is true f b_now t_is =
        let first = ap (λ (k : Actor). k.first) (same_Some r t (sym b_now ∙ t_is)) in
        omega (arith, (actor_of w edits a s stands (sym a_now ∙ s_is)).within, first)
    apart a b s t below false e a_now s_is false f b_now t_is =
        stands.apart a b s t below (sym a_now ∙ s_is) (sym b_now ∙ t_is)

-- the same of cells and records as they were appended
pub spawn_gives : (w : Kept) (edits : Edits) (n : ℕ) (x y : ℤ) (c : Class) (cells : List Cell) (actors : List Actor)
    (first past : ℕ)
    → Stands w edits → slice_get w.layout.classes n ≡ Some c → cells ≡ w.cells ++ map first_cell c.props
    → first ≡ length w.cells → past ≡ length cells
    → actors ≡ w.actors ++ record { look = (new_actor w.cells n x y c).look; given = 0; first = first; past = past } ∷
    []
    → Stands (record w { actors = actors; cells = cells }) (Spawn n x y ∷ edits)
spawn_gives w edits n x y c cells actors first past stands at_n cells_is first_is past_is actors_is =
    let whole = past_is ∙ ap length cells_is in
    let same = actors_is
    ∙ ap (λ (k : ℕ).
    w.actors ++ record { look = (new_actor w.cells n x y c).look; given = 0; first = k; past = past } ∷ []) first_is
    ∙ ap (λ (k : ℕ).
    w.actors ++ record { look = (new_actor w.cells n x y c).look; given = 0; first = length w.cells; past = k } ∷
    []) whole in
    subst (λ (cs : List Cell). Stands (record w { actors = actors; cells = cs }) (Spawn n x y ∷ edits)) (sym cells_is)
    (subst (λ (rs : List Actor). Stands (record w { actors = rs; cells = w.cells ++ map first_cell c.props })
    (Spawn n x y ∷ edits)) (sym same)
    (spawn_stands w edits n x y c stands at_n))
