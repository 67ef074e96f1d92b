-- How a world goes along with each kind of edit of one actor.
use Rattle.std.proofs.Common.{◌≡◌, ◌≢◌, ◌∙◌, ℕ, ℤ, ◌+◌, ◌<◌, ◌≤◌, List, ◌∷◌, length, Bool, true, false, ◌==◌, ◌&&◌, Option, Some, is_some, refl, sym, ap, subst, arith, if◌then◌else◌}
use Rattle.std.specs.Prelude.{slice_get, slice_set}
use Rattle.std.proofs.lemmas.Bool.Decides.{nat_tests}
use Rattle.std.proofs.lemmas.List.{length-set}
use Rattle.std.proofs.lemmas.List.Sums.{count_by-le-length}
use Rattle.std.proofs.lemmas.Option.{slice_get_within, same_Some}
use Rattle.protocol_model.specs.Value.{Prop}
use Rattle.protocol_model.specs.World.{Edits, Destroy, Set, Own, Dormant, Wake, Flush, Switch, Give, flushes, class_at, is_custom}
use Rattle.class_layout.specs.Tables.{Layout, table_in}
use Rattle.value_codec.specs.Values.{whole_of, value_fits}
use Rattle.value_codec.specs.declared.value.Value.{Value}
use Rattle.world_table.specs.declared.actor.Actor.{Actor}
use Rattle.world_table.specs.declared.actor.Cell.{Cell}
use Rattle.world_table.specs.declared.edit.Look.{Look}
use Rattle.world_table.specs.Answers.{player_of}
use Rattle.world_table.specs.Kept.{Kept, actor_at}
use Rattle.world_table.specs.Stands.{History, history_of, told_look, Holds, HasCell, ActorIs, Stands}
use Rattle.world_table.proofs.Numbers.{same_number, other_number}
use Rattle.world_table.proofs.Lists.{slice_get-set_same, slice_get-set_other}
use Rattle.world_table.proofs.Telling.{with_set, with_switch, destroy_tells, destroy_told, set_tells, set_told, own_tells, own_told, dormant_tells, dormant_told, wake_tells, wake_told, flush_tells, flush_told, switch_tells, switch_told, give_tells, give_told}
use Rattle.world_table.proofs.Changing.{actor_of, record_stands, cell_stands}

-- the records are those from before, but for the actor's own
pub record Puts (w : Kept) (actors : List Actor) (a : ℕ) (later : Actor) : Type 0 where
  pub len : length actors ≡ length w.actors
  pub each : (b : ℕ) → actor_at actors b ≡ (if b == a then Some later else actor_at w.actors b)

-- ---- how an actor looks

-- an actor that looks otherwise, but for its place
looks : (layout : Layout) (cells : List Cell) (told : History) (r : Actor) (h : ActorIs layout cells told r)
    → (destroyed : Bool) (owner : ℕ) (dormant : Bool) (flush : ℕ) (look : Look)
    → look ≡ told_look (table_in layout)
    (record told { destroyed = destroyed; owner = owner; dormant = dormant; flush = flush }) h.spawned
    → ActorIs layout cells (record told { destroyed = destroyed; owner = owner; dormant = dormant; flush = flush })
    (record r { look = look })
looks layout cells told r h destroyed owner dormant flush look is = record {
  spawned = h.spawned;
  spawn = h.spawn;
  look = is;
  given = h.given;
  past = h.past;
  within = h.within;
  holds = h.holds;
}

pub destroy_stands : (w : Kept) (edits : Edits) (a : ℕ) (r : Actor) (actors : List Actor) → Stands w edits
    → actor_at w.actors a ≡ Some r
    → Puts w actors a (record r { look = record r.look { alive = false } })
    → Stands (record w { actors = actors }) (Destroy a ∷ edits)
destroy_stands w edits a r actors stands is puts =
    let told : History = history_of edits a in
    let later : Actor = record r { look = record r.look { alive = false } } in
    let h : ActorIs w.layout w.cells told r = actor_of w edits a r stands is in
    let dead : (is_some told.spawn && false) ≡ false = rw h.spawn refl in
    record_stands w edits (Destroy a) a r later actors stands (destroy_tells edits a) is refl refl
    (subst (λ (t : History). ActorIs w.layout w.cells t later) (sym (destroy_told edits a))
    (looks w.layout w.cells told r h true told.owner told.dormant told.flush later.look
    (ap (λ (l : Look). record l { alive = false }) h.look
    ∙ ap (λ (b : Bool). record (told_look (table_in w.layout) told h.spawned) { alive = b }) (sym dead)))) puts.len
    puts.each

pub own_stands : (w : Kept) (edits : Edits) (a player : ℕ) (r : Actor) (actors : List Actor) → Stands w edits
    → actor_at w.actors a ≡ Some r
    → Puts w actors a (record r { look = record r.look { owner = player_of player } })
    → Stands (record w { actors = actors }) (Own a player ∷ edits)
own_stands w edits a player r actors stands is puts =
    let told : History = history_of edits a in
    let later : Actor = record r { look = record r.look { owner = player_of player } } in
    let h : ActorIs w.layout w.cells told r = actor_of w edits a r stands is in
    record_stands w edits (Own a player) a r later actors stands (own_tells edits a player) is refl refl
    (subst (λ (t : History). ActorIs w.layout w.cells t later) (sym (own_told edits a player))
    (looks w.layout w.cells told r h told.destroyed player told.dormant told.flush later.look
    (ap (λ (l : Look). record l { owner = player_of player }) h.look))) puts.len puts.each

pub dormant_stands : (w : Kept) (edits : Edits) (a : ℕ) (r : Actor) (actors : List Actor) → Stands w edits
    → actor_at w.actors a ≡ Some r
    → Puts w actors a (record r { look = record r.look { dormant = true } })
    → Stands (record w { actors = actors }) (Dormant a ∷ edits)
dormant_stands w edits a r actors stands is puts =
    let told : History = history_of edits a in
    let later : Actor = record r { look = record r.look { dormant = true } } in
    let h : ActorIs w.layout w.cells told r = actor_of w edits a r stands is in
    record_stands w edits (Dormant a) a r later actors stands (dormant_tells edits a) is refl refl
    (subst (λ (t : History). ActorIs w.layout w.cells t later) (sym (dormant_told edits a))
    (looks w.layout w.cells told r h told.destroyed told.owner true told.flush later.look
    (ap (λ (l : Look). record l { dormant = true }) h.look))) puts.len puts.each

pub wake_stands : (w : Kept) (edits : Edits) (a : ℕ) (r : Actor) (actors : List Actor) → Stands w edits
    → actor_at w.actors a ≡ Some r
    → Puts w actors a (record r { look = record r.look { dormant = false } })
    → Stands (record w { actors = actors }) (Wake a ∷ edits)
wake_stands w edits a r actors stands is puts =
    let told : History = history_of edits a in
    let later : Actor = record r { look = record r.look { dormant = false } } in
    let h : ActorIs w.layout w.cells told r = actor_of w edits a r stands is in
    record_stands w edits (Wake a) a r later actors stands (wake_tells edits a) is refl refl
    (subst (λ (t : History). ActorIs w.layout w.cells t later) (sym (wake_told edits a))
    (looks w.layout w.cells told r h told.destroyed told.owner false told.flush later.look
    (ap (λ (l : Look). record l { dormant = false }) h.look))) puts.len puts.each

pub flush_stands : (w : Kept) (edits : Edits) (a : ℕ) (r : Actor) (actors : List Actor) → Stands w edits
    → actor_at w.actors a ≡ Some r
    → Puts w actors a (record r { look = record r.look { flush = r.look.flush + 1 } })
    → Stands (record w { actors = actors }) (Flush a ∷ edits)
flush_stands w edits a r actors stands is puts =
    let told : History = history_of edits a in
    let later : Actor = record r { look = record r.look { flush = r.look.flush + 1 } } in
    let h : ActorIs w.layout w.cells told r = actor_of w edits a r stands is in
    record_stands w edits (Flush a) a r later actors stands (flush_tells edits a) is refl refl
    (subst (λ (t : History). ActorIs w.layout w.cells t later) (sym (flush_told edits a))
    (looks w.layout w.cells told r h told.destroyed told.owner told.dormant (told.flush + 1) later.look
    (ap (λ (l : Look). record l { flush = l.flush + 1 }) h.look))) puts.len puts.each

-- there are no more flushes than edits
pub flush_below : (w : Kept) (edits : Edits) (a : ℕ) (r : Actor) → Stands w edits → actor_at w.actors a ≡ Some r
    → r.look.flush ≤ length edits
flush_below w edits a r stands is =
    let flush = ap (λ (l : Look). l.flush) (actor_of w edits a r stands is).look in
    omega (arith, flush, count_by-le-length (flushes a) edits)

-- ---- its team

pub give_stands : (w : Kept) (edits : Edits) (a team : ℕ) (r : Actor) (actors : List Actor) → Stands w edits
    → actor_at w.actors a ≡ Some r
    → Puts w actors a (record r { given = team })
    → Stands (record w { actors = actors }) (Give a team ∷ edits)
give_stands w edits a team r actors stands is puts =
    let h : ActorIs w.layout w.cells (history_of edits a) r = actor_of w edits a r stands is in
    let later : Actor = record r { given = team } in
    record_stands w edits (Give a team) a r later actors stands (give_tells edits a team) is refl refl
    (subst (λ (t : History). ActorIs w.layout w.cells t later) (sym (give_told edits a team))
    (record {
      spawned = h.spawned;
      spawn = h.spawn;
      look = h.look;
      given = refl;
      past = h.past;
      within = h.within;
      holds = h.holds;
    })) puts.len puts.each

-- ---- its place

far : (k h : ℕ) → h < 4 → (4 + k == h) ≡ false
far k h below = grind (arith, nat_tests)

-- cells don't hold the values of handles below 4
below_cells : (layout : Layout) (cells : List Cell) (told : History) (r : Actor) (h : ℕ) (v : ℤ) → h < 4
    → (i : ActorIs layout cells told r)
    → (k : ℕ) (p : Prop) → slice_get (class_at (table_in layout) i.spawned.class).props k ≡ Some p
    → HasCell layout ((with_set told h v).set (4 + k)) (told.on (4 + k)) p (slice_get cells (r.first + k))
below_cells layout cells told r h v low i k p e =
    subst (λ (b : Bool). HasCell layout (if b then Some v else told.set (4 + k)) (told.on (4 + k)) p
    (slice_get cells (r.first + k)))
    (sym (far k h low)) (i.holds k p e)

pub x_stands : (w : Kept) (edits : Edits) (a : ℕ) (v : ℤ) (r : Actor) (actors : List Actor) → Stands w edits
    → actor_at w.actors a ≡ Some r
    → Puts w actors a (record r { look = record r.look { x = v } })
    → Stands (record w { actors = actors }) (Set a 1 v ∷ edits)
x_stands w edits a v r actors stands is puts =
    let told : History = history_of edits a in
    let h : ActorIs w.layout w.cells told r = actor_of w edits a r stands is in
    let later : Actor = record r { look = record r.look { x = v } } in
    record_stands w edits (Set a 1 v) a r later actors stands (set_tells edits a 1 v) is refl refl
    (subst (λ (t : History). ActorIs w.layout w.cells t later) (sym (set_told edits a 1 v))
    (record {
      spawned = h.spawned;
      spawn = h.spawn;
      look = ap (λ (l : Look). record l { x = v }) h.look;
      given = h.given;
      past = h.past;
      within = h.within;
      holds = below_cells w.layout w.cells told r 1 v (omega arith) h;
    })) puts.len puts.each

pub y_stands : (w : Kept) (edits : Edits) (a : ℕ) (v : ℤ) (r : Actor) (actors : List Actor) → Stands w edits
    → actor_at w.actors a ≡ Some r
    → Puts w actors a (record r { look = record r.look { y = v } })
    → Stands (record w { actors = actors }) (Set a 2 v ∷ edits)
y_stands w edits a v r actors stands is puts =
    let told : History = history_of edits a in
    let h : ActorIs w.layout w.cells told r = actor_of w edits a r stands is in
    let later : Actor = record r { look = record r.look { y = v } } in
    record_stands w edits (Set a 2 v) a r later actors stands (set_tells edits a 2 v) is refl refl
    (subst (λ (t : History). ActorIs w.layout w.cells t later) (sym (set_told edits a 2 v))
    (record {
      spawned = h.spawned;
      spawn = h.spawn;
      look = ap (λ (l : Look). record l { y = v }) h.look;
      given = h.given;
      past = h.past;
      within = h.within;
      holds = below_cells w.layout w.cells told r 2 v (omega arith) h;
    })) puts.len puts.each

-- ---- its cells

-- each other cell of the actor is the one from before, and stands for the same
pub other_cell : (layout : Layout) (cells : List Cell) (told later : History) (r : Actor) (i : ActorIs layout cells told r)
    (k : ℕ) (p : Prop) (cell : Cell)
    → slice_get (class_at (table_in layout) i.spawned.class).props k ≡ Some p
    → Holds layout (later.set (4 + k)) (later.on (4 + k)) p cell
    → ((j : ℕ) → j ≢ k → later.set (4 + j) ≡ told.set (4 + j)) → ((j : ℕ) → j ≢ k → later.on (4 + j) ≡ told.on (4 + j))
    → (j : ℕ) (q : Prop) → slice_get (class_at (table_in layout) i.spawned.class).props j ≡ Some q
    → HasCell layout (later.set (4 + j)) (later.on (4 + j)) q
    (slice_get (slice_set cells (r.first + k) cell) (r.first + j))
other_cell layout cells told later r i k p cell at_k holds sets switches j q at_j = by (j == k) refl
  where
    props : List Prop
    props = (class_at (table_in layout) i.spawned.class).props

    by : (t : Bool) → (j == k) ≡ t
        → HasCell layout (later.set (4 + j)) (later.on (4 + j)) q
        (slice_get (slice_set cells (r.first + k) cell) (r.first + j))
    by true e =
        let same : k ≡ j = sym (same_number j k e) in
        let prop : p ≡ q = same_Some p q (sym at_k ∙ ap (slice_get props) same ∙ at_j) in
        let here = slice_get-set_same cells (r.first + k) cell
        (omega (arith, slice_get_within props k p at_k, i.past, i.within)) in
        subst (λ (n : ℕ). HasCell layout (later.set (4 + n)) (later.on (4 + n)) q
        (slice_get (slice_set cells (r.first + k) cell) (r.first + n))) same
        (subst (HasCell layout (later.set (4 + k)) (later.on (4 + k)) q) (sym here)
        (subst (λ (x : Prop). Holds layout (later.set (4 + k)) (later.on (4 + k)) x cell) prop holds))
    by false e =
        let apart : j ≢ k = other_number j k e in
        let there = slice_get-set_other cells (r.first + k) (r.first + j) cell (λ s. apart (omega (arith, s))) in
        subst (HasCell layout (later.set (4 + j)) (later.on (4 + j)) q) (sym there)
        (subst (λ (s : Option ℤ). HasCell layout s (later.on (4 + j)) q (slice_get cells (r.first + j)))
        (sym (sets j apart))
        (subst (λ (b : Bool). HasCell layout (told.set (4 + j)) b q (slice_get cells (r.first + j)))
        (sym (switches j apart)) (i.holds j q at_j)))

apart_handles : (j k : ℕ) → j ≢ k → (4 + j == 4 + k) ≡ false
apart_handles j k h = grind (arith, nat_tests)

below_handle : (h k : ℕ) → h < 4 → (h == 4 + k) ≡ false
below_handle h k low = grind (arith, nat_tests)

same_handle : (k : ℕ) → (4 + k == 4 + k) ≡ true
same_handle k = grind (arith, nat_tests)

pub value_stands : (w : Kept) (edits : Edits) (a k : ℕ) (v : Value) (r : Actor) (p : Prop) (cell : Cell)
    (cells : List Cell) → Stands w edits
    → (is : actor_at w.actors a ≡ Some r) → slice_get (class_at (table_in w.layout) r.look.class).props k ≡ Some p
    → value_fits p.kind v ≡ true → slice_get w.cells (r.first + k) ≡ Some cell
    → cells ≡ slice_set w.cells (r.first + k) (record cell { value = v })
    → Stands (record w { cells = cells }) (Set a (4 + k) (whole_of v) ∷ edits)
value_stands w edits a k v r p cell cells stands is at_k fits was set =
    let told : History = history_of edits a in
    let z : ℤ = whole_of v in
    let later : History = with_set told (4 + k) z in
    let i : ActorIs w.layout w.cells told r = actor_of w edits a r stands is in
    let class : r.look.class ≡ i.spawned.class = ap (λ (l : Look). l.class) i.look in
    let of_class = subst (λ (n : ℕ). slice_get (class_at (table_in w.layout) n).props k ≡ Some p) class at_k in
    let before = subst (HasCell w.layout (told.set (4 + k)) (told.on (4 + k)) p) was (i.holds k p of_class) in
    let len = ap length set ∙ length-set w.cells (r.first + k) (record cell { value = v }) in
    let within = slice_get_within (class_at (table_in w.layout) i.spawned.class).props k p of_class in
    cell_stands w edits (Set a (4 + k) z) a (r.first + k) r cells (record cell { value = v }) stands
    (set_tells edits a (4 + k) z) is
    (omega arith) (omega (arith, within, i.past)) set
    (subst (λ (t : History). ActorIs w.layout cells t r) (sym (set_told edits a (4 + k) z))
    (record {
      spawned = i.spawned;
      spawn = i.spawn;
      look = rw (below_handle 1 k (omega arith), below_handle 2 k (omega arith)) i.look;
      given = i.given;
      past = i.past;
      within = omega (arith, i.within, len);
      holds = λ j q e.
          subst (λ (cs : List Cell). HasCell w.layout (later.set (4 + j)) (told.on (4 + j)) q
          (slice_get cs (r.first + j))) (sym set)
          (other_cell w.layout w.cells told later r i k p (record cell { value = v }) of_class
          (record { value = rw (same_handle k) refl; on = before.on; fits = λ layout. fits })
          (λ n h. rw (apart_handles n k h) refl) (λ n h. refl) j q e);
    }))

pub switch_stands : (w : Kept) (edits : Edits) (a k : ℕ) (on : Bool) (r : Actor) (p : Prop) (cell : Cell)
    (cells : List Cell) → Stands w edits
    → (is : actor_at w.actors a ≡ Some r) → slice_get (class_at (table_in w.layout) r.look.class).props k ≡ Some p
    → is_custom p.cond ≡ true → slice_get w.cells (r.first + k) ≡ Some cell
    → cells ≡ slice_set w.cells (r.first + k) (record cell { on = on })
    → Stands (record w { cells = cells }) (Switch a (4 + k) on ∷ edits)
switch_stands w edits a k on r p cell cells stands is at_k custom was set =
    let told : History = history_of edits a in
    let later : History = with_switch told (4 + k) on in
    let i : ActorIs w.layout w.cells told r = actor_of w edits a r stands is in
    let class : r.look.class ≡ i.spawned.class = ap (λ (l : Look). l.class) i.look in
    let of_class = subst (λ (n : ℕ). slice_get (class_at (table_in w.layout) n).props k ≡ Some p) class at_k in
    let before = subst (HasCell w.layout (told.set (4 + k)) (told.on (4 + k)) p) was (i.holds k p of_class) in
    let len = ap length set ∙ length-set w.cells (r.first + k) (record cell { on = on }) in
    let within = slice_get_within (class_at (table_in w.layout) i.spawned.class).props k p of_class in
    cell_stands w edits (Switch a (4 + k) on) a (r.first + k) r cells (record cell { on = on }) stands
    (switch_tells edits a (4 + k) on) is
    (omega arith) (omega (arith, within, i.past)) set
    (subst (λ (t : History). ActorIs w.layout cells t r) (sym (switch_told edits a (4 + k) on))
    (record {
      spawned = i.spawned;
      spawn = i.spawn;
      look = i.look;
      given = i.given;
      past = i.past;
      within = omega (arith, i.within, len);
      holds = λ j q e.
          subst (λ (cs : List Cell). HasCell w.layout (told.set (4 + j)) (later.on (4 + j)) q
          (slice_get cs (r.first + j))) (sym set)
          (other_cell w.layout w.cells told later r i k p (record cell { on = on }) of_class
          (record { value = before.value; on = rw (same_handle k, custom) refl; fits = before.fits })
          (λ n h. refl) (λ n h. rw (apart_handles n k h) refl) j q e);
    }))
