-- How a world goes along with an edit of one actor.
use Rattle.std.proofs.Common.{◌≡◌, ◌≢◌, ◌∙◌, ℕ, ◌+◌, ◌<◌, ◌≤◌, List, ◌∷◌, length, Bool, true, false, ◌==◌, Option, Some, None, refl, sym, ap, subst, arith, ⊎_elim, if◌then◌else◌}
use Rattle.std.specs.Prelude.{slice_get, slice_set}
use Rattle.std.proofs.lemmas.Bool.{cases_lt}
use Rattle.std.proofs.lemmas.List.{length-set}
use Rattle.std.proofs.lemmas.Option.{slice_get_within, same_Some}
use Rattle.protocol_model.specs.Value.{Prop}
use Rattle.protocol_model.specs.World.{Edit, Edits, class_at, class_in, class_of, lives}
use Rattle.class_layout.specs.Tables.{Layout, table_in}
use Rattle.world_table.specs.declared.actor.Actor.{Actor}
use Rattle.world_table.specs.declared.actor.Cell.{Cell}
use Rattle.world_table.specs.declared.edit.Look.{Look}
use Rattle.world_table.specs.Kept.{Kept, actor_at, living_at}
use Rattle.world_table.specs.Stands.{History, history_of, HasCell, ActorIs, IsKept, Stands}
use Rattle.world_table.proofs.Numbers.{same_number, other_number}
use Rattle.world_table.proofs.Lists.{slice_get-set_other}
use Rattle.world_table.proofs.Records.{living_is}
use Rattle.world_table.proofs.Telling.{TellsOnly}

-- the record of an actor is right
pub actor_of : (w : Kept) (edits : Edits) (a : ℕ) (r : Actor) → Stands w edits → actor_at w.actors a ≡ Some r
    → ActorIs w.layout w.cells (history_of edits a) r
actor_of w edits a r stands is = subst (λ (o : Option Actor). IsKept w.layout w.cells (history_of edits a) o) is
    (stands.actors a)

-- a living actor's record, found among lent ones
pub record Lives (w : Kept) (edits : Edits) (a : ℕ) (r : Actor) : Type 0 where
  pub is : actor_at w.actors a ≡ Some r
  pub lives : lives edits a ≡ true
  pub class : class_of (table_in w.layout) edits a ≡ class_at (table_in w.layout) r.look.class

pub lives_of : (w : Kept) (edits : Edits) (lent : List Actor) (a : ℕ) (r : Actor) → Stands w edits → lent ≡ w.actors
    → Some r ≡ living_at lent a → Lives w edits a r
lives_of w edits lent a r stands same found =
    let living = living_is (actor_at w.actors a) r (sym (found ∙ ap (λ (rs : List Actor). living_at rs a) same)) in
    let right = actor_of w edits a r stands living.0 in
    record {
      is = living.0;
      lives = sym (ap (λ (l : Look). l.alive) right.look) ∙ living.1;
      class = ap (class_in (table_in w.layout)) right.spawn
          ∙ ap (class_at (table_in w.layout)) (sym (ap (λ (l : Look). l.class) right.look));
    }

-- other cells serve a record as well where they hold the same in its places
pub other_cells : (layout : Layout) (cells later : List Cell) (told : History) (o : Option Actor)
    → IsKept layout cells told o
    → length cells ≤ length later
    → ((r : Actor) → o ≡ Some r → (n : ℕ) → r.first ≤ n → n < r.past → slice_get later n ≡ slice_get cells n)
    → IsKept layout later told o
other_cells layout cells later told None h longer agree = h
other_cells layout cells later told (Some r) h longer agree =
    let props : List Prop = (class_at (table_in layout) h.spawned.class).props in
    record {
      spawned = h.spawned;
      spawn = h.spawn;
      look = h.look;
      given = h.given;
      past = h.past;
      within = omega (arith, h.within);
      holds = λ k p e.
          subst (HasCell layout (told.set (4 + k)) (told.on (4 + k)) p)
          (sym (agree r refl (r.first + k) (omega arith) (omega (arith, slice_get_within props k p e, h.past))))
          (h.holds k p e);
    }

-- the record of one actor changes
pub record_stands : (w : Kept) (edits : Edits) (e : Edit) (a : ℕ) (r later : Actor) (actors : List Actor)
    → Stands w edits
    → TellsOnly e a edits → actor_at w.actors a ≡ Some r → later.first ≡ r.first → later.past ≡ r.past
    → ActorIs w.layout w.cells (history_of (e ∷ edits) a) later → length actors ≡ length w.actors
    → ((b : ℕ) → actor_at actors b ≡ (if b == a then Some later else actor_at w.actors b))
    → Stands (record w { actors = actors }) (e ∷ edits)
record_stands w edits e a r later actors stands tells is first past right len each = record {
  count = len ∙ stands.count ∙ sym tells.count;
  actors = λ b. kept b (b == a) refl (each b);
  apart = λ b c s t below s_is t_is.
      let q = was b s (b == a) refl (each b) s_is in
      let p = was c t (c == a) refl (each c) t_is in
      let before = stands.apart b c q.0 p.0 below q.1 p.1 in
      omega (arith, q.2, q.3, p.2, p.3, before);
  seats = λ player. stands.seats player ∙ sym (tells.seats player);
  added = λ b player. stands.added b player ∙ sym (tells.added b player);
}
  where
    kept : (b : ℕ) (t : Bool) → (b == a) ≡ t → actor_at actors b ≡ (if t then Some later else actor_at w.actors b)
        → IsKept w.layout w.cells (history_of (e ∷ edits) b) (actor_at actors b)
    kept b true q now =
        subst (λ (o : Option Actor). IsKept w.layout w.cells (history_of (e ∷ edits) b) o) (sym now)
        (subst (λ (c : ℕ). ActorIs w.layout w.cells (history_of (e ∷ edits) c) later) (sym (same_number b a q)) right)
    kept b false q now =
        subst (λ (o : Option Actor). IsKept w.layout w.cells (history_of (e ∷ edits) b) o) (sym now)
        (subst (λ (t : History). IsKept w.layout w.cells t (actor_at w.actors b))
        (sym (tells.others b (other_number b a q))) (stands.actors b))

    was : (b : ℕ) (s : Actor) (t : Bool) → (b == a) ≡ t
        → actor_at actors b ≡ (if t then Some later else actor_at w.actors b)
        → actor_at actors b ≡ Some s
        → (q : Actor) × (actor_at w.actors b ≡ Some q) × (s.first ≡ q.first) × (s.past ≡ q.past)
    was b s true q now s_is =
        let e : later ≡ s = same_Some later s (sym now ∙ s_is) in (
          r,
          ap (actor_at w.actors) (same_number b a q) ∙ is,
          ap (λ (x : Actor). x.first) (sym e)
              ∙ first,
          ap (λ (x : Actor). x.past) (sym e) ∙ past,
        )
    was b s false q now s_is = (s, sym now ∙ s_is, refl, refl)

-- one cell of one actor changes
pub cell_stands : (w : Kept) (edits : Edits) (e : Edit) (a place : ℕ) (r : Actor) (cells : List Cell) (cell : Cell)
    → Stands w edits
    → TellsOnly e a edits → actor_at w.actors a ≡ Some r → r.first ≤ place → place < r.past
    → cells ≡ slice_set w.cells place cell → ActorIs w.layout cells (history_of (e ∷ edits) a) r
    → Stands (record w { cells = cells }) (e ∷ edits)
cell_stands w edits e a place r cells cell stands tells is low high set right = record {
  count = stands.count ∙ sym tells.count;
  actors = λ b. kept b (b == a) refl;
  apart = stands.apart;
  seats = λ player. stands.seats player ∙ sym (tells.seats player);
  added = λ b player. stands.added b player ∙ sym (tells.added b player);
}
  where
    agree : (b : ℕ) → b ≢ a → (s : Actor) → actor_at w.actors b ≡ Some s → (n : ℕ) → s.first ≤ n → n < s.past
        → slice_get cells n ≡ slice_get w.cells n
    agree b far s s_is n from to =
        let away : n ≢ place = λ same.
        ⊎_elim
        (λ (below : b < a). let before = stands.apart b a s r below s_is is in omega (arith, before, same))
        (λ (above : a ≤ b). let after = stands.apart a b r s (omega (arith, far)) is s_is in omega (arith, after, same))
        (cases_lt b a) in
        ap (λ (cs : List Cell). slice_get cs n) set ∙ slice_get-set_other w.cells place n cell away

    longer : length w.cells ≤ length cells
    longer = let len = ap length set ∙ length-set w.cells place cell in omega (arith, len)

    kept : (b : ℕ) (t : Bool) → (b == a) ≡ t → IsKept w.layout cells (history_of (e ∷ edits) b) (actor_at w.actors b)
    kept b true q =
        subst (λ (c : ℕ). IsKept w.layout cells (history_of (e ∷ edits) c) (actor_at w.actors c)) (sym (same_number b a q))
        (subst (λ (o : Option Actor). IsKept w.layout cells (history_of (e ∷ edits) a) o) (sym is) right)
    kept b false q =
        let far = other_number b a q in
        subst (λ (t : History). IsKept w.layout cells t (actor_at w.actors b)) (sym (tells.others b far))
        (other_cells w.layout w.cells cells (history_of edits b) (actor_at w.actors b) (stands.actors b) longer
        (agree b far))
