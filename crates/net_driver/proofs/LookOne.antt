-- The look for one seat.
use Rattle.std.proofs.Common.{◌≡◌, ℕ, ◌*◌, List, [], ◌∷◌, ◌++◌, Bool, true, false, ◌&&◌, ◌||◌, not, Option, Some, None, refl, sym, ap, ◌∙◌, subst, arith, if◌then◌else◌}
use Rattle.std.specs.List.{AllByRecursion}
use Rattle.std.proofs.lemmas.Bool.{false≢true}
use Rattle.std.proofs.lemmas.List.Sums.{sum_by-cons}
use Rattle.std.proofs.lemmas.Option.{none-some, same_Some}
use Rattle.protocol_model.specs.Sight.{is_relevant, seen_of}
use Rattle.protocol_model.specs.Value.{Table}
use Rattle.protocol_model.specs.World.{Edits}
use Rattle.graph_model.specs.Listed.{listed_count}
use Rattle.connection_model.specs.Feed.{Past, has_ended}
use Rattle.connection_model.specs.Items.{is_quiet}
use Rattle.replication_model.specs.Sampled.{is_awake_for}
use Rattle.class_layout.specs.Tables.{Layout, table_in}
use Rattle.world_table.specs.Kept.{Kept}
use Rattle.rep_graph.specs.Graph.{Graph}
use Rattle.shadow_changes.specs.Samples.{Samples, Shadows}
use Rattle.sender_steps.specs.declared.sight.Seen.{Seen}
use Rattle.sender_steps.specs.Sights.{sight_value}
use Rattle.driver_laws.specs.Given.{given_sight}
use Rattle.driver_sights.specs.declared.graves.Grave.{Grave}
use Rattle.driver_sights.specs.Graves.{is_left}
use Rattle.driver_sights.specs.Looking.{IsLooking, IsMade, AreSteps, AreAmong, is_awake}
use Rattle.driver_sights.specs.Noted.{NotedKept, Notes, is_noted}
use Rattle.server_end.specs.declared.server_end.ServerEnd.{ServerEnd}
use Rattle.net_driver.specs.declared.chair.Chair.{Chair}
use Rattle.net_driver.specs.declared.chair.Place.{Place}
use Rattle.net_driver.specs.declared.chair.Place.TheVariants.{Living, Dead}
use Rattle.net_driver.specs.Chairs.{living_key}
use Rattle.net_driver.specs.Served.{Seat, past_for, connection_of, listed_for}
use Rattle.net_driver.specs.Ends.{end_at, IsPlace, IsLiving}
use Rattle.net_driver.specs.Serves.{IsSeated}
use Rattle.net_driver.specs.Sights.{is_awake_in, looks_for, AreFewSteps, HasLooked, IsLookingAll}
use Rattle.net_driver.proofs.Forgetting.{key_has}

-- ---- a seat whose end is dead

dead_seat : (table : Table) (edits : Edits) (samples : Samples) (greatest : ℕ) (ends : List (Option ServerEnd))
    (t : Seat) (p : Place) → IsPlace table edits samples greatest ends t p → living_key (Some p) ≡ None
    → has_ended (past_for table t) ≡ true
dead_seat table edits samples greatest ends t (Living key) h e = absurd (none-some key (sym e))
dead_seat table edits samples greatest ends t (Dead top) h e = h.0

one_awake : (table : Table) (edits : Edits) (t : Seat) (a : ℕ)
    → is_awake_in table edits (t ∷ []) a ≡ is_awake_for table edits a (connection_of table t)
one_awake table edits t a = or_false (is_awake_for table edits a (connection_of table t))
  where
    or_false : (b : Bool) → (b || false) ≡ b
    or_false true = refl
    or_false false = refl

none_awake : (table : Table) (edits : Edits) (t : Seat) (a : ℕ) → has_ended (past_for table t) ≡ true
    → is_awake_in table edits (t ∷ []) a ≡ false
none_awake table edits t a e =
    one_awake table edits t a
    ∙ ap (λ (b : Bool). not b && is_relevant table edits t.number a
    && not (is_quiet (past_for table t) (seen_of table edits t.number a))) e

pub dead_looked : (w : Kept) (graph : Graph) (graves : List Grave) (n : NotedKept) (changes : Shadows) (edits : Edits)
    (before samples : Samples) (greatest : ℕ) (ends : List (Option ServerEnd)) (c : Chair) (t : Seat) (steps : ℕ)
    (old new : List (List Seen)) → IsLookingAll w graph graves n changes edits samples
    → IsSeated (table_in w.layout) edits before greatest ends c t → living_key (Some c.place) ≡ None
    → new ≡ old ++ [] ∷ [] → HasLooked w.layout edits graves samples n n changes steps steps old new (t ∷ [])
dead_looked w graph graves n changes edits before samples greatest ends c t steps old new h s none added =
    let dead = dead_seat (table_in w.layout) edits before greatest ends t c.place s.place none in
    record {
      notes = h.notes;
      noted = λ a. ap (λ (b : Bool). b || is_noted n a) (sym (none_awake (table_in w.layout) edits t a dead));
      steps = omega arith;
      sights = [] ∷ [];
      added = added;
      made = (λ alive. absurd (false≢true (sym alive ∙ dead)), tt);
    }

-- ---- a seat whose end is alive

-- its end is the one under the key
pub record IsSeatedAt (table : Table) (edits : Edits) (samples : Samples) (greatest : ℕ) (e : ServerEnd) (c : Chair)
    (t : Seat) : Type 0 where
  pub player : c.player ≡ t.number
  pub lives : IsLiving table edits samples greatest e t

pub seated_at : (table : Table) (edits : Edits) (samples : Samples) (greatest : ℕ) (ends : List (Option ServerEnd))
    (c : Chair) (t : Seat) (key : ℕ) (e : ServerEnd) → IsSeated table edits samples greatest ends c t
    → living_key (Some c.place) ≡ Some key → end_at ends key ≡ Some e → IsSeatedAt table edits samples greatest e c t
seated_at table edits samples greatest ends c t key e h is at =
    let p = key_has table edits samples greatest ends t c.place key h.place is in
    record {
      player = h.player;
      lives = subst (λ (x : ServerEnd). IsLiving table edits samples greatest x t) (same_Some p.0 e (sym p.1 ∙ at)) p.2;
    }

-- there is one under the key
pub key_there : (table : Table) (edits : Edits) (samples : Samples) (greatest : ℕ) (ends : List (Option ServerEnd))
    (c : Chair) (t : Seat) (key : ℕ) → IsSeated table edits samples greatest ends c t
    → living_key (Some c.place) ≡ Some key → end_at ends key ≡ None → ⊥
key_there table edits samples greatest ends c t key h is none =
    let p = key_has table edits samples greatest ends t c.place key h.place is in
    none-some p.0 (sym none ∙ p.1)

pub looking_one : (w : Kept) (graph : Graph) (graves : List Grave) (n : NotedKept) (changes : Shadows) (edits : Edits)
    (before samples : Samples) (greatest : ℕ) (e : ServerEnd) (c : Chair) (t : Seat)
    → IsLookingAll w graph graves n changes edits samples
    → (s : IsSeatedAt (table_in w.layout) edits before greatest e c t)
    → IsLooking w e.sender n changes edits (past_for (table_in w.layout) t) s.lives.before samples
looking_one w graph graves n changes edits before samples greatest e c t h s = record {
  world = h.world;
  sender = s.lives.stands.sender;
  notes = h.notes;
}

awake_is : (table : Table) (edits : Edits) (player : ℕ) (t : Seat) (a : ℕ) → player ≡ t.number
    → has_ended (past_for table t) ≡ false
    → is_awake table edits player (past_for table t) a ≡ is_awake_in table edits (t ∷ []) a
awake_is table edits player t a is alive =
    ap (λ (p : ℕ). is_awake table edits p (past_for table t) a) is
    ∙ ap (λ (b : Bool). not b && is_relevant table edits t.number a
    && not (is_quiet (past_for table t) (seen_of table edits t.number a))) (sym alive)
    ∙ sym (one_awake table edits t a)

looks_one : (table : Table) (edits : Edits) (player : ℕ) (t : Seat) → player ≡ t.number
    → has_ended (past_for table t) ≡ false
    → looks_for table edits (t ∷ []) ≡ 2 * listed_count table edits player
looks_one table edits player t is alive =
    let one = sum_by-cons (listed_for table edits) t [] in
    let count : listed_for table edits t ≡ listed_count table edits player =
    ap (λ (b : Bool). if b then 0 else listed_count table edits t.number) alive ∙ ap (listed_count table edits) (sym is) in
    omega (arith, one, count)

-- what the look of its end told
pub record HasSeen (layout : Layout) (edits : Edits) (graves : List Grave) (samples : Samples) (player : ℕ)
    (past : Past) (n m : NotedKept) (changes : Shadows) (begun later : ℕ) (sight : List Seen) : Type 0 where
  pub given : sight_value layout sight ≡ given_sight (table_in layout) edits player past (is_left graves past)
  pub made : AllByRecursion (IsMade layout) sight
  pub notes : Notes m changes (table_in layout) edits samples
  pub noted : (a : ℕ) → is_noted m a ≡ (is_awake (table_in layout) edits player past a || is_noted n a)
  pub steps : AreSteps (table_in layout) edits begun (2 * listed_count (table_in layout) edits player) (is_noted n)
      (is_noted m) later

pub seen_looked : (layout : Layout) (edits : Edits) (graves : List Grave) (before samples : Samples) (greatest : ℕ)
    (e : ServerEnd) (c : Chair) (t : Seat) (n m : NotedKept) (changes : Shadows) (steps later : ℕ) (sight : List Seen)
    (old new : List (List Seen)) → IsSeatedAt (table_in layout) edits before greatest e c t
    → HasSeen layout edits graves samples c.player (past_for (table_in layout) t) n m changes steps later sight
    → new ≡ old ++ sight ∷ [] → HasLooked layout edits graves samples n m changes steps later old new (t ∷ [])
seen_looked layout edits graves before samples greatest e c t n m changes steps later sight old new s h added = record {
  notes = h.notes;
  noted = λ a. h.noted a
      ∙ ap (λ (b : Bool). b || is_noted n a) (awake_is (table_in layout) edits c.player t a s.player s.lives.alive);
  steps = (let l = looks_one (table_in layout) edits c.player t s.player s.lives.alive in let x = h.steps in
      omega (arith, l, x));
  sights = sight ∷ [];
  added = added;
  made = (
    λ alive. record {
      given = h.given ∙ ap (λ (p : ℕ). given_sight (table_in layout) edits p (past_for (table_in layout) t)
          (is_left graves (past_for (table_in layout) t))) s.player;
      made = h.made;
    },
    tt,
  );
}

-- however it ends
pub few_seen : (table : Table) (edits : Edits) (before : Samples) (greatest : ℕ) (e : ServerEnd) (c : Chair) (t : Seat)
    (n : NotedKept) (steps later : ℕ) → IsSeatedAt table edits before greatest e c t
    → ((most : ℕ → Bool) → AreAmong (is_noted n) most → AreAmong (is_awake table edits c.player (past_for table t)) most
    → AreSteps table edits steps (2 * listed_count table edits c.player) (is_noted n) most later)
    → AreFewSteps table edits n steps later (t ∷ [])
few_seen table edits before greatest e c t n steps later s says most noted awake =
    let x = says most noted (λ a q. awake a (sym (awake_is table edits c.player t a s.player s.lives.alive) ∙ q)) in
    let l = looks_one table edits c.player t s.player s.lives.alive in
    omega (arith, x, l)
