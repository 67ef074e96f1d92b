-- A player's seat hears a tick, and its end stands for it.
use Rattle.std.proofs.Common.{inl, inr, ◌≡◌, ℕ, ◌+◌, ◌≤◌, ◌^◌, ◌==◌, List, [], ◌∷◌, length, Bool, true, false, cond, ◌&&◌, ◌||◌, not, Some, None, refl, sym, ap, ◌∙◌, subst, arith}
use Rattle.std.specs.Prelude.{nat_le}
use Rattle.std.specs.List.{AllByRecursion, filter_map, cons_option}
use Rattle.std.proofs.lemmas.Bool.{false≢true, cases_Bool, eqb-true}
use Rattle.protocol_model.specs.Limits.{unresolved_limit}
use Rattle.protocol_model.specs.Payload.{Message, message_bits}
use Rattle.protocol_model.specs.Search.{is_among}
use Rattle.protocol_model.specs.Sight.{is_relevant, seen_of, destroyed_of, entry_of, sight}
use Rattle.protocol_model.specs.Value.{Table}
use Rattle.protocol_model.specs.World.{Edits, lives, actors_of}
use Rattle.connection_model.specs.CallAnswers.{waiting_of}
use Rattle.connection_model.specs.Fates.{unresolved_count}
use Rattle.connection_model.specs.Feed.{Tick, Past, has_ended, is_relevant_in}
use Rattle.connection_model.specs.Pack.{after_tick}
use Rattle.connection_model.specs.Past.{past_of}
use Rattle.connection_model.specs.State.{state_of, is_closed, opened_class}
use Rattle.connection_laws.proofs.Feeds.{feed_done}
use Rattle.shadow_changes.specs.Samples.{Samples}
use Rattle.sender_steps.specs.Stands.{Extends}
use Rattle.driver_laws.specs.Feeds.{AreShort, IsOfWorld}
use Rattle.driver_laws.proofs.Closing.{tick_closed}
use Rattle.driver_laws.proofs.Shown.{opened_so}
use Rattle.driver_laws.proofs.Stalling.{tick_stalls}
use Rattle.driver_laws.proofs.TickKeeps.{none_waits}
use Rattle.driver_laws.proofs.Worlds.{sight_of_world}
use Rattle.driver_sights.specs.declared.graves.Grave.{Grave}
use Rattle.driver_sights.specs.Graves.{is_buried}
use Rattle.server_end.specs.declared.server_end.ServerEnd.{ServerEnd}
use Rattle.net_driver.specs.Served.{Seat, past_for, end_for, ticked, shown_to, earlier_for}
use Rattle.server_end.specs.Stands.{StandsEnd}
use Rattle.net_driver.specs.Ends.{IsLiving}
use Rattle.net_driver.specs.Serves.{SeatFits}
use Rattle.net_driver.proofs.Given.{live_past}
use Rattle.net_driver.proofs.Hearing.{ignored, hears}

-- ---- a destroyed actor isn't shown as relevant

dead_entries : (table : Table) (edits : Edits) (player : ℕ) (earlier : List ℕ) (a : ℕ) (actors : List ℕ)
    → lives edits a ≡ false
    → is_relevant_in (filter_map (entry_of table edits player earlier) actors) a ≡ false
dead_entries table edits player earlier a [] dead = refl
dead_entries table edits player earlier a (b ∷ actors) dead =
    by (is_relevant table edits player b) (not (lives edits b) && is_among b earlier) refl
    (dead_entries table edits player earlier a actors dead)
  where
    both : (x y : Bool) → (x ≡ true → y ≡ false) → (x && y) ≡ false
    both true y h = h refl
    both false y h = refl

    no : (x : Bool) → (x && false) ≡ false
    no true = refl
    no false = refl

    by : (r g : Bool) → is_relevant table edits player b ≡ r
        → is_relevant_in (filter_map (entry_of table edits player earlier) actors) a ≡ false
        → is_relevant_in (cons_option (cond r (Some (seen_of table edits player b))
        (cond g (Some (destroyed_of table edits b)) None))
        (filter_map (entry_of table edits player earlier) actors)) a ≡ false
    by true g q ih =
        let out : ((b == a) && true) ≡ false = both (b == a) true (λ e. absurd (false≢true
        (sym (ap (λ (x : ℕ). is_relevant table edits player x) (eqb-true b a e)
        ∙ rw dead refl) ∙ q))) in
        ap (λ (x : Bool). x || is_relevant_in (filter_map (entry_of table edits player earlier) actors) a) out ∙ ih
    by false true q ih =
        ap (λ (x : Bool). x || is_relevant_in (filter_map (entry_of table edits player earlier) actors) a) (no (b == a)) ∙ ih
    by false false q ih = ih

pub dead_unshown : (table : Table) (edits : Edits) (player : ℕ) (earlier : List ℕ) (a : ℕ) → lives edits a ≡ false
    → is_relevant_in (sight table edits player earlier) a ≡ false
dead_unshown table edits player earlier a dead = dead_entries table edits player earlier a (actors_of edits) dead

-- ---- the seat

-- where none waits, all are short
short_none : (past : Past) → waiting_of past ≡ [] → AreShort past
short_none past e = record {
  few = subst (λ (ms : List Message). length ms ≤ 256) (sym e) (omega arith);
  short = subst (AllByRecursion (λ (m : Message). length (message_bits m) ≤ 7000)) (sym e) tt;
}

pub fits_tick : (table : Table) (edits : Edits) (graves : List Grave) (t : Seat) → SeatFits table edits graves t
    → SeatFits table edits graves (ticked table edits t)
fits_tick table edits graves t h = elim (cases_Bool (has_ended (past_for table t))) [
  | inl e ↦ record {
    budget = h.budget;
    shown = (sight_of_world table edits t.number (earlier_for t), h.shown);
    waits = subst AreShort (sym (ignored table t (Tick (shown_to table edits t)) e)) h.waits;
    left = λ a alive dead ajar. h.left a (ap has_ended (sym (ignored table t (Tick (shown_to table edits t)) e)) ∙ alive) dead
        (ap (λ (p : Past). is_closed (state_of p a)) (sym (ignored table t (Tick (shown_to table edits t)) e)) ∙ ajar);
  }
  | inr e ↦ record {
    budget = h.budget;
    shown = (sight_of_world table edits t.number (earlier_for t), h.shown);
    waits = subst AreShort (sym (hears table t (Tick (shown_to table edits t)) e)) (short_none _ (none_waits (end_for table t) (past_for table t) (shown_to table edits t) e));
    left = λ a alive dead ajar. by a dead e
        (ap (λ (p : Past). is_closed (state_of p a)) (sym (hears table t (Tick (shown_to table edits t)) e)) ∙ ajar)
        (is_closed (state_of (past_for table t) a)) refl;
  }
]
  where
    by : (a : ℕ) → lives edits a ≡ false → has_ended (past_for table t) ≡ false
        → is_closed (state_of (after_tick (end_for table t) (past_for table t) (shown_to table edits t)) a) ≡ false
        → (b : Bool) → is_closed (state_of (past_for table t) a) ≡ b → is_buried graves a ≡ true
    by a dead alive ajar true e =
        let live = live_past table t alive in
        absurd (false≢true (sym ajar
        ∙ ap (λ (p : Past). is_closed (state_of (after_tick (end_for table t) p (shown_to table edits t)) a)) live
        ∙ tick_closed (end_for table t) a (past_of (end_for table t) t.feed) (shown_to table edits t)
        (feed_done (end_for table t) t.feed) (ap has_ended (sym live) ∙ alive)
        (dead_unshown table edits t.number (earlier_for t) a dead)
        (ap (λ (p : Past). is_closed (state_of p a)) (sym live) ∙ e)))
    by a dead alive ajar false e = h.left a alive dead e

-- whether the end stalls
pub stalls : (table : Table) (edits : Edits) (t : Seat) → has_ended (past_for table t) ≡ false
    → has_ended (past_for table (ticked table edits t))
    ≡ nat_le unresolved_limit
    (unresolved_count (after_tick (end_for table t) (past_for table t) (shown_to table edits t)))
stalls table edits t alive =
    let live = live_past table t alive in
    ap has_ended (hears table t (Tick (shown_to table edits t)) alive)
    ∙ ap (λ (p : Past). has_ended (after_tick (end_for table t) p (shown_to table edits t))) live
    ∙ tick_stalls (end_for table t) (past_of (end_for table t) t.feed) (shown_to table edits t)
    (feed_done (end_for table t) t.feed) (ap has_ended (sym live) ∙ alive)
    ∙ ap (λ (p : Past). nat_le unresolved_limit (unresolved_count (after_tick (end_for table t) p (shown_to table edits t))))
    (sym live)

-- the same samples are later ones
same_samples : (samples : Samples) → Extends samples samples
same_samples samples = record { later = []; behind = refl; newer = λ a. tt }

-- an end that ticked and didn't stall
pub living_ticked : (table : Table) (edits : Edits) (graves : List Grave) (samples : Samples) (greatest : ℕ)
    (e later : ServerEnd) (t : Seat)
    → IsLiving table edits samples greatest e t → SeatFits table edits graves t → later.player ≡ e.player
    → StandsEnd later (end_for table t) (after_tick (end_for table t) (past_for table t) (shown_to table edits t)) samples
    → later.table.made.count ≤ e.table.made.count + 2 ^ 17
    → has_ended (past_for table (ticked table edits t)) ≡ false
    → IsLiving table edits samples (greatest + 2 ^ 18) later (ticked table edits t)
living_ticked table edits graves samples greatest e later t h fits named stands few alive =
    let is = hears table t (Tick (shown_to table edits t)) h.alive in
    record {
      player = named ∙ h.player;
      alive = alive;
      before = samples;
      extends = same_samples samples;
      stands = subst (λ (p : Past). StandsEnd later (end_for table t) p samples) (sym is) stands;
      classes = λ a class q. opened_so (IsOfWorld table edits) (end_for table t) (Tick (shown_to table edits t) ∷ t.feed)
          (sight_of_world table edits t.number (earlier_for t), fits.shown) a class
          (ap (λ (p : Past). opened_class p a) (sym (live_past table (ticked table edits t) alive)) ∙ q);
      count = (let c = h.count in omega (arith, c, few));
    }
