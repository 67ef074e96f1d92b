-- What each seat tells alone stays right.
use Rattle.std.proofs.Common.{◌≡◌, ◌≢◌, ◌⊎◌, inl, inr, ℕ, ◌-◌, ◌≤◌, ◌==◌, List, [], ◌∷◌, map, length, Bool, true, false, cond, ◌&&◌, ◌||◌, not, Option, Some, None, is_some, if◌then◌else◌, refl, sym, ap, ◌∙◌, subst, arith}
use Rattle.std.specs.Prelude.{nat_lt}
use Rattle.std.specs.List.{AllByRecursion, list_any}
use Rattle.std.proofs.lemmas.Bool.{cases_Bool, false≢true, eqb-true, and_parts}
use Rattle.std.proofs.lemmas.Option.{none-some}
use Rattle.protocol_model.specs.Limits.{part_bits, waiting_limit}
use Rattle.protocol_model.specs.Payload.{Message, message_bits}
use Rattle.protocol_model.specs.Search.{insert_in_order}
use Rattle.protocol_model.specs.Side.{AtServer}
use Rattle.protocol_model.specs.Sight.{Seen}
use Rattle.protocol_model.specs.Value.{Table, Class, Arg, handle_count}
use Rattle.protocol_model.specs.World.{Edit, Edits, Spawned, spawn_of, destroys, lives}
use Rattle.protocol_model.specs.declared.Version.{Version}
use Rattle.change_model.specs.Changes.{Sample}
use Rattle.connection_model.specs.Feed.{Event, Tick, Got, Call, Past, has_ended}
use Rattle.connection_model.specs.CallAnswers.{after_call, waiting_of}
use Rattle.connection_model.specs.State.{state_of, is_closed}
use Rattle.connection_model.specs.Verdict.{after_got}
use Rattle.shadow_changes.specs.Samples.{have_count}
use Rattle.driver_laws.specs.Counted.{cells_of}
use Rattle.driver_laws.specs.Feeds.{IsSo, AreShown, AreShort, IsShort, IsOfWorld, StayClosed}
use Rattle.driver_laws.proofs.Calling.{call_leaves}
use Rattle.driver_laws.proofs.Leaving.{got_goes, goes_closed}
use Rattle.driver_sights.specs.declared.graves.Grave.{Grave}
use Rattle.driver_sights.specs.Graves.{is_buried}
use Rattle.driver_sights.specs.Noted.{SampledBefore}
use Rattle.net_driver.specs.Served.{Seat, past_for, end_for, heard, lost_now, new_seat}
use Rattle.net_driver.specs.Serves.{SeatFits}
use Rattle.net_driver.proofs.Hearing.{ignored, hears}
use Rattle.net_driver.proofs.Spawns.{spawn_stays, class_stays}

-- ---- one seat changes

pub fits_turned : (table : Table) (edits : Edits) (graves : List Grave) (player : ℕ) (change : Seat → Seat)
    → ((t : Seat) → t.number ≡ player → SeatFits table edits graves t → SeatFits table edits graves (change t))
    → (seats : List Seat) → AllByRecursion (SeatFits table edits graves) seats
    → AllByRecursion (SeatFits table edits graves)
    (map (λ (t : Seat). if t.number == player then change t else t) seats)
fits_turned table edits graves player change fit [] h = tt
fits_turned table edits graves player change fit (t ∷ seats) h =
    (by (t.number == player) refl, fits_turned table edits graves player change fit seats h.1)
  where
    by : (b : Bool) → (t.number == player) ≡ b → SeatFits table edits graves (cond b (change t) t)
    by true e = fit t (eqb-true t.number player e) h.0
    by false e = h.0

pub fits_joined : (table : Table) (edits : Edits) (graves : List Grave) (new : Seat) (seats : List Seat)
    → SeatFits table edits graves new → AllByRecursion (SeatFits table edits graves) seats
    → AllByRecursion (SeatFits table edits graves)
    (insert_in_order (λ (one : Seat) (two : Seat). nat_lt one.number two.number) new seats)
fits_joined table edits graves new [] n h = (n, tt)
fits_joined table edits graves new (t ∷ seats) n h =
    by (nat_lt t.number new.number) (fits_joined table edits graves new seats n h.1)
  where
    by : (b : Bool) → AllByRecursion (SeatFits table edits graves)
        (insert_in_order (λ (one : Seat) (two : Seat). nat_lt one.number two.number) new seats)
        → AllByRecursion (SeatFits table edits graves)
        (cond b (t ∷ insert_in_order (λ (one : Seat) (two : Seat). nat_lt one.number two.number) new seats)
        (new ∷ t ∷ seats))
    by true ih = (h.0, ih)
    by false ih = (n, h)

-- a want of memory leaves nothing open and nothing waiting
pub fits_lost : (table : Table) (edits : Edits) (graves : List Grave) (t : Seat) → SeatFits table edits graves t
    → SeatFits table edits graves (lost_now t)
fits_lost table edits graves t h = record {
  budget = h.budget;
  shown = h.shown;
  waits = record { few = omega arith; short = tt };
  left = λ a alive dead ajar. absurd (false≢true (sym ajar));
}

-- a player who joins was shown nothing
pub fits_new : (table : Table) (edits : Edits) (graves : List Grave) (player budget : ℕ) (version : Version) → 1 ≤ budget
    → SeatFits table edits graves (new_seat player budget version)
fits_new table edits graves player budget version least = record {
  budget = least;
  shown = tt;
  waits = record { few = omega arith; short = tt };
  left = λ a alive dead ajar. absurd (false≢true (sym ajar));
}

-- ---- a datagram, a call

-- the same calls wait
short_like : (past later : Past) → waiting_of later ≡ waiting_of past → AreShort past → AreShort later
short_like past later e h = record {
  few = subst (λ (ms : List Message). length ms ≤ waiting_limit) (sym e) h.few;
  short = subst (AllByRecursion (λ (m : Message). length (message_bits m) ≤ part_bits)) (sym e) h.short;
}

-- what was left to close was left before
left_before : (table : Table) (edits : Edits) (graves : List Grave) (t : Seat) (later : Past)
    → SeatFits table edits graves t → StayClosed (past_for table t) later → has_ended (past_for table t) ≡ false
    → (a : ℕ) → lives edits a ≡ false → is_closed (state_of later a) ≡ false → is_buried graves a ≡ true
left_before table edits graves t later h stays alive a dead ajar = by (is_closed (state_of (past_for table t) a)) refl
  where
    by : (b : Bool) → is_closed (state_of (past_for table t) a) ≡ b → is_buried graves a ≡ true
    by true e = absurd (false≢true (sym ajar ∙ stays a e))
    by false e = h.left a alive dead e

fits_as : (table : Table) (edits : Edits) (graves : List Grave) (t : Seat) (event : Event) (later : Past)
    → SeatFits table edits graves t → AreShown (IsOfWorld table edits) (event ∷ t.feed)
    → past_for table (heard event t) ≡ later → AreShort later → StayClosed (past_for table t) later
    → (has_ended (past_for table (heard event t)) ≡ false → has_ended (past_for table t) ≡ false)
    → SeatFits table edits graves (heard event t)
fits_as table edits graves t event later h shown is short stays before = record {
  budget = h.budget;
  shown = shown;
  waits = subst AreShort (sym is) short;
  left = λ a alive dead ajar. left_before table edits graves t later h stays (before alive) a dead
      (ap (λ (p : Past). is_closed (state_of p a)) (sym is) ∙ ajar);
}

pub fits_got : (table : Table) (edits : Edits) (graves : List Grave) (t : Seat) (bytes : List ℕ)
    → SeatFits table edits graves t → SeatFits table edits graves (heard (Got bytes) t)
fits_got table edits graves t bytes h = elim (cases_Bool (has_ended (past_for table t))) [
  | inl e ↦ fits_as table edits graves t (Got bytes) (past_for table t) h h.shown (ignored table t (Got bytes) e) h.waits
      (λ a q. q) (λ q. ap has_ended (sym (ignored table t (Got bytes) e)) ∙ q)
  | inr e ↦ (let g = got_goes (end_for table t) (past_for table t) bytes in
      fits_as table edits graves t (Got bytes) (after_got (end_for table t) (past_for table t) bytes) h h.shown
      (hears table t (Got bytes) e)
      (short_like (past_for table t) (after_got (end_for table t) (past_for table t) bytes) g.waits h.waits)
      (goes_closed (past_for table t) (after_got (end_for table t) (past_for table t) bytes) g) (λ q. e))
]

pub fits_call : (table : Table) (edits : Edits) (graves : List Grave) (t : Seat) (a n : ℕ) (args : List Arg)
    → SeatFits table edits graves t → IsShort (past_for table t) a n args
    → SeatFits table edits graves (heard (Call a n args) t)
fits_call table edits graves t a n args h short = elim (cases_Bool (has_ended (past_for table t))) [
  | inl e ↦ fits_as table edits graves t (Call a n args) (past_for table t) h h.shown (ignored table t (Call a n args) e)
      h.waits (λ a q. q) (λ q. ap has_ended (sym (ignored table t (Call a n args) e)) ∙ q)
  | inr e ↦ (let g = call_leaves (past_for table t) a n args short in
      fits_as table edits graves t (Call a n args) (after_call AtServer (past_for table t) a n args) h h.shown
      (hears table t (Call a n args) e) (g.short h.waits) g.closed (λ q. e))
]

-- ---- an edit

all_so : (P Q : ℕ → Class → Type 0) (sight : List Seen) → ((a : ℕ) (c : Class) → P a c → Q a c)
    → AllByRecursion (IsSo P) sight → AllByRecursion (IsSo Q) sight
all_so P Q [] f h = tt
all_so P Q (s ∷ sight) f h = (λ r. f s.actor s.class (h.0 r), all_so P Q sight f h.1)

shown_so : (P Q : ℕ → Class → Type 0) (feed : List Event) → ((a : ℕ) (c : Class) → P a c → Q a c)
    → AreShown P feed → AreShown Q feed
shown_so P Q [] f h = tt
shown_so P Q (Tick sight ∷ feed) f h = (all_so P Q sight f h.0, shown_so P Q feed f h.1)
shown_so P Q (Got bytes ∷ feed) f h = shown_so P Q feed f h
shown_so P Q (Call a n args ∷ feed) f h = shown_so P Q feed f h

fit_edit : (table : Table) (edit : Edit) (edits : Edits) (graves later : List Grave)
    → ((a : ℕ) → lives (edit ∷ edits) a ≡ false → (lives edits a ≡ false) ⊎ (is_buried later a ≡ true))
    → ((a : ℕ) → is_buried graves a ≡ true → is_buried later a ≡ true)
    → (t : Seat) → SeatFits table edits graves t → SeatFits table (edit ∷ edits) later t
fit_edit table edit edits graves later dead more t h = record {
  budget = h.budget;
  shown = shown_so (IsOfWorld table edits) (IsOfWorld table (edit ∷ edits)) t.feed
      (λ a c w. (λ none. w.0 (sym (spawn_stays edit edits a w.0) ∙ none), w.1 ∙ sym (class_stays table edit edits a w.0)))
      h.shown;
  waits = h.waits;
  left = λ a alive q ajar. elim (dead a q) [ inl was ↦ more a (h.left a alive was ajar) | inr there ↦ there ];
}

pub fits_edit : (table : Table) (edit : Edit) (edits : Edits) (graves later : List Grave)
    → ((a : ℕ) → lives (edit ∷ edits) a ≡ false → (lives edits a ≡ false) ⊎ (is_buried later a ≡ true))
    → ((a : ℕ) → is_buried graves a ≡ true → is_buried later a ≡ true)
    → (seats : List Seat) → AllByRecursion (SeatFits table edits graves) seats
    → AllByRecursion (SeatFits table (edit ∷ edits) later) seats
fits_edit table edit edits graves later dead more [] h = tt
fits_edit table edit edits graves later dead more (t ∷ seats) h =
    (fit_edit table edit edits graves later dead more t h.0, fits_edit table edit edits graves later dead more seats h.1)

-- fewer graves, of all of which something is left
pub fits_graves : (table : Table) (edits : Edits) (graves later : List Grave) (t : Seat) → SeatFits table edits graves t
    → (has_ended (past_for table t) ≡ false → (a : ℕ) → is_buried graves a ≡ true
    → is_closed (state_of (past_for table t) a) ≡ false → is_buried later a ≡ true)
    → SeatFits table edits later t
fits_graves table edits graves later t h kept = record {
  budget = h.budget;
  shown = h.shown;
  waits = h.waits;
  left = λ a alive dead ajar. kept alive a (h.left a alive dead ajar) ajar;
}

none_counted : (samples : List Sample) (n m : ℕ) → samples ≡ [] → have_count samples m ≡ true
none_counted samples n m e = rw e refl

pub before_edit : (table : Table) (edit : Edit) (edits : Edits) (tick a : ℕ) (samples : List Sample)
    → SampledBefore table edits tick a samples → SampledBefore table (edit ∷ edits) tick a samples
before_edit table edit edits tick a samples h = by (spawn_of edits a) refl
  where
    by : (o : Option Spawned) → spawn_of edits a ≡ o
        → SampledBefore table (edit ∷ edits) tick a samples
    by None q = record {
      until = h.until;
      sized = none_counted samples 0 (cells_of table (edit ∷ edits) a) (h.none q);
      none = λ e. h.none q;
    }
    by (Some s) q =
        let there : spawn_of edits a ≢ None = λ none. none-some s (sym none ∙ q) in
        record {
          until = h.until;
          sized = ap (λ (c : Class). have_count samples (handle_count c - 1)) (class_stays table edit edits a there) ∙ h.sized;
          none = λ e. absurd (there (sym (spawn_stays edit edits a there) ∙ e));
        }

-- ---- who is dead

-- an actor that is dead after an edit that doesn't destroy it was dead before
pub dead_before : (edit : Edit) (edits : Edits) (a : ℕ) → destroys a edit ≡ false → lives (edit ∷ edits) a ≡ false
    → lives edits a ≡ false
dead_before edit edits a not_now dead = by (lives edits a) refl
  where
    by : (b : Bool) → lives edits a ≡ b → lives edits a ≡ false
    by false e = e
    by true e =
        let parts = and_parts (is_some (spawn_of edits a)) (not (list_any (destroys a) edits)) e in
        let there : spawn_of edits a ≢ None = λ none. false≢true (sym (ap is_some none) ∙ parts.0) in
        absurd (false≢true (sym dead
        ∙ ap (λ (o : Option Spawned). is_some o && not (destroys a edit || list_any (destroys a) edits)) (spawn_stays edit edits a there)
        ∙ ap (λ (b : Bool). is_some (spawn_of edits a) && not (b || list_any (destroys a) edits)) not_now ∙ e))

-- and stays so
pub dead_stays : (edit : Edit) (edits : Edits) (a : ℕ) → spawn_of edits a ≢ None → lives edits a ≡ false
    → lives (edit ∷ edits) a ≡ false
dead_stays edit edits a there dead =
    ap (λ (o : Option Spawned). is_some o && not (destroys a edit || list_any (destroys a) edits)) (spawn_stays edit edits a there)
    ∙ by (spawn_of edits a) there (list_any (destroys a) edits) (destroys a edit) dead
  where
    by : (o : Option Spawned) → o ≢ None → (b d : Bool) → (is_some o && not b) ≡ false
        → (is_some o && not (d || b)) ≡ false
    by None ne b d e = refl
    by (Some s) ne true true e = refl
    by (Some s) ne true false e = refl
    by (Some s) ne false d e = absurd (false≢true (sym e))
