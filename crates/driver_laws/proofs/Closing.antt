-- In a tick the channel of an actor that isn't shown as relevant doesn't open.
use Rattle.std.proofs.Common.{◌≡◌, ℕ, zero, suc, ◌+◌, List, [], ◌∷◌, Bool, true, false, cond, ◌&&◌, ◌==◌, fold, refl, sym, ap, ◌∙◌, Option, Some, None}
use Rattle.std.specs.Prelude.{slice_get, nat_le, ◌||◌}
use Rattle.std.proofs.lemmas.Bool.{cond_both, false≢true, eqb-true, eq-eqb}
use Rattle.protocol_model.specs.Limits.{unresolved_limit}
use Rattle.protocol_model.specs.Payload.{Message, Opens, Closes, Updates, Calls, Gone, actor_of}
use Rattle.protocol_model.specs.Sight.{Seen}
use Rattle.connection_model.specs.Feed.{End, Past, Ticked, Waits, Ended, ByStall, Item, has_ended, tick_count, sight_of, is_relevant_in}
use Rattle.connection_model.specs.Fates.{unresolved_count}
use Rattle.connection_model.specs.Bunches.{made_count, after_making}
use Rattle.connection_model.specs.Items.{first_items, actors_by_score}
use Rattle.connection_model.specs.Pack.{Packing, after_closes, after_sending, after_actor, after_offer, packets_to_send, packing_of, after_stall, after_packing, after_tick}
use Rattle.connection_model.specs.State.{ActorState, Closed, Opening, Opened, Closing, Asleep, state_of, last_mark, is_open, is_asleep, is_closed}
use Rattle.connection_laws.specs.Run.{Move, Ticks, Makes, Defers, Sends, Takes, Hears, Hands, Ends, after_move, May, IsRun, HasPlace, OpensSeen}
use Rattle.connection_laws.specs.Run.IsRun.{does}
use Rattle.connection_laws.proofs.ActorMarks.{SameArrivals, state_same, marks, mark_made}
use Rattle.connection_laws.proofs.Arrivals.{arrival_made, arrival_sent, arrival_same}
use Rattle.connection_laws.proofs.Fates.{moves_sent}
use Rattle.connection_laws.proofs.Items.{sight_made}
use Rattle.connection_laws.proofs.LiveRuns.{Goes, IsDone, IsQuiet, runs_go}
use Rattle.connection_laws.proofs.Packing.{actor_sight, offers_past}
use Rattle.connection_laws.proofs.Ticking.{tick_runs}
use Rattle.turn_laws.proofs.Closed.{closes_keep}

-- ---- the sight of a tick stays

actors_sight : (end : End) (p : Packing) (actors : List Seen)
    → sight_of (fold (after_actor end) p actors).past ≡ sight_of p.past
actors_sight end p [] = refl
actors_sight end p (s ∷ actors) =
    actors_sight end (after_actor end p s) actors ∙ actor_sight end (IsRun end) (runs_go end) p s

sent_sight : (past : Past) (packets : List (List Item)) → sight_of (fold after_sending past packets) ≡ sight_of past
sent_sight past [] = refl
sent_sight past (items ∷ packets) = sent_sight (after_sending past items) packets

stall_sight : (past : Past) → sight_of (after_stall past) ≡ sight_of past
stall_sight past =
    cond_both (nat_le unresolved_limit (unresolved_count past)) (Ended ByStall ∷ past) past
    (λ (later : Past). sight_of later ≡ sight_of past) (λ e. refl) (λ e. refl)

pub tick_sight : (end : End) (past : Past) (sight : List Seen) → has_ended past ≡ false
    → sight_of (after_tick end past sight) ≡ sight
tick_sight end past sight alive = rw alive parts
  where
    now : Past
    now = after_closes (Ticked (tick_count past + 1) sight ∷ past)

    parts : sight_of (after_packing end past (packing_of end past
        (after_closes (Ticked (tick_count past + 1) sight ∷ past)))) ≡ sight
    parts =
        let packing : Packing = packing_of end past now in
        stall_sight (fold after_sending packing.past (packets_to_send end past packing))
        ∙ sent_sight packing.past (packets_to_send end past packing)
        ∙ actors_sight end (fold (after_offer end) (record { past = now; packets = []; full = false })
        (first_items end past now))
        (actors_by_score now)
        ∙ ap sight_of (offers_past end (IsRun end) (runs_go end) (record { past = now; packets = []; full = false })
        (first_items end past now))
        ∙ closes_keep (λ (l : Past). sight_of l ≡ sight) (λ l ch m h. sight_made l ch m ∙ h)
        (Ticked (tick_count past + 1) sight ∷ past) refl

-- ---- a closed actor stays so

module _ (end : End) (a : ℕ) where
  -- the last sight doesn't show it as relevant
  abbrev Unshown : Past → Type 0
  Unshown past = is_relevant_in (sight_of past) a ≡ false

  record ClosedIf (past : Past) : Type 0 where
    run : IsRun end past
    closed : Unshown past → is_closed (state_of past a) ≡ true

  closed_same : (past later : Past) → SameArrivals past later → last_mark later a ≡ last_mark past a
      → is_closed (state_of past a) ≡ true → is_closed (state_of later a) ≡ true
  closed_same past later arrived mark e = ap is_closed (state_same past later arrived a mark) ∙ e

  none_open : (state : ActorState) → is_closed state ≡ true → is_open state ≡ false
  none_open Closed e = refl
  none_open Opening e = absurd (false≢true e)
  none_open Opened e = absurd (false≢true e)
  none_open Closing e = absurd (false≢true e)
  none_open Asleep e = absurd (false≢true e)

  none_asleep : (state : ActorState) → is_closed state ≡ true → is_asleep state ≡ false
  none_asleep Closed e = refl
  none_asleep Opening e = absurd (false≢true e)
  none_asleep Opened e = absurd (false≢true e)
  none_asleep Closing e = absurd (false≢true e)
  none_asleep Asleep e = absurd (false≢true e)

  -- what a sight shows as relevant is relevant in it
  shown_relevant : (sight : List Seen) (i : ℕ) (seen : Seen) → slice_get sight i ≡ Some seen → seen.relevant ≡ true
      → seen.actor ≡ a → is_relevant_in sight a ≡ true
  shown_relevant [] i seen e r is = absurd (let no : (let o : Option Seen = None in o) ≡ Some seen = e in cc)
  shown_relevant (s ∷ sight) zero seen e r is =
      let same : s ≡ seen = (let q : Some s ≡ Some seen = e in cc) in
      rw (ap (λ (t : Seen). t.relevant) same ∙ r, eq-eqb s.actor a (ap (λ (t : Seen). t.actor) same ∙ is)) refl
  shown_relevant (s ∷ sight) (suc i) seen e r is =
      or_right (s.actor == a && s.relevant) (is_relevant_in sight a) (shown_relevant sight i seen e r is)
    where
      or_right : (b c : Bool) → c ≡ true → (b || c) ≡ true
      or_right true c q = refl
      or_right false c q = q

  unmarked : (past : Past) (ch : ℕ) (m : Message) → Unshown past → is_closed (state_of past a) ≡ true
      → HasPlace end past ch m
      → marks a m ≡ false
  unmarked past ch (Opens exports actor class values) out closed place = by (actor == a) refl
    where
      seen : OpensSeen past (Opens exports actor class values)
      seen = place.4

      by : (b : Bool) → (actor == a) ≡ b → (b && true) ≡ false
      by false q = refl
      by true q = absurd (false≢true (sym out
          ∙ shown_relevant (sight_of past) seen.shown.0 seen.seen seen.shown.1 seen.relevant
          (sym (ap actor_of seen.says) ∙ eqb-true actor a q)))
  unmarked past ch (Closes actor sleeps) out closed place = by (actor == a) refl
    where
      by : (b : Bool) → (actor == a) ≡ b → (b && true) ≡ false
      by false q = refl
      by true q = absurd (false≢true (sym (none_open (state_of past a) closed)
          ∙ ap (λ (x : ℕ). is_open (state_of past x)) (sym (eqb-true actor a q)) ∙ place.1))
  unmarked past ch (Gone actor) out closed place = by (actor == a) refl
    where
      by : (b : Bool) → (actor == a) ≡ b → (b && true) ≡ false
      by false q = refl
      by true q = absurd (false≢true (sym (none_asleep (state_of past a) closed)
          ∙ ap (λ (x : ℕ). is_asleep (state_of past x)) (sym (eqb-true actor a q)) ∙ place.1))
  unmarked past ch (Updates actor class values) out closed place = absurd place
  unmarked past ch (Calls actor n call args) out closed place = by (actor == a)
    where
      by : (b : Bool) → (b && false) ≡ false
      by true = refl
      by false = refl

  closed_goes : Goes end ClosedIf
  closed_goes = record { is_run = λ past r. r.run; goes = go }
    where
      go : (past : Past) (move : Move) → IsQuiet move → ClosedIf past → has_ended past ≡ false → May end past move
          → ClosedIf (after_move past move)
      go past (Ticks sight) quiet r alive may = absurd quiet
      go past (Makes ch m) quiet r alive may = record {
        run = does (Makes ch m) r.run alive may;
        closed = λ out.
            let before : Unshown past = ap (λ (s : List Seen). is_relevant_in s a) (sym (sight_made past ch m)) ∙ out in
            let shut = r.closed before in
            closed_same past (after_making past ch m) (λ c n. arrival_made past ch m c n)
            (mark_made past ch m a
            ∙ ap (λ (b : Bool). cond b (Some (record { channel = ch; number = made_count past ch + 1; message = m }))
            (last_mark past a))
            (unmarked past ch m before shut may.place)) shut;
      }
      go past (Defers m) quiet r alive may = record {
        run = does (Defers m) r.run alive may;
        closed = λ out. closed_same past (Waits m ∷ past) (λ c n. arrival_same past (Waits m ∷ past) c n refl refl)
            refl (r.closed out);
      }
      go past (Sends items) quiet r alive may = record {
        run = does (Sends items) r.run alive may;
        closed = λ out. closed_same past (after_sending past items)
            (λ c n. arrival_sent end past items (λ n e. (moves_sent end past r.run n e).1) may.each c n) refl
            (r.closed out);
      }
      go past (Takes n) quiet r alive may = absurd quiet
      go past (Hears entry) quiet r alive may = absurd quiet
      go past (Hands d) quiet r alive may = absurd quiet
      go past (Ends g) quiet r alive may = record {
        run = does (Ends g) r.run alive may;
        closed = λ out. closed_same past (Ended g ∷ past) (λ c n. arrival_same past (Ended g ∷ past) c n refl refl)
            refl (r.closed out);
      }

  -- where it was closed, and the sight doesn't show it as relevant, it is closed after the tick
  pub tick_closed : (past : Past) (sight : List Seen) → IsDone (IsRun end) past → has_ended past ≡ false
      → is_relevant_in sight a ≡ false → is_closed (state_of past a) ≡ true
      → is_closed (state_of (after_tick end past sight) a) ≡ true
  tick_closed past sight h alive out closed =
      (tick_runs end ClosedIf closed_goes past sight
      (λ r live. record {
        run = does (Ticks sight) r.run live tt;
        closed = λ q. closed_same past (Ticked (tick_count past + 1) sight ∷ past)
            (λ c n. arrival_same past (Ticked (tick_count past + 1) sight ∷ past) c n refl refl) refl closed;
      })
      (record { run = record { run = h.run; closed = λ q. closed }; few = h.few })).run.closed
      (ap (λ (s : List Seen). is_relevant_in s a) (tick_sight end past sight alive) ∙ out)
