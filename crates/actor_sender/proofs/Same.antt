-- What the closes of a tick leave as it was.
use Rattle.std.proofs.Common.{◌≡◌, ◌≢◌, ◌∙◌, inl, inr, ℕ, ◌+◌, ◌==◌, List, [], ◌∷◌, Bool, true, false, not, cond, ◌&&◌, ◌||◌, length, nat_lt, ap, sym, refl, subst, arith, Option, Some, None, option_map, unwrap_or, slice_index_or}
use Rattle.std.specs.List.{fold, list_any, slice_get}
use Rattle.std.proofs.lemmas.Bool.{cases_Bool, cases_eq, false≢true, ne_eqb, eqb-true}
use Rattle.protocol_model.specs.Payload.{Message, Opens, Closes, Updates, Calls, Gone, actor_of}
use Rattle.protocol_model.specs.Sight.{Seen}
use Rattle.connection_model.specs.Feed.{Past, tick_count, sight_of, seen_in}
use Rattle.connection_model.specs.Bunches.{after_making, room}
use Rattle.connection_model.specs.State.{ActorState, Closed, Opening, Opened, Closing, Asleep, state_of, is_opened, is_open, is_asleep, is_closed, index_of, opened_actors}
use Rattle.connection_model.specs.Items.{kept_flush, is_quiet, is_kept, wants_open}
use Rattle.connection_model.specs.Carry.{due_pairs}
use Rattle.connection_model.specs.Pack.{after_close, after_closes, made_if_room}
use Rattle.connection_laws.proofs.ActorMarks.{SameArrivals, marks}
use Rattle.connection_laws.proofs.Arrivals.{arrival_made}
use Rattle.packing_laws.specs.Beginning.{ticked}
use Rattle.sender_laws.specs.States.{sleeps_actor}
use Rattle.sender_laws.proofs.Makes.{sight_under}
use Rattle.sight_laws.proofs.Closing.{closed, state_elsewhere, flush_elsewhere, shut_close}
use Rattle.sight_laws.proofs.Shown.{asleep_shut, shut_unopened}
use Rattle.turn_laws.specs.Turns.{closed_up, has_turn}
use Rattle.turn_laws.proofs.Closed.{closes_keep}
use Rattle.connection_laws.proofs.Moves.{making_keeps}
use Rattle.sender_steps.specs.declared.closing.Close.{Close}
use Rattle.sender_steps.specs.declared.closing.Close.TheVariants as close
use Rattle.sender_steps.specs.Closing.{close_called, after_called}
use Rattle.sender_steps.specs.Sender.{Sender}
use Rattle.sender_steps.specs.Stands.{KnowsMade, makes_known}
use Rattle.sender_steps.proofs.Folds.{called_is}
use Rattle.sender_steps.proofs.KnownMade.{opens_like}
use Rattle.actor_sender.specs.Serving.{TellsKnown}

-- ---- what has arrived, and the tick

pub arrivals_closed : (past : Past) (sight : List Seen) → SameArrivals past (closed_up past sight)
arrivals_closed past sight =
    closes_keep (λ (l : Past). SameArrivals past l) (λ l ch m h c n. arrival_made l ch m c n ∙ h c n)
    (ticked past sight) (λ c n. refl)

same_ticks : (past : Past) (ch : ℕ) (m : Message) → tick_count (after_making past ch m) ≡ tick_count past
same_ticks past ch m =
    making_keeps (λ i before. tick_count before ≡ tick_count past) past ch m refl (λ i before lt e. e)

pub ticks_closed : (past : Past) (sight : List Seen) → tick_count (closed_up past sight) ≡ tick_count past + 1
ticks_closed past sight =
    closes_keep (λ (l : Past). tick_count l ≡ tick_count past + 1) (λ l ch m h. same_ticks l ch m ∙ h)
    (ticked past sight) (omega arith)

-- where no open is left that has arrived whole, the places tell what is known
pub tells : (s : Sender) (past now : Past) → KnowsMade now s.known s.opens → SameArrivals past now
    → ((g : ℕ) → list_any (makes_known past g) s.opens ≡ false) → TellsKnown s now
tells s past now knows same none g =
    knows now refl (λ ch n e. e) g
    ∙ ap (λ (b : Bool). slice_index_or s.known g false || b) (opens_like past now same g s.opens ∙ none g)
    ∙ or_false (slice_index_or s.known g false)
  where
    or_false : (b : Bool) → (b || false) ≡ b
    or_false true = refl
    or_false false = refl

-- ---- quiet actors

-- the actor sleeps, with the flush number that it had, in the same sight
record Sleeps (past : Past) (sight : List Seen) (a : ℕ) (l : Past) : Type 0 where
  pub asleep : is_asleep (state_of l a) ≡ true
  pub flush : kept_flush l a ≡ kept_flush past a
  pub shows : sight_of l ≡ sight

-- messages of others leave it so
sleeps_on : (past : Past) (sight : List Seen) (a : ℕ) (l : Past) (ch : ℕ) (m : Message) → marks a m ≡ false
    → Sleeps past sight a l → Sleeps past sight a (after_making l ch m)
sleeps_on past sight a l ch m unmarked h = record {
  asleep = ap is_asleep (state_elsewhere l ch m a unmarked) ∙ h.asleep;
  flush = flush_elsewhere l ch m a (unslept m unmarked) ∙ h.flush;
  shows = sight_under [] l ch m ∙ h.shows;
}
  where
    unslept : (m : Message) → marks a m ≡ false → sleeps_actor a m ≡ false
    unslept (Closes b true) e = and_first (b == a) e
      where
        and_first : (x : Bool) → (x && true) ≡ false → x ≡ false
        and_first true e = e
        and_first false e = refl
    unslept (Closes b false) e = refl
    unslept (Opens exports b class values) e = refl
    unslept (Updates b class values) e = refl
    unslept (Calls b number call args) e = refl
    unslept (Gone b) e = refl

room_sleeps : (past : Past) (sight : List Seen) (a : ℕ) (l : Past) (o : Option ℕ) (m : Message) → marks a m ≡ false
    → Sleeps past sight a l → Sleeps past sight a (made_if_room l o m)
room_sleeps past sight a l None m unmarked h = h
room_sleeps past sight a l (Some ch) m unmarked h = by (nat_lt 0 (room l ch))
  where
    by : (b : Bool) → Sleeps past sight a (cond b (after_making l ch m) l)
    by true = sleeps_on past sight a l ch m unmarked h
    by false = h

called_sleeps : (past : Past) (sight : List Seen) (a : ℕ) (l : Past) (b : ℕ) (c : Option Close) → b ≢ a
    → Sleeps past sight a l → Sleeps past sight a (after_called l b c)
called_sleeps past sight a l b None ne h = h
called_sleeps past sight a l b (Some close.Plain) ne h =
    room_sleeps past sight a l (index_of l b) (Closes b false) (ap (λ (x : Bool). x && true) (ne_eqb b a ne)) h
called_sleeps past sight a l b (Some close.Dormant) ne h =
    room_sleeps past sight a l (index_of l b) (Closes b true) (ap (λ (x : Bool). x && true) (ne_eqb b a ne)) h
called_sleeps past sight a l b (Some close.Gone) ne h =
    room_sleeps past sight a l (Some 0) (Gone b) (ap (λ (x : Bool). x && true) (ne_eqb b a ne)) h

first : (x y z : Bool) → (x && y && z) ≡ true → x ≡ true
first true y z e = refl
first false true true e = absurd (false≢true e)
first false true false e = absurd (false≢true e)
first false false z e = absurd (false≢true e)

module _ (past : Past) (sight : List Seen) (seen : Seen) (there : seen_in sight seen.actor ≡ Some seen)
    (alive : seen.destroyed ≡ false) where
  -- nor is it closed itself
  own_sleeps : (l : Past) → Sleeps past sight seen.actor l → Sleeps past sight seen.actor (after_close l seen.actor)
  own_sleeps l h =
      let shut = asleep_shut (state_of l seen.actor) h.asleep in
      subst (Sleeps past sight seen.actor) (sym (
      ap (λ (o : Option Seen). closed l seen.actor o)
      (ap (λ (ss : List Seen). seen_in ss seen.actor) h.shows ∙ there)
      ∙ shut_close l seen.actor seen shut (shut_unopened (state_of l seen.actor) shut)
      ∙ ap (λ (b : Bool). cond (is_asleep (state_of l seen.actor) && b) (made_if_room l (Some 0) (Gone seen.actor)) l)
      alive
      ∙ none (is_asleep (state_of l seen.actor)) (made_if_room l (Some 0) (Gone seen.actor)) l)) h
    where
      none : (b : Bool) (x y : Past) → cond (b && false) x y ≡ y
      none true x y = refl
      none false x y = refl

  each_sleeps : (l : Past) (b : ℕ) → Sleeps past sight seen.actor l → Sleeps past sight seen.actor (after_close l b)
  each_sleeps l b h = elim (cases_eq b seen.actor) [
    | inl e ↦ subst (λ (x : ℕ). Sleeps past sight seen.actor (after_close l x)) (sym e) (own_sleeps l h)
    | inr ne ↦ subst (Sleeps past sight seen.actor) (sym (called_is l b))
        (called_sleeps past sight seen.actor l b (close_called l b (seen_in (sight_of l) b)) ne h)
  ]

  all_sleep : (actors : List ℕ) (l : Past) → Sleeps past sight seen.actor l
      → Sleeps past sight seen.actor (fold after_close l actors)
  all_sleep [] l h = h
  all_sleep (b ∷ actors) l h = all_sleep actors (after_close l b) (each_sleeps l b h)

  quiet_sleeps : is_quiet past seen ≡ true → Sleeps past sight seen.actor (closed_up past sight)
  quiet_sleeps q =
      all_sleep (opened_actors (ticked past sight)) (ticked past sight)
      (record {
        asleep = first (is_asleep (state_of past seen.actor)) seen.dormant (is_kept past seen) q;
        flush = refl;
        shows = refl;
      })

  -- one that is quiet before the tick isn't opened in it
  pub quiet_shut : is_quiet past seen ≡ true → is_opened (state_of (closed_up past sight) seen.actor) ≡ false
  quiet_shut q = by (state_of (closed_up past sight) seen.actor) (quiet_sleeps q).asleep
    where
      by : (x : ActorState) → is_asleep x ≡ true → is_opened x ≡ false
      by Asleep e = refl
      by Closed e = refl
      by Opening e = refl
      by Closing e = refl
      by Opened e = absurd (false≢true e)

  -- and has nothing to send
  pub quiet_waits : is_quiet past seen ≡ true → has_turn (closed_up past sight) seen ≡ false
  quiet_waits q =
      let asleep : is_asleep (state_of past seen.actor) ≡ true =
      first (is_asleep (state_of past seen.actor)) seen.dormant (is_kept past seen) q in
      let h : Sleeps past sight seen.actor (closed_up past sight) = quiet_sleeps q in
      let quiet : is_quiet (closed_up past sight) seen ≡ true =
      ap (λ (b : Bool). b && seen.dormant && is_kept (closed_up past sight) seen) (h.asleep ∙ sym asleep)
      ∙ ap (λ (o : Option ℕ). is_asleep (state_of past seen.actor) && seen.dormant
      && unwrap_or (option_map (λ flush. flush == seen.flush) o) false) h.flush
      ∙ q in
      by (state_of (closed_up past sight) seen.actor) (is_quiet (closed_up past sight) seen)
      (nat_lt 0 (length (due_pairs (closed_up past sight) seen))) h.asleep quiet
    where
      by : (x : ActorState) (q n : Bool) → is_asleep x ≡ true → q ≡ true
          → ((is_closed x || (is_asleep x && not q)) || (is_opened x && n)) ≡ false
      by Asleep true n e f = refl
      by Asleep false n e f = absurd (false≢true f)
      by Closed q n e f = absurd (false≢true e)
      by Opening q n e f = absurd (false≢true e)
      by Opened q n e f = absurd (false≢true e)
      by Closing q n e f = absurd (false≢true e)
