-- What a sight, and the sight that was handed to a sender for it, tell of an actor.
use Rattle.std.proofs.Common.{◌≡◌, ℕ, ◌+◌, ◌≤◌, List, [], ◌∷◌, map, Bool, true, false, not, cond, ◌&&◌, ◌||◌, ◌==◌, refl, sym, ap, ◌∙◌, subst, arith, Option, Some, None, option_map, unwrap_or}
use Rattle.std.proofs.lemmas.Bool.{false≢true, eqb-true, ne_eqb}
use Rattle.protocol_model.specs.Sight.{Seen}
use Rattle.connection_model.specs.Feed.{Past, Ticked, ticks_of, tick_count, sight_of, seen_in, is_relevant_in}
use Rattle.connection_model.specs.State.{ActorState, Closed, Opening, Opened, Closing, Asleep, state_of, is_open, is_opened, is_asleep, is_closed}
use Rattle.connection_model.specs.Items.{is_kept, is_quiet, wants_open}
use Rattle.packing_laws.specs.Beginning.{ticked}
use Rattle.sight_laws.specs.Sights.{unvalued, Shows, AscendsFrom, IsSight}
use Rattle.sight_laws.specs.Sights.Shows.{none, as_it_is, without_values, without_entry}
use Rattle.sight_laws.specs.Differing.{but_sights, relevance_in, SameButSights}
use Rattle.sight_laws.proofs.Unsighted.{count_same}

-- ---- of one actor

-- nothing is sent of the actor, whatever its values are
pub record IsIdle (past : Past) (seen : Seen) : Type 0 where
  pub shut : is_open (state_of past seen.actor) ≡ false
  pub silent : seen.relevant ≡ true → wants_open past seen ≡ false
  pub apart : (seen.destroyed && seen.relevant) ≡ false

-- the entry of an actor in a sight, and in the one given: it is the same, but that of an idle actor
-- may have no values, and that of a closed one may not be there
pub data Told (past : Past) (a : ℕ) : Option Seen → Option Seen → Type 0 where
  same : {o : Option Seen} → Told past a o o
  empty : {seen : Seen} → seen.actor ≡ a → IsIdle past seen → Told past a (Some seen) (Some (unvalued seen))
  missing : {seen : Seen} → seen.actor ≡ a → (seen.relevant ≡ false) × (seen.owns ≡ false)
      → is_closed (state_of past a) ≡ true
      → Told past a (Some seen) None

-- a state that is asleep is no other
pub asleep_shut : (s : ActorState) → is_asleep s ≡ true → is_open s ≡ false
asleep_shut Asleep e = refl
asleep_shut Closed e = absurd (false≢true e)
asleep_shut Opening e = absurd (false≢true e)
asleep_shut Opened e = absurd (false≢true e)
asleep_shut Closing e = absurd (false≢true e)

asleep_closed : (s : ActorState) → is_asleep s ≡ true → is_closed s ≡ false
asleep_closed Asleep e = refl
asleep_closed Closed e = absurd (false≢true e)
asleep_closed Opening e = absurd (false≢true e)
asleep_closed Opened e = absurd (false≢true e)
asleep_closed Closing e = absurd (false≢true e)

-- so is one that is closed
pub closed_shut : (s : ActorState) → is_closed s ≡ true → is_open s ≡ false
closed_shut Closed e = refl
closed_shut Asleep e = absurd (false≢true e)
closed_shut Opening e = absurd (false≢true e)
closed_shut Opened e = absurd (false≢true e)
closed_shut Closing e = absurd (false≢true e)

pub closed_awake : (s : ActorState) → is_closed s ≡ true → is_asleep s ≡ false
closed_awake Closed e = refl
closed_awake Asleep e = absurd (false≢true e)
closed_awake Opening e = absurd (false≢true e)
closed_awake Opened e = absurd (false≢true e)
closed_awake Closing e = absurd (false≢true e)

-- what isn't open isn't opened
pub shut_unopened : (s : ActorState) → is_open s ≡ false → is_opened s ≡ false
shut_unopened Closed e = refl
shut_unopened Asleep e = refl
shut_unopened Opening e = refl
shut_unopened Opened e = absurd (false≢true (sym e))
shut_unopened Closing e = refl

-- a quiet actor is idle
quiet_asleep : (s d k : Bool) → (s && d && k) ≡ true → s ≡ true
quiet_asleep true d k e = refl
quiet_asleep false d k e = absurd (false≢true e)

pub quiet_idle : (past : Past) (seen : Seen) → (seen.destroyed && seen.relevant) ≡ false
    → is_quiet past seen ≡ true → IsIdle past seen
quiet_idle past seen apart e =
    let asleep = quiet_asleep (is_asleep (state_of past seen.actor)) seen.dormant (is_kept past seen) e in
    record {
      shut = asleep_shut (state_of past seen.actor) asleep;
      silent = λ r. ap (λ (b : Bool). b || (is_asleep (state_of past seen.actor) && not (is_quiet past seen)))
          (asleep_closed (state_of past seen.actor) asleep)
          ∙ ap (λ (b : Bool). is_asleep (state_of past seen.actor) && not b) e
          ∙ never (is_asleep (state_of past seen.actor));
      apart = apart;
    }
  where
    never : (b : Bool) → (b && not true) ≡ false
    never true = refl
    never false = refl

-- ---- of a whole sight

-- an actor at or below the start has no entry
pub none_below : (past : Past) {shown given : List Seen} (low : ℕ) → AscendsFrom low shown → Shows past shown given
    → (a : ℕ) → a ≤ low → seen_in given a ≡ None
none_below past low order none a le = refl
none_below past low order (as_it_is {seen = seen} {given = given} h) a le =
    ap (λ (b : Bool). cond b (Some seen) (seen_in given a)) (ne_eqb seen.actor a (λ q. absurd (omega (arith, order.0))))
    ∙ none_below past seen.actor order.2 h a (omega (arith, order.0))
none_below past low order (without_values {seen = seen} {given = given} q h) a le =
    ap (λ (b : Bool). cond b (Some (unvalued seen)) (seen_in given a))
    (ne_eqb seen.actor a (λ q. absurd (omega (arith, order.0))))
    ∙ none_below past seen.actor order.2 h a (omega (arith, order.0))
none_below past low order (without_entry {seen = seen} q h) a le =
    none_below past seen.actor order.2 h a (omega (arith, order.0))

pub done_parts : (d r o c : Bool) → (d && not r && not o && c) ≡ true → (r ≡ false) × (o ≡ false) × (c ≡ true)
done_parts true false false true e = (refl, refl, refl)
done_parts true false false false e = absurd (false≢true e)
done_parts true false true c e = absurd (false≢true e)
done_parts true true o c e = absurd (false≢true e)
done_parts false r o c e = absurd (false≢true e)

-- what the two sights tell of each actor
pub told_of : (past : Past) {shown given : List Seen} (low : ℕ) → AscendsFrom low shown → Shows past shown given
    → (a : ℕ) → Told past a (seen_in shown a) (seen_in given a)
told_of past low order none a = same
told_of past low order (as_it_is {seen = seen} {sight = sight} {given = given} h) a =
    by (seen.actor == a) (told_of past seen.actor order.2 h a)
  where
    by : (b : Bool) → Told past a (seen_in sight a) (seen_in given a)
        → Told past a (cond b (Some seen) (seen_in sight a)) (cond b (Some seen) (seen_in given a))
    by true t = same
    by false t = t
told_of past low order (without_values {seen = seen} {sight = sight} {given = given} q h) a =
    by (seen.actor == a) refl (told_of past seen.actor order.2 h a)
  where
    by : (b : Bool) → (seen.actor == a) ≡ b → Told past a (seen_in sight a) (seen_in given a)
        → Told past a (cond b (Some seen) (seen_in sight a)) (cond b (Some (unvalued seen)) (seen_in given a))
    by true e t = empty (eqb-true seen.actor a e) (quiet_idle past seen order.1 q)
    by false e t = t
told_of past low order (without_entry {seen = seen} {sight = sight} {given = given} q h) a =
    by (seen.actor == a) refl (told_of past seen.actor order.2 h a)
  where
    parts : (seen.relevant ≡ false) × (seen.owns ≡ false) × (is_closed (state_of past seen.actor) ≡ true)
    parts = done_parts seen.destroyed seen.relevant seen.owns (is_closed (state_of past seen.actor)) q

    by : (b : Bool) → (seen.actor == a) ≡ b → Told past a (seen_in sight a) (seen_in given a)
        → Told past a (cond b (Some seen) (seen_in sight a)) (seen_in given a)
    by true e t =
        let is : seen.actor ≡ a = eqb-true seen.actor a e in
        subst (λ (o : Option Seen). Told past a (Some seen) o)
        (sym (none_below past seen.actor order.2 h a (omega (arith, is))))
        (missing is (parts.0, parts.1) (ap (λ (n : ℕ). is_closed (state_of past n)) (sym is) ∙ parts.2))
    by false e t = t

-- the same actors are relevant
irrelevant : (d r o c here : Bool) → (d && not r && not o && c) ≡ true → (here && r) ≡ false
irrelevant true false o c true e = refl
irrelevant true false o c false e = refl
irrelevant true true o c here e = absurd (false≢true e)
irrelevant false r o c here e = absurd (false≢true e)

pub shows_relevant : (past : Past) {shown given : List Seen} → Shows past shown given → (a : ℕ)
    → is_relevant_in given a ≡ is_relevant_in shown a
shows_relevant past none a = refl
shows_relevant past (as_it_is {seen = seen} h) a =
    ap (λ (b : Bool). ((seen.actor == a) && seen.relevant) || b) (shows_relevant past h a)
shows_relevant past (without_values {seen = seen} q h) a =
    ap (λ (b : Bool). ((seen.actor == a) && seen.relevant) || b) (shows_relevant past h a)
shows_relevant past (without_entry {seen = seen} {sight = sight} q h) a =
    shows_relevant past h a
    ∙ ap (λ (b : Bool). b || is_relevant_in sight a)
    (sym (irrelevant seen.destroyed seen.relevant seen.owns (is_closed (state_of past seen.actor))
    (seen.actor == a) q))

-- and the same are owned
told_owned : (past : Past) (a : ℕ) {o p : Option Seen} → Told past a o p
    → unwrap_or (option_map (λ (seen : Seen). seen.owns) p) false
    ≡ unwrap_or (option_map (λ (seen : Seen). seen.owns) o) false
told_owned past a same = refl
told_owned past a (empty is idle) = refl
told_owned past a (missing is parts closed) = sym parts.1

-- ---- in a tick

-- within a tick that was shown one sight and given the other: the pasts differ by sights alone, and
-- the two tell of each actor what they may
pub record InTick (shown given : List Seen) (past other : Past) : Type 0 where
  pub same : SameButSights past other
  pub shows : sight_of past ≡ shown
  pub gives : sight_of other ≡ given
  pub told : (a : ℕ) → Told past a (seen_in shown a) (seen_in given a)

told_ticked : (past : Past) (t : ℕ) (sight : List Seen) (a : ℕ) {o p : Option Seen} → Told past a o p
    → Told (Ticked t sight ∷ past) a o p
told_ticked past t sight a same = same
told_ticked past t sight a (empty is idle) =
    empty is (record { shut = idle.shut; silent = idle.silent; apart = idle.apart })
told_ticked past t sight a (missing is parts closed) = missing is parts closed

-- as it begins
pub begins_same : (past other : Past) (shown given : List Seen) → SameButSights past other → IsSight shown
    → Shows past shown given → InTick shown given (ticked past shown) (ticked other given)
begins_same past other shown given h order s = record {
  same = record {
    done = ap (λ (n : ℕ). Ticked (n + 1) [] ∷ but_sights other) (count_same past other h.done)
        ∙ ap (λ (p : Past). Ticked (tick_count past + 1) [] ∷ p) h.done;
    relevance = λ a. ap (λ (n : ℕ). (n + 1, is_relevant_in given a) ∷ map (relevance_in a) (ticks_of other))
        (count_same past other h.done)
        ∙ ap (λ (b : Bool). (tick_count past + 1, b) ∷ map (relevance_in a) (ticks_of other)) (shows_relevant past s a)
        ∙ ap (λ l. (tick_count past + 1, is_relevant_in shown a) ∷ l) (h.relevance a);
    flush = h.flush;
    owned = λ a. told_owned past a (told_of past 0 order s a);
  };
  shows = refl;
  gives = refl;
  told = λ a. told_ticked past (tick_count past + 1) shown a (told_of past 0 order s a);
}
