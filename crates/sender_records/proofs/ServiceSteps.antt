-- What each deed makes of the service that is kept of an actor.
use Rattle.std.proofs.Common.{◌≡◌, ℕ, ◌+◌, ◌-◌, ◌≤◌, List, ◌∷◌, ◌++◌, Bool, true, false, cond, not, ◌==◌, ◌&&◌, length, refl, sym, ap, ◌∙◌, arith, Option, Some, None, unwrap_or}
use Rattle.std.specs.Prelude.{option_map, is_some}
use Rattle.std.specs.Bool.{then_some}
use Rattle.std.proofs.lemmas.Bool.Decides.{nat_tests}
use Rattle.protocol_model.specs.Search.{oldest_of, or_else, items_since}
use Rattle.protocol_model.specs.Sight.{Seen}
use Rattle.protocol_model.specs.Payload.{Message}
use Rattle.connection_model.specs.Feed.{Past, Ticked, ticks_of, tick_count, sight_of, seen_in, is_relevant_in}
use Rattle.connection_model.specs.Bunches.{after_making}
use Rattle.connection_model.specs.Items.{last_service, first_sight, shown_in, is_open_made}
use Rattle.connection_model.specs.Pack.{idle_ticks}
use Rattle.sender_laws.specs.Acts.{are_sent}
use Rattle.sender_laws.specs.Items.{has_update}
use Rattle.sender_laws.proofs.Ticks.{idle_shown, idle_more, first_shown, count_ticked}
use Rattle.sender_laws.proofs.Makes.{ticks_under, sight_under, service_opened}
use Rattle.sender_records.specs.declared.service.Service.{Service}
use Rattle.sender_records.specs.Service.{KeepsService, shows_owned, service_shown}

-- ---- a tick

relevant_step : (r : Bool) (at t idle idle_now count : ℕ) → at + idle ≡ count → t ≡ count + 1
    → (r ≡ true → idle_now ≡ 0) → (r ≡ false → idle_now ≡ idle + 1) → cond r t at + idle_now ≡ count + 1
relevant_step true at t idle idle_now count h now shown more = omega (arith, now, shown refl)
relevant_step false at t idle idle_now count h now shown more = omega (arith, h, more refl)

first_step : (r : Bool) (at t count : ℕ) (o : Option ℕ) → t ≡ count + 1 → is_some o ≡ not (at == 0)
    → is_some (or_else o (then_some r t)) ≡ not (cond r t at == 0)
first_step true at t count None now h = grind (arith, nat_tests)
first_step true at t count (Some x) now h = grind (arith, nat_tests)
first_step false at t count None now h = h
first_step false at t count (Some x) now h = h

served_step : (r : Bool) (at t served : ℕ) (o last : Option ℕ) → is_some o ≡ not (at == 0) → (at ≡ 0 → last ≡ None)
    → served ≡ unwrap_or last (unwrap_or o 1 - 1)
    → cond (r && at == 0) (t - 1) served ≡ unwrap_or last (unwrap_or (or_else o (then_some r t)) 1 - 1)
served_step false at t served None last h u s = s
served_step false at t served (Some x) last h u s = s
served_step true at t served (Some x) last h u s = ap (λ (b : Bool). cond b (t - 1) served) (some_at at h) ∙ s
  where
    some_at : (n : ℕ) → true ≡ not (n == 0) → (n == 0) ≡ false
    some_at n e = grind (arith, nat_tests)
served_step true at t served None last h u s =
    ap (λ (b : Bool). cond b (t - 1) served) (none_at at h)
    ∙ ap (λ (o : Option ℕ). unwrap_or o (t - 1)) (sym (u (zero_at at h)))
  where
    none_at : (n : ℕ) → false ≡ not (n == 0) → (n == 0) ≡ true
    none_at n e = grind (arith, nat_tests)

    zero_at : (n : ℕ) → false ≡ not (n == 0) → n ≡ 0
    zero_at n e = grind (arith, nat_tests)

owned_step : (o : Bool) (at t count : ℕ) → t ≡ count + 1 → at ≤ count
    → o ≡ (not (cond o t at == 0) && (cond o t at == count + 1))
owned_step true at t count now low = grind (arith, nat_tests)
owned_step false at t count now low = grind (arith, nat_tests)

before_step : (o : Bool) (at t count : ℕ) → t ≡ count + 1 → at ≤ count → cond o t at ≤ count + 1
before_step true at t count now low = omega arith
before_step false at t count now low = omega arith

unserved_step : (r : Bool) (at t count : ℕ) (last : Option ℕ) → t ≡ count + 1 → (at ≡ 0 → last ≡ None)
    → cond r t at ≡ 0 → last ≡ None
unserved_step true at t count last now u e = absurd (omega arith)
unserved_step false at t count last now u e = u e

-- a tick whose sight shows the actor so
pub shown_keeps : (past : Past) (t : ℕ) (sight : List Seen) (a : ℕ) (s : Service) (r o : Bool) → KeepsService past a s
    → t ≡ tick_count past + 1
    → is_relevant_in sight a ≡ r → shows_owned sight a ≡ o
    → KeepsService (Ticked t sight ∷ past) a (service_shown s t r o)
shown_keeps past t sight a s r o h now shown owned =
    let later : Past = Ticked t sight ∷ past in
    let count : tick_count later ≡ tick_count past + 1 = count_ticked past t sight in
    let first : oldest_of (shown_in a) (ticks_of later) ≡ or_else (oldest_of (shown_in a) (ticks_of past))
    (then_some r t) =
    first_shown past t sight a
    ∙ ap (λ (b : Bool). or_else (oldest_of (shown_in a) (ticks_of past)) (then_some b t)) shown in
    record {
      relevant =
          relevant_step r s.relevant_at t (idle_ticks past a) (idle_ticks later a) (tick_count past) h.relevant now
          (λ e. idle_shown past t sight a (shown ∙ e)) (λ e. idle_more past t sight a (shown ∙ e)) ∙ sym count;
      first =
          ap (λ (x : Option ℕ). is_some x) first
          ∙ first_step r s.relevant_at t (tick_count past) (oldest_of (shown_in a) (ticks_of past)) now h.first;
      served =
          served_step r s.relevant_at t s.served (oldest_of (shown_in a) (ticks_of past))
          (last_service past a) h.first h.unserved h.served
          ∙ ap (λ (x : Option ℕ). unwrap_or (last_service past a) (unwrap_or x 1 - 1)) (sym first);
      unserved = unserved_step r s.relevant_at t (tick_count past) (last_service past a) now h.unserved;
      owned = owned ∙ owned_step o s.owned_at t (tick_count past) now h.before
          ∙ ap (λ (n : ℕ). not (cond o t s.owned_at == 0) && (cond o t s.owned_at == n)) (sym count);
      before = omega (arith, before_step o s.owned_at t (tick_count past) now h.before, count);
    }

-- a sight that doesn't show the actor changes nothing
pub unshown_keeps : (past : Past) (t : ℕ) (sight : List Seen) (a : ℕ) (s : Service) → KeepsService past a s
    → t ≡ tick_count past + 1
    → is_relevant_in sight a ≡ false → shows_owned sight a ≡ false → KeepsService (Ticked t sight ∷ past) a s
unshown_keeps past t sight a s h now shown owned = shown_keeps past t sight a s false false h now shown owned

-- ---- where ticks and sight stay

-- but for the last service, all is told by the ticks and the sight
pub service_like : (past later : Past) (a : ℕ) (s new : Service) → ticks_of later ≡ ticks_of past
    → sight_of later ≡ sight_of past
    → new.relevant_at ≡ s.relevant_at → new.owned_at ≡ s.owned_at → (new.relevant_at ≡ 0 → last_service later a ≡ None)
    → new.served ≡ unwrap_or (last_service later a) (first_sight past a - 1) → KeepsService past a s
    → KeepsService later a new
service_like past later a s new ticks sight relevant owned unserved served h = record {
  relevant = ap (λ (n : ℕ). n + idle_ticks later a) relevant
      ∙ ap (λ (ts : List (ℕ × List Seen)). s.relevant_at + length
      (items_since (λ (tick : ℕ × List Seen). is_relevant_in tick.1 a) ts)) ticks
      ∙ h.relevant ∙ ap (λ (ts : List (ℕ × List Seen)). length ts) (sym ticks);
  first =
      ap (λ (ts : List (ℕ × List Seen)). is_some (oldest_of (shown_in a) ts)) ticks ∙ h.first
      ∙ ap (λ (n : ℕ). not (n == 0)) (sym relevant);
  served =
      served ∙ ap
      (λ (ts : List (ℕ × List Seen)). unwrap_or (last_service later a) (unwrap_or (oldest_of (shown_in a) ts) 1 - 1))
      (sym ticks);
  unserved = unserved;
  owned =
      ap (λ (ss : List Seen). unwrap_or (option_map (λ (seen : Seen). seen.owns) (seen_in ss a)) false) sight ∙ h.owned
      ∙ ap (λ (n : ℕ). not (n == 0) && (n == tick_count past)) (sym owned)
      ∙ ap (λ (ts : List (ℕ × List Seen)). not (new.owned_at == 0) && (new.owned_at == length ts)) (sym ticks);
  before = omega (arith, owned, h.before, ap (λ (ts : List (ℕ × List Seen)). length ts) ticks);
}

-- where ticks, the sight and the last service stay, so does all that is kept
pub service_same : (past later : Past) (a : ℕ) (s : Service) → ticks_of later ≡ ticks_of past
    → sight_of later ≡ sight_of past → last_service later a ≡ last_service past a
    → KeepsService past a s → KeepsService later a s
service_same past later a s ticks sight last h =
    service_like past later a s s ticks sight refl refl (λ z. last ∙ h.unserved z)
    (h.served ∙ ap (λ (o : Option ℕ). unwrap_or o (first_sight past a - 1)) (sym last)) h

-- ---- a service

-- an open of the actor is made
pub served_open : (sent past : Past) (ch a : ℕ) (m : Message) (s new : Service) → KeepsService (sent ++ past) a s
    → are_sent sent ≡ true → has_update a sent ≡ false
    → is_open_made a m ≡ true → 1 ≤ s.relevant_at
    → new ≡ record { relevant_at = s.relevant_at; owned_at = s.owned_at; served = tick_count past }
    → KeepsService (sent ++ after_making past ch m) a new
served_open sent past ch a m s new h e none opens some is =
    let last : last_service (sent ++ after_making past ch m) a ≡ Some
    (tick_count past) = service_opened sent past e ch m a opens none in
    service_like (sent ++ past) (sent ++ after_making past ch m) a s new (ticks_under sent past ch m)
    (sight_under sent past ch m)
    (ap (λ (x : Service). x.relevant_at) is) (ap (λ (x : Service). x.owned_at) is)
    (λ z. absurd (omega (arith, some, z, ap (λ (x : Service). x.relevant_at) is)))
    (ap (λ (x : Service). x.served) is ∙ ap (λ (o : Option ℕ). unwrap_or o (first_sight (sent ++ past) a - 1))
    (sym last)) h
