-- What leaves alone what is kept of an actor.
use Rattle.std.proofs.Common.{◌≡◌, ◌≢◌, ℕ, ◌+◌, ◌<◌, ◌≤◌, List, [], ◌∷◌, ◌++◌, Bool, true, false, cond, ◌==◌, ◌&&◌, ◌||◌, refl, sym, ap, ◌∙◌, arith, Option, Some, length}
use Rattle.std.specs.Prelude.{is_some}
use Rattle.std.proofs.lemmas.Bool.{false≢true}
use Rattle.protocol_model.specs.Sight.{Seen}
use Rattle.protocol_model.specs.Payload.{Message, Opens, Closes, Updates, Calls, Gone}
use Rattle.change_model.specs.Changes.{Sample}
use Rattle.connection_model.specs.Feed.{Past, Ticked, Sent, Item, tick_count, is_relevant_in}
use Rattle.connection_model.specs.Fates.{high_of, moved_of}
use Rattle.connection_model.specs.Bunches.{made_count, after_making}
use Rattle.connection_model.specs.State.{ActorState, Closed, Opening, Opened, Closing, Asleep, Mark, last_mark, state_of, index_of, holds_index, was_opened}
use Rattle.connection_model.specs.Carry.{carry_of}
use Rattle.connection_model.specs.Items.{last_service, is_open_made, is_update_of, kept_flush}
use Rattle.protocol_model.specs.Value.{Class}
use Rattle.connection_laws.proofs.ActorMarks.{SameArrivals, same_grows, state_same, index_same, marks}
use Rattle.sender_laws.specs.Acts.{IsAlike, MovesTo, are_sent}
use Rattle.sender_laws.specs.Items.{CarriesAwaited}
use Rattle.sender_laws.specs.Values.{AreAbove, tick_now}
use Rattle.sender_laws.specs.States.{is_pending, sleeps_actor, flush_seen}
use Rattle.sender_laws.proofs.Views.{mark_alike, count_alike, class_alike, flush_alike, arrivals_alike, ticks_alike, sight_alike, service_alike, carry_alike}
use Rattle.sender_laws.proofs.Makes.{mark_under, count_elsewhere, arrivals_under, opened_under, flush_under, ticks_under, sight_under, moved_under, service_elsewhere}
use Rattle.sender_laws.proofs.Ticks.{count_ticked}
use Rattle.sender_laws.proofs.Opens.{carry_elsewhere}
use Rattle.sender_laws.proofs.Sends as sends
use Rattle.sender_laws.proofs.Sends.{arrivals_sent, arrivals_begun, service_sent}
use Rattle.sender_laws.proofs.Fated.{moved_grows}
use Rattle.sender_records.specs.declared.life.Life.{Life}
use Rattle.sender_records.specs.declared.actor.ActorRecord.{ActorRecord}
use Rattle.sender_records.specs.Life.{state_value, KeepsLife}
use Rattle.sender_records.specs.Service.{KeepsService, shows_owned}
use Rattle.sender_records.specs.Handles.{HandlesKept, KeepsHandles, handle_in}
use Rattle.sender_records.specs.Actors.{KeepsActor, IsApart}
use Rattle.sender_records.proofs.LifeSteps.{held_index, pends_later, life_rests}
use Rattle.sender_records.proofs.ServiceSteps.{service_same, unshown_keeps}
use Rattle.sender_records.proofs.HandleSteps.{handle_same, sampled_keeps, handle_apart}

-- ---- the channel

-- where arrivals, the mark and what is made on its index stay, so does all that is kept
pub life_like : (past later : Past) (a : ℕ) (l : Life) → SameArrivals past later → last_mark later a ≡ last_mark past a
    → was_opened later a ≡ was_opened past a
    → kept_flush later a ≡ kept_flush past a
    → (is_pending (state_value l.state) ≡ true → (mark : Mark) → last_mark past a ≡ Some mark
    → made_count later mark.channel ≡ made_count past mark.channel)
    → KeepsLife past a l → KeepsLife later a l
life_like past later a l arrivals mark opened flush count h = record {
  state = h.state ∙ sym (state_same past later arrivals a mark);
  index = h.index ∙ sym (index_same past later arrivals a mark);
  opened = h.opened ∙ sym opened;
  flush = h.flush ∙ sym flush;
  pends = λ p. pends_later past later a l (same_grows past later arrivals) mark (count p) (h.pends p);
}

life_alike : (past later : Past) (a : ℕ) (l : Life) → IsAlike past later → KeepsLife past a l → KeepsLife later a l
life_alike past later a l h k =
    life_like past later a l (arrivals_alike past later h) (mark_alike past later h.done a)
    (ap (λ (o : Option Class). is_some o) (class_alike past later h.done a))
    (flush_alike past later h.done a) (λ p mark is. count_alike past later h.done mark.channel) k

-- so after a tick, a packet that begins, and one more item with an awaited bunch
pub life_ticked : (past : Past) (t : ℕ) (sight : List Seen) (a : ℕ) (l : Life) → KeepsLife past a l
    → KeepsLife (Ticked t sight ∷ past) a l
life_ticked past t sight a l k =
    life_like past (Ticked t sight ∷ past) a l (λ ch n. refl) refl refl refl (λ p mark is. refl) k

life_begun : (n t : ℕ) (past : Past) (a : ℕ) (l : Life) → KeepsLife past a l → KeepsLife (Sent n t [] ∷ past) a l
life_begun n t past a l k =
    life_like past (Sent n t [] ∷ past) a l (arrivals_begun n t past) refl refl refl (λ p mark is. refl) k

pub life_sent : (n t : ℕ) (items : List Item) (item : Item) (past : Past) (a : ℕ) (l : Life) → high_of past < n
    → CarriesAwaited (Sent n t items ∷ past) item
    → KeepsLife (Sent n t items ∷ past) a l → KeepsLife (Sent n t (items ++ item ∷ []) ∷ past) a l
life_sent n t items item past a l new awaited k =
    life_like (Sent n t items ∷ past) (Sent n t (items ++ item ∷ []) ∷ past) a l
    (arrivals_sent n t items item past new awaited) refl refl refl (λ p mark is. refl) k

not_of : (x : Bool) → (x && true) ≡ false → x ≡ false
not_of true e = e
not_of false e = refl

-- a message that isn't the actor's open, close or Gone opens nothing of it, and puts nothing to sleep
unmarked_open : (a : ℕ) (m : Message) → marks a m ≡ false → is_open_made a m ≡ false
unmarked_open a (Opens exports b class values) e = not_of (b == a) e
unmarked_open a (Closes b sleeps) e = refl
unmarked_open a (Updates b class values) e = refl
unmarked_open a (Calls b n call args) e = refl
unmarked_open a (Gone b) e = refl

unmarked_sleep : (a : ℕ) (m : Message) → marks a m ≡ false → sleeps_actor a m ≡ false
unmarked_sleep a (Closes b true) e = not_of (b == a) e
unmarked_sleep a (Closes b false) e = refl
unmarked_sleep a (Opens exports b class values) e = refl
unmarked_sleep a (Updates b class values) e = refl
unmarked_sleep a (Calls b n call args) e = refl
unmarked_sleep a (Gone b) e = refl

life_made : (sent past : Past) (ch : ℕ) (m : Message) (a : ℕ) (l : Life) → are_sent sent ≡ true → marks a m ≡ false
    → (is_pending (state_of (sent ++ past) a) ≡ true → index_of (sent ++ past) a ≢ Some ch)
    → KeepsLife (sent ++ past) a l → KeepsLife (sent ++ after_making past ch m) a l
life_made sent past ch m a l e unmarked apart k =
    life_like (sent ++ past) (sent ++ after_making past ch m) a l (arrivals_under sent past ch m)
    (mark_under sent past e ch m a ∙ ap (λ (b : Bool). cond b
    (Some (record { channel = ch; number = made_count past ch + 1; message = m })) (last_mark (sent ++ past) a))
    unmarked)
    (opened_under sent past e ch m a ∙ ap (λ (b : Bool). b || was_opened (sent ++ past) a) (unmarked_open a m unmarked))
    (flush_under sent past e ch m a ∙ ap (λ (b : Bool). cond b (flush_seen (sent ++ past) a)
    (kept_flush (sent ++ past) a)) (unmarked_sleep a m unmarked))
    (λ p mark is. count_elsewhere sent past e ch m mark.channel
    (λ q. apart (ap is_pending (sym k.state) ∙ p) (there mark is p
    ∙ ap (λ (n : ℕ). let o : Option ℕ = Some n in o) (sym q)))) k
  where
    pending_holds : (s : ActorState) → is_pending s ≡ true → holds_index s ≡ true
    pending_holds Opening p = refl
    pending_holds Closing p = refl
    pending_holds Closed p = absurd (false≢true p)
    pending_holds Opened p = absurd (false≢true p)
    pending_holds Asleep p = absurd (false≢true p)

    there : (mark : Mark) → last_mark (sent ++ past) a ≡ Some mark → is_pending (state_value l.state) ≡ true
        → index_of (sent ++ past) a ≡ Some mark.channel
    there mark is p =
        held_index (sent ++ past) a mark is
        (pending_holds (state_of (sent ++ past) a) (ap is_pending (sym k.state) ∙ p))

-- ---- the handles

-- where carries and moves stay, so does all that is kept
pub handles_like : (past later : Past) (samples : List Sample) (a : ℕ) (t : HandlesKept)
    → ((h : ℕ) → carry_of later a h ≡ carry_of past a h) → moved_of later ≡ moved_of past
    → tick_count past ≤ tick_count later → KeepsHandles past samples a t → KeepsHandles later samples a t
handles_like past later samples a t c m ticks k = record {
  each = λ h. handle_same past later samples a t.compared t.last h (handle_in t.handles h) (c h) m (k.each h);
  compared = k.compared;
  some = k.some;
  now = omega (arith, k.now, ticks);
}

-- ---- all

actor_like : (past later : Past) (samples : List Sample) (a : ℕ) (r : ActorRecord) → KeepsLife later a r.life
    → KeepsService later a r.service
    → ((h : ℕ) → carry_of later a h ≡ carry_of past a h) → moved_of later ≡ moved_of past
    → tick_count past ≤ tick_count later → KeepsActor past samples a r → KeepsActor later samples a r
actor_like past later samples a r life service c m ticks k = record {
  life = life;
  service = service;
  handles = λ o. handles_like past later samples a r.handles c m ticks (k.handles o);
}

-- what is heard, handed on or waits
pub actor_alike : (past later : Past) (samples : List Sample) (a : ℕ) (r : ActorRecord) → IsAlike past later
    → KeepsActor past samples a r → KeepsActor later samples a r
actor_alike past later samples a r h k =
    actor_like past later samples a r (life_alike past later a r.life h k.life)
    (service_same past later a r.service (ticks_alike past later h.done) (sight_alike past later h.done)
    (service_alike past later h.done a) k.service)
    (carry_alike past later h.done a) h.moved (omega (arith, ap length (ticks_alike past later h.done))) k

-- a tick whose sight shows it neither as relevant nor as owned
pub actor_unshown : (past : Past) (t : ℕ) (sight : List Seen) (samples : List Sample) (a : ℕ) (r : ActorRecord)
    → t ≡ tick_count past + 1
    → is_relevant_in sight a ≡ false → shows_owned sight a ≡ false → KeepsActor past samples a r
    → KeepsActor (Ticked t sight ∷ past) samples a r
actor_unshown past t sight samples a r now shown owned k =
    actor_like past (Ticked t sight ∷ past) samples a r (life_ticked past t sight a r.life k.life)
    (unshown_keeps past t sight a r.service k.service now shown owned)
    (λ h. refl) refl (omega (arith, count_ticked past t sight)) k

-- a packet that begins
pub actor_begun : (n t : ℕ) (past : Past) (samples : List Sample) (a : ℕ) (r : ActorRecord)
    → KeepsActor past samples a r → KeepsActor (Sent n t [] ∷ past) samples a r
actor_begun n t past samples a r k =
    actor_like past (Sent n t [] ∷ past) samples a r (life_begun n t past a r.life k.life)
    (service_same past (Sent n t [] ∷ past) a r.service refl refl refl k.service) (λ h. refl) refl (omega arith) k

-- an item that is no update of the actor
pub actor_sent : (n t : ℕ) (items : List Item) (item : Item) (past : Past) (samples : List Sample) (a : ℕ)
    (r : ActorRecord)
    → high_of past < n
    → CarriesAwaited (Sent n t items ∷ past) item → is_update_of a item ≡ false
    → KeepsActor (Sent n t items ∷ past) samples a r → KeepsActor (Sent n t (items ++ item ∷ []) ∷ past) samples a r
actor_sent n t items item past samples a r new awaited other k =
    actor_like (Sent n t items ∷ past) (Sent n t (items ++ item ∷ []) ∷ past) samples a r
    (life_sent n t items item past a r.life new awaited k.life)
    (service_same (Sent n t items ∷ past) (Sent n t (items ++ item ∷ []) ∷ past) a r.service refl refl
    (service_sent n t items item past a ∙ ap (λ (b : Bool). cond b (Some t) (last_service (Sent n t items ∷ past) a))
    other) k.service)
    (λ h. sends.carry_kept n t items item past a h other) refl (omega arith) k

-- a message that is made, and isn't the actor's open, close or Gone
pub actor_made : (sent past : Past) (ch : ℕ) (m : Message) (samples : List Sample) (a : ℕ) (r : ActorRecord)
    → are_sent sent ≡ true → marks a m ≡ false
    → (is_pending (state_of (sent ++ past) a) ≡ true → index_of (sent ++ past) a ≢ Some ch)
    → KeepsActor (sent ++ past) samples a r → KeepsActor (sent ++ after_making past ch m) samples a r
actor_made sent past ch m samples a r e unmarked apart k =
    actor_like (sent ++ past) (sent ++ after_making past ch m) samples a r
    (life_made sent past ch m a r.life e unmarked apart k.life)
    (service_same (sent ++ past) (sent ++ after_making past ch m) a r.service (ticks_under sent past ch m)
    (sight_under sent past ch m)
    (service_elsewhere sent past e ch m a (unmarked_open a m unmarked)) k.service)
    (λ h. carry_elsewhere sent past e ch m a h (unmarked_open a m unmarked)) (moved_under sent past ch m)
    (omega (arith, ap length (ticks_under sent past ch m))) k

-- later samples
pub actor_sampled : (past : Past) (later samples : List Sample) (a : ℕ) (r : ActorRecord)
    → AreAbove (tick_now samples) later → tick_now samples ≤ tick_now (later ++ samples)
    → KeepsActor past samples a r → KeepsActor past (later ++ samples) a r
actor_sampled past later samples a r above grows k = record {
  life = k.life;
  service = k.service;
  handles = λ o. (
      let t : KeepsHandles past samples a r.handles = k.handles o in
      record {
        each =
            λ h. sampled_keeps past later samples a r.handles.compared r.handles.last h (handle_in r.handles.handles h)
            (lower (tick_now samples) r.handles.compared later t.compared above) (t.each h);
        compared = omega (arith, t.compared, grows);
        some = t.some;
        now = t.now;
      });
}
  where
    lower : (m n : ℕ) (later : List Sample) → n ≤ m → AreAbove m later → AreAbove n later
    lower m n [] le h = tt
    lower m n (s ∷ later) le h = (omega (arith, le, h.0), lower m n later le h.1)

-- a move that none of its handles went in, and nothing of it is under way
pub actor_apart : (from to : ℕ) (past later : Past) (samples : List Sample) (a : ℕ) (r : ActorRecord)
    → MovesTo from to past later → is_pending (state_value r.life.state) ≡ false
    → IsApart from to r → KeepsActor past samples a r → KeepsActor later samples a r
actor_apart from to past later samples a r m rests apart k = record {
  life = life_rests past later a r.life k.life m.done (moved_grows from to past later m) rests;
  service =
      service_same past later a r.service (ticks_alike past later m.done) (sight_alike past later m.done)
      (service_alike past later m.done a) k.service;
  handles = λ o. (
      let t : KeepsHandles past samples a r.handles = k.handles o in
      record {
        each = λ h.
            handle_apart from to past later m samples a r.handles.compared r.handles.last h
            (handle_in r.handles.handles h) (apart o h) (t.each h);
        compared = t.compared;
        some = t.some;
        now = omega (arith, t.now, ap length (ticks_alike past later m.done));
      });
}
