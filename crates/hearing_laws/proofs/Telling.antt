-- Ticks and calls tell no entry.
use Rattle.std.proofs.Common.{◌≡◌, ℕ, ◌+◌, List, [], ◌∷◌, Bool, true, false, cond, not, ◌&&◌, ◌||◌, nat_lt, nat_le, map, Option, Some, None, refl, ◌∙◌}
use Rattle.std.specs.List.{fold, range_with_len}
use Rattle.protocol_model.specs.Value.{Arg, Call, Pair}
use Rattle.protocol_model.specs.Side.{Side}
use Rattle.protocol_model.specs.Sight.{Seen}
use Rattle.protocol_model.specs.Payload.{Message, Closes, Calls, Gone, parts_of}
use Rattle.protocol_model.specs.declared.CallAnswer.{CallAnswer}
use Rattle.protocol_model.specs.declared.CallAnswer.TheVariants.{Queued, Dead, NotOpen, NotOwner, WindowFull}
use Rattle.connection_model.specs.Feed.{End, Past, Ticked, Made, Waits, Ended, ByStall, Item, has_ended, tick_count, seen_in, sight_of}
use Rattle.connection_model.specs.Bunches.{after_making, made_count, room}
use Rattle.connection_model.specs.Fates.{entries_of, unresolved_count}
use Rattle.connection_model.specs.State.{state_of, is_open, is_asleep, is_opened, index_of, free_index, opened_actors}
use Rattle.connection_model.specs.Settled.{is_settled_as}
use Rattle.connection_model.specs.Carry.{due_pairs}
use Rattle.connection_model.specs.Items.{first_items, actors_by_score, wants_open, open_message, update_message, update_pairs, loose_item}
use Rattle.connection_model.specs.CallAnswers.{queued_for, after_answer, after_call, answer_of, call_channel, call_of}
use Rattle.connection_model.specs.Pack.{idle_ticks, is_shown, part_item, has_room, fits_current, items_with, packets_to_send, made_if_room, after_close, after_closes, Packing, after_offer, after_open, after_update, after_actor, packing_of, after_sending, after_stall, after_tick}

-- the same entries were told
record Same (p r : Past) : Type 0 where
  pub is : entries_of p ≡ entries_of r

none : (p : Past) → Same p p
none p = record { is = refl }

then : {p q r : Past} → Same p q → Same q r → Same p r
then a b = record { is = a.is ∙ b.is }

same_if : (b : Bool) (p q r : Past) → Same p r → Same q r → Same (cond b p q) r
same_if true p q r e f = e
same_if false p q r e f = f

fold_same : {A : Type 0} (f : Past → A → Past) (p : Past) (xs : List A) → ((p : Past) (x : A) → Same (f p x) p)
    → Same (fold f p xs) p
fold_same f p [] e = none p
fold_same f p (x ∷ xs) e = then (fold_same f (f p x) xs e) (e p x)

-- making a message tells none
making_same : (p : Past) (ch : ℕ) (message : Message) → Same (after_making p ch message) p
making_same p ch message = fold_same (λ (before : Past) (i : ℕ). Made ch (made_count p ch + 1 + i) message i ∷ before)
    p (range_with_len 0 (parts_of message)) (λ q i. record { is = refl })

room_same : (p : Past) (o : Option ℕ) (message : Message) → Same (made_if_room p o message) p
room_same p None message = none p
room_same p (Some ch) message = same_if (nat_lt 0 (room p ch)) (after_making p ch message) p p
    (making_same p ch message) (none p)

close_by : (p : Past) (x y z : Bool) (a b c : Option ℕ) (one two three : Message)
    → Same (cond x (made_if_room p a one) (cond y (made_if_room p b two) (cond z (made_if_room p c three) p))) p
close_by p true y z a b c one two three = room_same p a one
close_by p false true z a b c one two three = room_same p b two
close_by p false false true a b c one two three = room_same p c three
close_by p false false false a b c one two three = none p

-- nor does a close
close_same : (p : Past) (a : ℕ) → Same (after_close p a) p
close_same p a =
    let seen : Option Seen = seen_in (sight_of p) a in
    close_by p (is_open (state_of p a) && (is_shown (λ s. s.destroyed) seen || nat_le 5 (idle_ticks p a)))
    (is_shown (λ s. s.dormant && is_settled_as p s) seen)
    (is_asleep (state_of p a) && is_shown (λ s. s.destroyed) seen)
    (index_of p a) (index_of p a) (Some 0) (Closes a false) (Closes a true) (Gone a)

-- ---- packing

record SamePast (p r : Packing) : Type 0 where
  pub is : entries_of p.past ≡ entries_of r.past

still : (p : Packing) → SamePast p p
still p = record { is = refl }

if_packing : (b : Bool) (p q r : Packing) → SamePast p r → SamePast q r → SamePast (cond b p q) r
if_packing true p q r e f = e
if_packing false p q r e f = f

fold_packing : {A : Type 0} (f : Packing → A → Packing) (p : Packing) (xs : List A)
    → ((p : Packing) (x : A) → SamePast (f p x) p) → SamePast (fold f p xs) p
fold_packing f p [] e = still p
fold_packing f p (x ∷ xs) e = record { is = (fold_packing f (f p x) xs e).is ∙ (e p x).is }

-- nor does an item that is offered
offer_same : (end : End) (p : Packing) (item : Item) → SamePast (after_offer end p item) p
offer_same end p item = if_packing p.full p (cond (has_room end p item)
    (record p { packets = items_with p.packets (fits_current end p.past p.packets item) item })
    (record p { full = true })) p (still p)
    (if_packing (has_room end p item) (record p {
      packets = items_with p.packets
          (fits_current end p.past p.packets item) item;
    }) (record p { full = true }) p (record { is = refl })
    (record { is = refl }))

open_same : (end : End) (p : Packing) (ch : ℕ) (message : Message) → SamePast (after_open end p ch message) p
open_same end p ch message =
    let parts : Packing = fold (after_offer end) (record p { past = after_making p.past ch message })
    (map (part_item ch (made_count p.past ch + 1) message) (range_with_len 0 (parts_of message))) in
    let full : Packing = record p { full = true } in
    if_packing (nat_lt (room p.past ch) (parts_of message)) p
    (cond (not (has_room end p (part_item ch (made_count p.past ch + 1) message 0))) full parts) p (still p)
    (if_packing (not (has_room end p (part_item ch (made_count p.past ch + 1) message 0))) full parts p
    (record { is = refl })
    (record {
      is = (fold_packing (after_offer end) (record p { past = after_making p.past ch message })
          (map (part_item ch (made_count p.past ch + 1) message) (range_with_len 0 (parts_of message)))
          (offer_same end)).is ∙ (making_same p.past ch message).is;
    }))

update_same : (end : End) (p : Packing) (seen : Seen) (o : Option ℕ) (due : List Pair)
    → SamePast (after_update end p seen o due) p
update_same end p seen None due = still p
update_same end p seen (Some ch) [] = still p
update_same end p seen (Some ch) (pair ∷ due) = offer_same end p
    (loose_item (update_message seen (update_pairs seen (pair ∷ due))) ch)

-- nor does an actor's turn
actor_same : (end : End) (p : Packing) (seen : Seen) → SamePast (after_actor end p seen) p
actor_same end p seen =
    let opened : Packing = after_open end p (free_index p.past) (open_message p.past seen) in
    let updated : Packing = after_update end p seen (index_of p.past seen.actor) (due_pairs p.past seen) in
    let rest : Packing = cond (is_opened (state_of p.past seen.actor)) updated p in
    if_packing p.full p (cond (wants_open p.past seen) opened rest) p (still p)
    (if_packing (wants_open p.past seen) opened rest p (open_same end p (free_index p.past) (open_message p.past seen))
    (if_packing (is_opened (state_of p.past seen.actor)) updated p p
    (update_same end p seen (index_of p.past seen.actor) (due_pairs p.past seen)) (still p)))

-- nor does packing
packing_same : (end : End) (before now : Past) → entries_of (packing_of end before now).past ≡ entries_of now
packing_same end before now =
    let first : Packing = record { past = now; packets = []; full = false } in
    (fold_packing (after_actor end) (fold (after_offer end) first (first_items end before now)) (actors_by_score now)
    (actor_same end)).is
    ∙ (fold_packing (after_offer end) first (first_items end before now) (offer_same end)).is

-- nor does a stall
stall_same : (p : Past) → Same (after_stall p) p
stall_same p = same_if (nat_le 4096 (unresolved_count p)) (Ended ByStall ∷ p) p p (record { is = refl }) (none p)

-- a tick tells no entry
pub tick_same : (end : End) (p : Past) (sight : List Seen) → entries_of (after_tick end p sight) ≡ entries_of p
tick_same end p sight =
    let now : Past = Ticked (tick_count p + 1) sight ∷ p in
    let closed : Past = after_closes now in
    let packing : Packing = packing_of end p closed in
    let sent : Past = fold after_sending packing.past (packets_to_send end p packing) in
    let sent_same : entries_of sent ≡ entries_of packing.past =
    (fold_same after_sending packing.past (packets_to_send end p packing) (λ q items. record { is = refl })).is in
    let closed_same : entries_of closed ≡ entries_of now = (fold_same after_close now
    (opened_actors now) close_same).is in
    (same_if (has_ended p) p (after_stall sent) p (none p) (record {
      is = (stall_same sent).is ∙ sent_same
          ∙ packing_same end p closed ∙ closed_same;
    })).is

-- nor does a call that is queued
queued_same : (p : Past) (a number : ℕ) (args : List Arg) (o : Option ℕ) (call : Option Call)
    → entries_of (queued_for p a number args o call) ≡ entries_of p
queued_same p a number args (Some ch) (Some call) = (same_if call.reliable
    (after_making p ch (Calls a number call args)) (Waits (Calls a number call args) ∷ p) p
    (making_same p ch (Calls a number call args)) (record { is = refl })).is
queued_same p a number args (Some ch) None = refl
queued_same p a number args None call = refl

-- nor does its answer
answer_same : (side : Side) (p : Past) (a number : ℕ) (args : List Arg) (answer : CallAnswer)
    → entries_of (after_answer side p a number args answer) ≡ entries_of p
answer_same side p a number args Queued = queued_same p a number args (call_channel side p a)
    (call_of side p a number args)
answer_same side p a number args Dead = refl
answer_same side p a number args NotOpen = refl
answer_same side p a number args NotOwner = refl
answer_same side p a number args WindowFull = refl

-- nor does a call that is made
pub call_same : (side : Side) (p : Past) (a number : ℕ) (args : List Arg)
    → entries_of (after_call side p a number args) ≡ entries_of p
call_same side p a number args = answer_same side p a number args (answer_of side p a number args)
