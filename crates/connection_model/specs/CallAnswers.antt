-- What an end answers to a call of its own program, and what the call adds to its past.
-- The refusals are asked in one order, and the first that holds is the answer: Dead, NotOpen, NotOwner, WindowFull.
use Rattle.std.specs.Prelude.{ℕ, List, ◌∷◌, length, reverse, Bool, true, false, not, ◌&&◌, nat_lt, nat_le, Option, Some, None, filter_map, option_map, option_and_then, unwrap_or, if◌then◌else◌, pos}
use Rattle.std.specs.Ordering.{int_eq}
use Rattle.protocol_model.specs.Value.{Class, Call, Arg, goes_up, args_fit, call_at}
use Rattle.protocol_model.specs.declared.Way.{Way}
use Rattle.protocol_model.specs.declared.Way.TheVariants.{Client}
use Rattle.protocol_model.specs.Payload.{Message, Calls, parts_of}
use Rattle.protocol_model.specs.Side.{Side, AtServer, AtClient}
use Rattle.connection_model.specs.Feed.{Past, Deed, Waits, has_ended, sight_of, deeds_since_tick, seen_in}
use Rattle.protocol_model.specs.Sight.{Seen}
use Rattle.connection_model.specs.Bunches.{room, after_making}
use Rattle.connection_model.specs.State.{state_of, is_opened, index_of, opened_class}
use Rattle.connection_model.specs.Copies.{copy_class, copy_channel, copy_value}
use Rattle.std.specs.Bool.{then_some}
use Rattle.protocol_model.specs.Limits.{waiting_limit}
use Rattle.protocol_model.specs.declared.CallAnswer.{CallAnswer}
use Rattle.protocol_model.specs.declared.CallAnswer.TheVariants.{Queued, Dead, NotOpen, NotOwner, WindowFull}

-- the channel on which a call of the actor goes: where it is Opened at the server, where its copy has one at
-- the client
abbrev pub call_channel : Side → Past → (actor : ℕ) → Option ℕ
call_channel AtServer past a = if is_opened (state_of past a) then index_of past a else None
call_channel AtClient past a = copy_channel past a

-- the class by which a call is read
abbrev pub call_class : Side → Past → (actor : ℕ) → Option Class
call_class AtServer past a = opened_class past a
call_class AtClient past a = copy_class past a

-- a call of this way is made at this side
abbrev pub goes_from : Side → Way → Bool
goes_from AtServer way = not (goes_up way)
goes_from AtClient way = goes_up way

-- the class's call of that number, if it goes this way and the arguments fit it; of a call that doesn't fit the
-- answer is NotOpen, and the rules of scripts leave such calls out
abbrev pub fitting_call : Side → (number : ℕ) → List Arg → Class → Option Call
fitting_call side number args class =
    option_and_then (λ (call : Call). then_some (goes_from side call.way && args_fit call.args args) call)
    (call_at class number)

-- the call that is meant, by the class of the actor
abbrev pub call_of : Side → Past → (actor number : ℕ) → List Arg → Option Call
call_of side past a number args = option_and_then (fitting_call side number args) (call_class side past a)

-- the last sight shows the actor as owned
abbrev pub is_seen_owned : Past → ℕ → Bool
is_seen_owned past a = unwrap_or (option_map (λ (seen : Seen). seen.owns) (seen_in (sight_of past) a)) false

-- the call goes to the owner alone
abbrev pub is_to_owner : Way → Bool
is_to_owner Client = true
is_to_owner way = false

-- the player doesn't own the actor, where that is asked
abbrev pub is_not_owner : Side → Past → (actor : ℕ) → Call → Bool
is_not_owner AtServer past a call = is_to_owner call.way && not (is_seen_owned past a)
is_not_owner AtClient past a call = int_eq (copy_value past a 3) (pos 0)

-- the call that a deed left waiting
abbrev pub waits_in : Deed → Option Message
waits_in (Waits message) = Some message
waits_in deed = None

-- the unreliable calls that wait, in the order made
abbrev pub waiting_of : Past → List Message
waiting_of past = reverse (filter_map waits_in (deeds_since_tick past))

-- the parts don't fit into the room of the channel, or the most unreliable calls that may wait do wait
abbrev pub is_full : Past → (channel : ℕ) → (reliable : Bool) → Message → Bool
is_full past ch true message = nat_lt (room past ch) (parts_of message)
is_full past ch false message = nat_le waiting_limit (length (waiting_of past))

-- the answer where the end is alive, by the channel and the call that are meant; who owns the actor is asked
-- before room
abbrev pub answer_for : Side → Past → (actor number : ℕ) → List Arg → Option ℕ → Option Call → CallAnswer
answer_for side past a number args None call = NotOpen
answer_for side past a number args (Some ch) None = NotOpen
answer_for side past a number args (Some ch) (Some call) =
    if is_not_owner side past a call then NotOwner
    else if is_full past ch call.reliable (Calls a number call args) then WindowFull
    else Queued

-- the first refusal that holds, or Queued
abbrev pub answer_of : Side → Past → (actor number : ℕ) → List Arg → CallAnswer
answer_of side past a number args =
    if has_ended past then Dead
    else answer_for side past a number args (call_channel side past a) (call_of side past a number args)

-- the past with the call made, or waiting
abbrev pub queued_for : Past → (actor number : ℕ) → List Arg → Option ℕ → Option Call → Past
queued_for past a number args (Some ch) (Some call) =
    if call.reliable then after_making past ch (Calls a number call args)
    else Waits (Calls a number call args) ∷ past
queued_for past a number args (Some ch) None = past
queued_for past a number args None call = past

-- the past after a call with this answer: only a queued one changes it
abbrev pub after_answer : Side → Past → (actor number : ℕ) → List Arg → CallAnswer → Past
after_answer side past a number args Queued =
    queued_for past a number args (call_channel side past a) (call_of side past a number args)
after_answer side past a number args answer = past

-- a call that is queued is made, or waits
abbrev pub after_call : Side → Past → (actor number : ℕ) → List Arg → Past
after_call side past a number args = after_answer side past a number args (answer_of side past a number args)
