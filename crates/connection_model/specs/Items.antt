-- What a tick offers for sending, and in which order: acknowledgements, due bunches, calls that waited, and then
-- the actors by score, each with its open or its update.
use Rattle.std.specs.Prelude.{ℕ, ◌-◌, ◌*◌, ◌==◌, List, [], ◌∷◌, ◌++◌, map, length, min, Bool, true, false, not, ◌&&◌, ◌||◌, nat_lt, nat_le, Option, Some, None, filter, filter_map, option_map, unwrap_or, if◌then◌else◌}
use Rattle.std.specs.List.{list_any, flat_map, range_with_len}
use Rattle.protocol_model.specs.Value.{Pair}
use Rattle.protocol_model.specs.Packet.{Bunch}
use Rattle.protocol_model.specs.declared.Part.TheVariants.{Whole}
use Rattle.protocol_model.specs.Payload.{Message, Opens, Closes, Updates, actor_of, message_bits}
use Rattle.connection_model.specs.Feed.{End, Past, Deed, Made, Sent, Item, Owed, Carries, Loose, ticks_of, tick_count, sight_of, seen_in, is_relevant_in}
use Rattle.protocol_model.specs.Side.{Side}
use Rattle.protocol_model.specs.Sight.{Seen}
use Rattle.connection_model.specs.Fates.{owed_of}
use Rattle.connection_model.specs.Bunches.{channels_of, made_count, is_due, made_bunch, is_opening}
use Rattle.connection_model.specs.State.{state_of, is_closed, is_asleep}
use Rattle.connection_model.specs.Exports.{needed_segments}
use Rattle.connection_model.specs.CallAnswers.{call_channel, waiting_of}
use Rattle.std.specs.Bool.{then_some}
use Rattle.protocol_model.specs.Limits.{update_bits}
use Rattle.protocol_model.specs.Search.{newest_of, oldest_of, longest_prefix, in_order}

-- ---- reliable bunches

-- the bunch that a deed made with that number
abbrev pub made_as : (channel number : ℕ) → Deed → Option Bunch
made_as ch n (Made channel number message i) =
    then_some (channel == ch && number == n) (made_bunch channel number message i)
made_as ch n deed = None

-- the item that carries the bunch
abbrev pub carrying_item : Past → (channel number : ℕ) → Option Item
carrying_item past ch n = option_map (λ (bunch : Bunch). Carries ch n bunch) (newest_of (made_as ch n) past)

-- the due bunches of a channel, by number
abbrev pub due_on : Past → ℕ → List Item
due_on past ch =
    filter_map (carrying_item past ch) (filter (is_due past ch) (range_with_len 1 (made_count past ch)))

-- all due bunches by channel, then number
abbrev pub due_items : Past → List Item
due_items past = flat_map (due_on past) (channels_of past)

-- ---- unreliable bunches

-- the unreliable bunch of a message
abbrev pub loose_bunch : (channel : ℕ) → Message → Bunch
loose_bunch ch message = record {
  opens = false;
  closes = false;
  sleeps = false;
  reliable = false;
  channel = ch;
  exports = false;
  part = Whole;
  seq = 0;
  kind = 0;
  payload = message_bits message;
}

-- an unreliable message on a channel
abbrev pub loose_item : Message → ℕ → Item
loose_item message ch = Loose message (loose_bunch ch message)

-- an unreliable call is an item where its actor has an open channel
abbrev pub call_item : Side → Past → Message → Option Item
call_item side past message = option_map (loose_item message) (call_channel side past (actor_of message))

-- what comes before the actors: acknowledgements, due bunches, and the calls that waited before the tick
abbrev pub first_items : End → (before now : Past) → List Item
first_items end before now =
    map Owed (owed_of end.version before) ++ due_items now
    ++ filter_map (call_item end.side now) (waiting_of before)

-- ---- actors by score

-- the message opens the actor
abbrev pub is_open_made : ℕ → Message → Bool
is_open_made a message = is_opening message && actor_of message == a

-- the item is an update of the actor
abbrev pub is_update_of : ℕ → Item → Bool
is_update_of a (Loose (Updates actor class values) bunch) = actor == a
is_update_of a item = false

-- the tick in which the actor's open was last made, or its update last packed
abbrev pub last_service : Past → ℕ → Option ℕ
last_service [] a = None
last_service (Made channel number message i ∷ past) a =
    if is_open_made a message then Some (tick_count past) else last_service past a
last_service (Sent number t items ∷ past) a =
    if list_any (is_update_of a) items then Some t else last_service past a
last_service (deed ∷ past) a = last_service past a

-- the tick, if its sight has the actor as relevant
abbrev pub shown_in : ℕ → ℕ × List Seen → Option ℕ
shown_in a tick = then_some (is_relevant_in tick.1 a) tick.0

-- the first tick whose sight has the actor
abbrev pub first_sight : Past → ℕ → ℕ
first_sight past a = unwrap_or (oldest_of (shown_in a) (ticks_of past)) 1

-- the priority times the ticks since the last service, or since the tick before the first sight, at most 65,535
abbrev pub score_of : Past → Seen → ℕ
score_of past seen =
    seen.class.priority * min
    (tick_count past - unwrap_or (last_service past seen.actor) (first_sight past seen.actor - 1)) 65535

-- the greater score comes first, ties by lower guid
abbrev pub goes_before : (ℕ × Seen) → (ℕ × Seen) → Bool
goes_before one other = nat_lt other.0 one.0 || (other.0 == one.0 && nat_lt one.1.actor other.1.actor)

-- the relevant actors of the tick's sight, each with its score
abbrev pub scored_actors : Past → List (ℕ × Seen)
scored_actors past =
    map (λ (seen : Seen). (score_of past seen, seen)) (filter (λ (seen : Seen). seen.relevant) (sight_of past))

-- the relevant actors of the tick's sight by score
abbrev pub actors_by_score : Past → List Seen
actors_by_score past = map (λ (scored : ℕ × Seen). scored.1) (in_order goes_before (scored_actors past))

-- ---- an actor's open or update

-- the flush number that the actor had when its last dormant close was made
abbrev pub kept_flush : Past → ℕ → Option ℕ
kept_flush [] a = None
kept_flush (Made channel number (Closes actor true) i ∷ past) a =
    if actor == a then option_map (λ (seen : Seen). seen.flush) (seen_in (sight_of past) a) else kept_flush past a
kept_flush (deed ∷ past) a = kept_flush past a

-- the flush number is the one kept at the last dormant close
abbrev pub is_kept : Past → Seen → Bool
is_kept past seen = unwrap_or (option_map (λ flush. flush == seen.flush) (kept_flush past seen.actor)) false

-- asleep, and dormant with the flush number that was kept
abbrev pub is_quiet : Past → Seen → Bool
is_quiet past seen = is_asleep (state_of past seen.actor) && seen.dormant && is_kept past seen

-- a relevant actor in this state is opened
abbrev pub wants_open : Past → Seen → Bool
wants_open past seen =
    is_closed (state_of past seen.actor) || (is_asleep (state_of past seen.actor) && not (is_quiet past seen))

-- the open: the segments that are needed, and all visible handles
abbrev pub open_message : Past → Seen → Message
open_message past seen = Opens (needed_segments past seen.class) seen.actor seen.class seen.values

-- an update with these handles
abbrev pub update_message : Seen → List Pair → Message
update_message seen pairs = Updates seen.actor seen.class pairs

-- the longest prefix of the due handles whose payload has at most 6,000 bits
abbrev pub update_pairs : Seen → List Pair → List Pair
update_pairs seen due =
    longest_prefix (λ pairs. nat_le (length (message_bits (update_message seen pairs))) update_bits) (length due) due
