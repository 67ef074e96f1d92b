-- What a tick does: closes, packets within the budget, opens and updates, an empty packet, and the stall.
-- Items go in their order; after the first that finds no room nothing goes any more, so that the packets of a tick
-- hold a prefix of its items, the longest that budget and limits let through.
use Rattle.std.specs.Prelude.{ℕ, ◌+◌, ◌-◌, ◌*◌, ◌/◌, ◌%◌, List, [], ◌∷◌, ◌++◌, map, length, reverse, Bool, true, false, not, ◌&&◌, ◌||◌, nat_lt, nat_le, Option, Some, None, unwrap_or, if◌then◌else◌}
use Rattle.std.specs.List.{fold, flat_map, range_with_len, sum_by}
use Rattle.protocol_model.specs.Limits.{packet_bytes, packet_modulus, unresolved_limit}
use Rattle.protocol_model.specs.Value.{Pair}
use Rattle.protocol_model.specs.declared.Version.{Version}
use Rattle.protocol_model.specs.declared.Version.TheVariants.{One, Two}
use Rattle.protocol_model.specs.Packet.{Rec, Ack, Sends, Packet, rec_bits, start_bits}
use Rattle.protocol_model.specs.Payload.{Message, Closes, Gone, parts_of}
use Rattle.connection_model.specs.Feed.{End, Past, Deed, Ticked, Sent, Ended, ByStall, Item, Owed, Carries, Loose, has_ended, ticks_of, tick_count, sight_of, deeds_since_tick, seen_in, is_relevant_in}
use Rattle.protocol_model.specs.Sight.{Seen}
use Rattle.connection_model.specs.Fates.{last_sent, unresolved_count, taken_of, head_of}
use Rattle.connection_model.specs.Bunches.{made_count, room, made_bunch, after_making}
use Rattle.connection_model.specs.State.{state_of, is_open, is_opened, is_asleep, index_of, free_index, opened_actors}
use Rattle.connection_model.specs.Carry.{due_pairs}
use Rattle.connection_model.specs.Settled.{is_settled_as}
use Rattle.connection_model.specs.Items.{first_items, actors_by_score, wants_open, open_message, update_message, update_pairs, loose_item}
use Rattle.protocol_model.specs.Search.{newest_of, items_since}

-- ---- closes

-- how many ticks in a row, up to this one, didn't have the actor as relevant
abbrev pub idle_ticks : Past → ℕ → ℕ
idle_ticks past a = length (items_since (λ (tick : ℕ × List Seen). is_relevant_in tick.1 a) (ticks_of past))

-- the sight has an entry that passes
abbrev pub is_shown : (Seen → Bool) → Option Seen → Bool
is_shown test None = false
is_shown test (Some seen) = test seen

-- the message is made on the channel, if there is one with room for it
abbrev pub made_if_room : Past → Option ℕ → Message → Past
made_if_room past None message = past
made_if_room past (Some ch) message = if nat_lt 0 (room past ch) then after_making past ch message else past

-- a plain close, a dormant close or a Gone of the actor, or nothing
abbrev pub after_close : Past → ℕ → Past
after_close past a =
    let seen = seen_in (sight_of past) a in
    if is_open (state_of past a)
    && (is_shown (λ s. s.destroyed) seen || nat_le 5 (idle_ticks past a)) then made_if_room past (index_of past a)
    (Closes a false)
    else if is_shown (λ s. s.dormant && is_settled_as past s) seen then made_if_room past (index_of past a)
    (Closes a true)
    else if is_asleep (state_of past a)
    && is_shown (λ s. s.destroyed) seen then made_if_room past (Some 0) (Gone a)
    else past

-- of each actor that was ever opened, ascending
abbrev pub after_closes : Past → Past
after_closes past = fold after_close past (opened_actors past)

-- ---- packets

-- what was made by now, and the packets that this tick began, the newest first; `full` when an item found no
-- room
pub record Packing : Type 0 where
  pub past : Past
  pub packets : List (List Item)
  pub full : Bool

-- an item as it is spelled
abbrev pub rec_of : Item → Rec
rec_of (Owed number) = Ack (number % packet_modulus)
rec_of (Carries channel number bunch) = Sends bunch
rec_of (Loose message bunch) = Sends bunch

-- the packet of these items with this number
abbrev pub packet_carrying : End → Past → (number : ℕ) → List Item → Packet
packet_carrying end past number items =
    record { number = number % packet_modulus; head = head_of end.version past; recs = map rec_of items }

-- its bits without the end bit
abbrev pub packet_length : End → Past → List Item → ℕ
packet_length end past items =
    length
    (start_bits end.version 0 (head_of end.version past) ++ flat_map (λ item. rec_bits end.version (rec_of item)) items)

-- its bytes, the end bit included
abbrev pub packet_size : End → Past → List Item → ℕ
packet_size end past items = (packet_length end past items + 1 + 7) / 8

-- the current packet has room for the item
abbrev pub fits_current : End → Past → List (List Item) → Item → Bool
fits_current end past [] item = false
fits_current end past (current ∷ packets) item =
    nat_le (packet_length end past (current ++ item ∷ []) + 1) (8 * packet_bytes)

-- a packet may begin while the bits of those begun in this tick are below the budget, whatever its own size will be,
-- and while fewer packets are open than the limit
abbrev pub may_begin : End → Packing → Bool
may_begin end p =
    nat_lt (8 * sum_by (packet_size end p.past) p.packets) end.budget
    && nat_lt (unresolved_count p.past + length p.packets) unresolved_limit

-- the item would find room
abbrev pub has_room : End → Packing → Item → Bool
has_room end p item = fits_current end p.past p.packets item || may_begin end p

-- the packets with one more item, in the current packet or in a new one
abbrev pub items_with : List (List Item) → (in_current : Bool) → Item → List (List Item)
items_with (current ∷ packets) true item = (current ++ item ∷ []) ∷ packets
items_with packets in_current item = (item ∷ []) ∷ packets

-- the item goes into the current packet or into a new one; after the first that finds no room nothing is
-- offered
abbrev pub after_offer : End → Packing → Item → Packing
after_offer end p item =
    if p.full then p
    else if has_room end p item then record p
    { packets = items_with p.packets (fits_current end p.past p.packets item) item }
    else record p { full = true }

-- ---- opens and updates

-- the item that carries the i-th part of an open
abbrev pub part_item : (channel first : ℕ) → Message → (i : ℕ) → Item
part_item ch first message i = Carries ch (first + i) (made_bunch ch (first + i) message i)

-- an open is made where its first part finds room, and then its parts are offered; one with more parts than
-- room is passed over
abbrev pub after_open : End → Packing → (channel : ℕ) → Message → Packing
after_open end p ch message =
    let first = made_count p.past ch + 1 in
    if nat_lt (room p.past ch) (parts_of message) then p
    else if not (has_room end p (part_item ch first message 0)) then record p { full = true }
    else fold (after_offer end) (record p { past = after_making p.past ch message })
    (map (part_item ch first message) (range_with_len 0 (parts_of message)))

-- the longest prefix of the due handles, if some are due
abbrev pub after_update : End → Packing → Seen → Option ℕ → List Pair → Packing
after_update end p seen None due = p
after_update end p seen (Some ch) [] = p
after_update end p seen (Some ch) (pair ∷ due) =
    after_offer end p (loose_item (update_message seen (update_pairs seen (pair ∷ due))) ch)

-- the open or the update of an actor
abbrev pub after_actor : End → Packing → Seen → Packing
after_actor end p seen =
    if p.full then p
    else if wants_open p.past seen then after_open end p (free_index p.past) (open_message p.past seen)
    else if is_opened (state_of p.past seen.actor) then after_update end p seen (index_of p.past seen.actor)
    (due_pairs p.past seen)
    else p

-- the items in their order, as far as they are let through
abbrev pub packing_of : End → (before now : Past) → Packing
packing_of end before now =
    fold (after_actor end) (fold (after_offer end) (record {
      past = now;
      packets = [];
      full = false;
    }) (first_items end before now)) (actors_by_score now)

-- ---- the tick

-- the tick in which a deed sent a packet
abbrev pub last_packet_in : Deed → Option ℕ
last_packet_in (Sent number t items) = Some t
last_packet_in deed = None

-- a packet is open and the last one was sent 8 ticks ago or more
abbrev pub is_silent : Past → Bool
is_silent past =
    nat_le 1 (unresolved_count past) && nat_le 8 (tick_count past - unwrap_or (newest_of last_packet_in past) 0)

-- in version Two a packet that was taken since the last tick is answered
abbrev pub owes_head : Version → (before : Past) → Bool
owes_head One before = false
owes_head Two before = nat_lt 0 (length (taken_of (deeds_since_tick before)))

-- the packets that are sent, oldest first: those packed, or an empty one where one is called for
abbrev pub packets_to_send : End → (before : Past) → Packing → List (List Item)
packets_to_send end before p =
    if nat_lt 0 (length p.packets) then reverse p.packets
    else if owes_head end.version before || is_silent p.past then [] ∷ []
    else []

-- the past with one more packet sent
abbrev pub after_sending : Past → List Item → Past
after_sending past items = Sent (last_sent past + 1) (tick_count past) items ∷ past

-- as many open packets as the limit end the end
abbrev pub after_stall : Past → Past
after_stall past = if nat_le unresolved_limit (unresolved_count past) then Ended ByStall ∷ past else past

-- the past with this tick's packets, and with the stall where one comes
abbrev pub after_packing : End → (before : Past) → Packing → Past
after_packing end before p = after_stall (fold after_sending p.past (packets_to_send end before p))

-- what a tick adds to the past of an end that is alive
abbrev pub after_tick : End → Past → List Seen → Past
after_tick end past sight =
    if has_ended past then past
    else after_packing end past (packing_of end past (after_closes (Ticked (tick_count past + 1) sight ∷ past)))
