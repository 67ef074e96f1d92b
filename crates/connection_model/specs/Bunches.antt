-- The reliable bunches that an end made on each index, and which of them have arrived.
-- A bunch is due again as soon as the packet that last carried it is lost.
use Rattle.std.specs.Prelude.{ℕ, ◌+◌, ◌-◌, ◌%◌, ◌==◌, List, [], ◌∷◌, min, Bool, true, false, ◌&&◌, not, Option, Some, None, filter_map, sum_by, if◌then◌else◌}
use Rattle.std.specs.List.{list_any, list_all, range_with_len, fold}
use Rattle.protocol_model.specs.Packet.{Bunch}
use Rattle.protocol_model.specs.Payload.{Message, Opens, Closes, message_bits, part_at, piece_at, parts_of}
use Rattle.connection_model.specs.Feed.{Past, Deed, Made, Sent, Item, Carries}
use Rattle.protocol_model.specs.declared.Fate.{Fate}
use Rattle.connection_model.specs.Fates.{fate_of, is_arrived, is_lost}
use Rattle.std.specs.Bool.{then_some}
use Rattle.protocol_model.specs.Limits.{sequence_modulus, span_limit, span_sum_limit}
use Rattle.protocol_model.specs.Search.{newest_of, greatest_of, least_from, ascending_numbers}

-- ---- the list made

-- the number that a deed made on the index
abbrev pub made_on : ℕ → Deed → Option ℕ
made_on ch (Made channel number message i) = then_some (channel == ch) number
made_on ch deed = None

-- how many bunches were made on the index, over all its uses; they are numbered from 1
abbrev pub made_count : Past → ℕ → ℕ
made_count past ch = greatest_of (filter_map (made_on ch) past)

-- the index on which a deed made a bunch
abbrev pub channel_in : Deed → Option ℕ
channel_in (Made channel number message i) = Some channel
channel_in deed = None

-- each index on which a bunch was made, ascending
abbrev pub channels_of : Past → List ℕ
channels_of past = ascending_numbers (filter_map channel_in past)

-- ---- what arrived

-- the item carries that bunch
abbrev pub is_carried_as : (channel number : ℕ) → Item → Bool
is_carried_as ch n (Carries channel number bunch) = channel == ch && number == n
is_carried_as ch n item = false

-- the packet of a deed that carried the bunch
abbrev pub carrier_in : (channel number : ℕ) → Deed → Option ℕ
carrier_in ch n (Sent number t items) = then_some (list_any (is_carried_as ch n) items) number
carrier_in ch n deed = None

-- the packet that last carried the bunch
abbrev pub carrier_of : Past → (channel number : ℕ) → Option ℕ
carrier_of past ch n = newest_of (carrier_in ch n) past

-- the fate of a packet, if there is one
abbrev pub option_fate : Past → Option ℕ → Option Fate
option_fate past None = None
option_fate past (Some packet) = Some (fate_of past packet)

-- the packet is there, and has arrived
abbrev pub shows_arrival : Option Fate → Bool
shows_arrival None = false
shows_arrival (Some fate) = is_arrived fate

-- there is no packet, or it is lost
abbrev pub shows_need : Option Fate → Bool
shows_need None = true
shows_need (Some fate) = is_lost fate

-- the packet that last carried the bunch has arrived
abbrev pub has_arrived : Past → (channel number : ℕ) → Bool
has_arrived past ch n = shows_arrival (option_fate past (carrier_of past ch n))

-- the bunch was never carried, or the packet that last carried it is lost
abbrev pub is_due : Past → (channel number : ℕ) → Bool
is_due past ch n = shows_need (option_fate past (carrier_of past ch n))

-- the `count` bunches from the number `from` on have arrived
abbrev pub have_arrived : Past → (channel from count : ℕ) → Bool
have_arrived past ch from count = list_all (has_arrived past ch) (range_with_len from count)

-- ---- span and room

-- the least number that hasn't arrived; the next number where all have
abbrev pub least_unarrived : Past → ℕ → ℕ
least_unarrived past ch = least_from (λ n. not (has_arrived past ch n)) (made_count past ch) 1

-- the next number less the least that hasn't arrived
abbrev pub span : Past → ℕ → ℕ
span past ch = made_count past ch + 1 - least_unarrived past ch

-- the sum of the spans of all indexes
abbrev pub span_sum : Past → ℕ
span_sum past = sum_by (span past) (channels_of past)

-- how many bunches can be made on the index
abbrev pub room : Past → ℕ → ℕ
room past ch = min (span_limit - span past ch) (span_sum_limit - span_sum past)

-- ---- making bunches

-- the message is an open
abbrev pub is_opening : Message → Bool
is_opening (Opens exports actor class values) = true
is_opening message = false

-- the message is a close
abbrev pub is_closing : Message → Bool
is_closing (Closes actor sleeps) = true
is_closing message = false

-- the message is a dormant close
abbrev pub is_sleeping : Message → Bool
is_sleeping (Closes actor sleeps) = sleeps
is_sleeping message = false

-- the message is an open that exports segments
abbrev pub has_exports : Message → Bool
has_exports (Opens [] actor class values) = false
has_exports (Opens (s ∷ exports) actor class values) = true
has_exports message = false

-- the i-th part of a reliable message as it goes into a packet; open and exports stand on the first alone
abbrev pub made_bunch : (channel number : ℕ) → Message → (i : ℕ) → Bunch
made_bunch ch n message i = record {
  opens = is_opening message
      && i == 0;
  closes = is_closing message;
  sleeps = is_sleeping message;
  reliable = true;
  channel = ch;
  exports = has_exports message && i == 0;
  part = part_at (parts_of message) i;
  seq = n % sequence_modulus;
  kind = if ch == 0 then 1 else 2;
  payload = piece_at (message_bits message) i;
}

-- the past with all parts of the message made
abbrev pub after_making : Past → (channel : ℕ) → Message → Past
after_making past ch message =
    fold (λ (before : Past) (i : ℕ). Made ch (made_count past ch + 1 + i) message i ∷ before) past
    (range_with_len 0 (parts_of message))
