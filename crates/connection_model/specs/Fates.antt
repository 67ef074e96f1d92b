-- Numbers of packets: which an end took, which acknowledgements it owes, and what became of those that it sent.
-- A packet that was sent is open until a greater or the same number is named, and then arrived or lost for good.
use Rattle.std.specs.Prelude.{ℕ, ◌-◌, ◌*◌, ◌==◌, ◌%◌, List, [], ◌∷◌, ◌++◌, map, take, reverse, Bool, true, false, nat_lt, nat_le, Option, Some, None, filter_map, if◌then◌else◌, ℤ, pos, negsuc, ◌-ℤ◌, int_lt}
use Rattle.std.specs.List.{flat_map, range_with_len}
use Rattle.protocol_model.specs.Bits.{near, fixed_bits, number_of}
use Rattle.protocol_model.specs.declared.Version.{Version}
use Rattle.protocol_model.specs.declared.Version.TheVariants.{One, Two}
use Rattle.protocol_model.specs.Packet.{Head}
use Rattle.connection_model.specs.Feed.{Past, Deed, Sent, Took, Entry, Told, Acked, Heard, deeds_since_tick}
use Rattle.std.specs.Bool.{then_some}
use Rattle.protocol_model.specs.Limits.{owed_limit, packet_modulus}
use Rattle.protocol_model.specs.Search.{is_among, greatest_of, least_from}
use Rattle.protocol_model.specs.declared.Fate.{Fate}
use Rattle.protocol_model.specs.declared.Fate.TheVariants.{Open, Arrived, Lost}

-- ---- what was taken

-- the number that a deed took
abbrev pub taken_in : Deed → Option ℕ
taken_in (Took number entries handed) = Some number
taken_in deed = None

-- the numbers taken, the newest first
abbrev pub taken_of : Past → List ℕ
taken_of past = filter_map taken_in past

-- the greatest number taken, 0 at first
abbrev pub top_of : Past → ℕ
top_of past = greatest_of (taken_of past)

-- a received packet's number: of those with the same residue the one nearest to the greatest taken
abbrev pub number_near : Past → ℕ → ℤ
number_near past n = near n (pos (top_of past)) packet_modulus

-- a packet is taken if its number is above the greatest taken
abbrev pub is_new : Past → ℕ → Bool
is_new past n = int_lt (pos (top_of past)) (number_near past n)

-- the numbers owed an acknowledgement: of those taken since the last tick the newest, at most the limit, oldest first
abbrev pub owed_of : Version → Past → List ℕ
owed_of One past = reverse (take owed_limit (taken_of (deeds_since_tick past)))
owed_of Two past = []

-- ---- what was moved

-- the entries that a deed took, the newest first
abbrev pub entries_in : Deed → List Entry
entries_in (Took number entries handed) = entries
entries_in deed = []

-- each entry taken, the newest first
abbrev pub entries_of : Past → List Entry
entries_of past = flat_map entries_in past

-- a, a - 1, a - 2, .. where the history's bit is 1
abbrev pub named_numbers : ℤ → List Bool → List ℤ
named_numbers a [] = []
named_numbers a (true ∷ bits) = a ∷ named_numbers (a -ℤ pos 1) bits
named_numbers a (false ∷ bits) = named_numbers (a -ℤ pos 1) bits

-- the bits of a head's history
abbrev pub history_of : Head → List Bool
history_of head = flat_map (λ word. fixed_bits 32 word) head.words

-- the numbers that an entry names, descending, where `high` is the greatest moved before
abbrev pub named_by : Entry → (high : ℕ) → List ℤ
named_by (Acked number) high = near number (pos high) packet_modulus ∷ []
named_by (Told head) high = named_numbers (near head.top (pos high) packet_modulus) (history_of head)
named_by (Heard bunch) high = []

-- the number, if it is above high
abbrev pub number_above : ℕ → ℤ → Option ℕ
number_above high (pos n) = then_some (nat_lt high n) n
number_above high (negsuc n) = None

-- the numbers moved by these entries: each named number that is above the greatest moved before its entry
abbrev pub moved_by : List Entry → List ℕ
moved_by [] = []
moved_by (entry ∷ entries) =
    let before = moved_by entries in
    filter_map (number_above (greatest_of before)) (named_by entry (greatest_of before)) ++ before

-- the numbers moved so far, the newest first
abbrev pub moved_of : Past → List ℕ
moved_of past = moved_by (entries_of past)

-- the greatest moved number, 0 at first
abbrev pub high_of : Past → ℕ
high_of past = greatest_of (moved_of past)

-- ---- what became of the packets sent

-- the number of the packet that a deed sent
abbrev pub sent_in : Deed → Option ℕ
sent_in (Sent number t items) = Some number
sent_in deed = None

-- the number of the last packet sent, 0 at first
abbrev pub last_sent : Past → ℕ
last_sent past = greatest_of (filter_map sent_in past)

-- of a packet that was sent: nothing is known above the greatest moved number
abbrev pub fate_of : Past → ℕ → Fate
fate_of past n = if nat_lt (high_of past) n then Open else if is_among n (moved_of past) then Arrived else Lost

-- the packet arrived
abbrev pub is_arrived : Fate → Bool
is_arrived Arrived = true
is_arrived Open = false
is_arrived Lost = false

-- the packet is lost
abbrev pub is_lost : Fate → Bool
is_lost Lost = true
is_lost Open = false
is_lost Arrived = false

-- how many packets have an open fate
abbrev pub unresolved_count : Past → ℕ
unresolved_count past = last_sent past - high_of past

-- ---- the head that tells what was taken

-- the greatest number taken when packet n was sent, 0 where it wasn't
abbrev pub top_when : Past → ℕ → ℕ
top_when [] n = 0
top_when (Sent number t items ∷ past) n = if number == n then top_of past else top_when past n
top_when (deed ∷ past) n = top_when past n

-- the least w from 1 to 8 with 32 * w >= top - base, or else 8; base is the top told in the greatest arrived
-- packet
abbrev pub word_count : Past → ℕ
word_count past = least_from (λ w. nat_le (top_of past - top_when past (high_of past)) (32 * w)) 7 1

-- 32 bits of history, from the number `from` downwards
abbrev pub history_word : Past → (from : ℕ) → ℕ
history_word past from = number_of (map (λ i. is_among (from - i) (taken_of past)) (range_with_len 0 32))

-- what a packet tells of the packets taken: the greatest number, and the history below it
abbrev pub head_of : Version → Past → Head
head_of One past = record { top = 0; words = [] }
head_of Two past =
    record {
      top = top_of past % packet_modulus;
      words = map (λ w. history_word past (top_of past - 32 * w)) (range_with_len 0 (word_count past));
    }
