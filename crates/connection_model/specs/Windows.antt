-- Reliable bunches received on a channel: those with the next numbers, which are applied, those held past a gap, and
-- the payloads that they join to. A bunch is applied when all with lower numbers were.
use Rattle.std.specs.Prelude.{ℕ, ◌-◌, ◌==◌, List, [], ◌∷◌, map, length, reverse, Bool, true, false, not, ◌&&◌, ◌||◌, nat_lt, nat_le, Option, Some, None, filter, filter_map, sum_by, if◌then◌else◌, ℤ, pos, negsuc}
use Rattle.std.specs.List.{flat_map, range_with_len}
use Rattle.protocol_model.specs.Bits.{near}
use Rattle.protocol_model.specs.Packet.{Bunch}
use Rattle.protocol_model.specs.declared.Part.{Part}
use Rattle.protocol_model.specs.declared.Part.TheVariants.{Whole, First, Middle, Last, Lone}
use Rattle.protocol_model.specs.declared.PartWhy.{PartWhy}
use Rattle.protocol_model.specs.declared.PartWhy.TheVariants.{Oversize, Flags, Restart, Inside, NoFirst, Opens, FewBits, TooMany}
use Rattle.connection_model.specs.Feed.{Past, Entry, Heard}
use Rattle.connection_model.specs.Fates.{entries_of}
use Rattle.std.specs.Bool.{then_some}
use Rattle.protocol_model.specs.Limits.{part_bits, part_limit, sequence_modulus}
use Rattle.protocol_model.specs.Search.{is_among, least_from, items_since, ascending_numbers, newest_of}

-- ---- numbers

-- a bunch with the number that it was received as
abbrev pub Received : Type 0
Received = ℕ × Bunch

-- the numbers received
abbrev pub numbers_of : List Received → List ℕ
numbers_of got = map (λ (r : Received). r.0) got

-- the least number that wasn't received
abbrev pub next_of : List Received → ℕ
next_of got = least_from (λ n. not (is_among n (numbers_of got))) (length got) 1

-- a bunch's number: of those with the same residue the one nearest to the next
abbrev pub number_as : List Received → Bunch → ℤ
number_as got b = near b.seq (pos (next_of got)) sequence_modulus

-- it is the next, it is above that and new, or it isn't new
pub data Offer : Type 0 where
  Repeat : Offer
  Ready : Offer
  Held : (number : ℕ) → Offer

-- what becomes of a bunch with this number
abbrev pub offer_of : List Received → ℤ → Offer
offer_of got (negsuc n) = Repeat
offer_of got (pos n) =
    if n == next_of got then Ready
    else if nat_lt n (next_of got) || is_among n (numbers_of got) then Repeat
    else Held n

-- what was received, with this bunch if it is new
abbrev pub with_offer : List Received → Bunch → Offer → List Received
with_offer got b Repeat = got
with_offer got b Ready = (next_of got, b) ∷ got
with_offer got b (Held n) = (n, b) ∷ got

-- what was received, with this bunch if its number is new: the first bunch of each number counts
abbrev pub with_bunch : List Received → Bunch → List Received
with_bunch got b = with_offer got b (offer_of got (number_as got b))

-- what was received, with this entry's bunch if it is one of the channel
abbrev pub with_entry : List Received → ℕ → Entry → List Received
with_entry got ch (Heard b) = if b.reliable && b.channel == ch then with_bunch got b else got
with_entry got ch entry = got

-- the reliable bunches received on a channel in these entries
abbrev pub received_by : List Entry → ℕ → List Received
received_by [] ch = []
received_by (entry ∷ entries) ch = with_entry (received_by entries ch) ch entry

-- the reliable bunches received on a channel
abbrev pub received_on : Past → ℕ → List Received
received_on past ch = received_by (entries_of past) ch

-- the bunch, if it has this number
abbrev pub as_number : ℕ → Received → Option Bunch
as_number n r = then_some (r.0 == n) r.1

-- the bunches with the `count` numbers from `from` on
abbrev pub run_of : List Received → (from count : ℕ) → List Bunch
run_of got from count = filter_map (λ n. newest_of (as_number n) got) (range_with_len from count)

-- the longest run 1, 2, .. of received bunches
abbrev pub applied_of : List Received → List Bunch
applied_of got = run_of got 1 (next_of got - 1)

-- the bunches that a bunch makes ready: itself and the held ones that follow
abbrev pub ready_bunches : List Received → Bunch → List Bunch
ready_bunches got b = run_of (with_bunch got b) (next_of got) (next_of (with_bunch got b) - next_of got)

-- the channel of a bunch that was heard
abbrev pub channel_heard : Entry → Option ℕ
channel_heard (Heard b) = Some b.channel
channel_heard entry = None

-- how many bunches the channel holds past a gap
abbrev pub held_on : Past → ℕ → ℕ
held_on past ch =
    length (filter (λ (r : Received). nat_lt (next_of (received_on past ch)) r.0) (received_on past ch))

-- the bunches received above their channel's next number, over all channels
abbrev pub held_count : Past → ℕ
held_count past = sum_by (held_on past) (ascending_numbers (filter_map channel_heard (entries_of past)))

-- ---- whole payloads

-- a payload ends with this bunch
abbrev pub ends_payload : Bunch → Bool
ends_payload b = elim b.part [ Whole ↦ true | Last ↦ true | Lone ↦ true | First ↦ false | Middle ↦ false ]

-- the parts that are kept: those applied since the last whole payload, the newest first
abbrev pub kept_of : List Bunch → List Bunch
kept_of applied = items_since ends_payload (reverse applied)

-- the first rule of parts that the bunch breaks, where these are kept
abbrev pub part_fault : (kept : List Bunch) → Bunch → Part → Option PartWhy
part_fault kept b part =
    if nat_lt part_bits (length b.payload) then Some Oversize
    else if is_lone part then Some PartWhy.Lone
    else if is_some_part part && b.closes then Some Flags
    else if is_first part && is_kept then Some Restart
    else if is_whole part && b.reliable && is_kept then Some Inside
    else if is_later part && not is_kept then Some NoFirst
    else if is_later part && b.opens then Some Opens
    else if (is_some_part part && not (is_last part) && not (length b.payload == part_bits))
    || (is_last part && length b.payload == 0) then Some FewBits
    else if is_later part && nat_le part_limit (length kept) then Some TooMany
    else None
  where
    is_kept : Bool
    is_kept = nat_lt 0 (length kept)

    is_lone : Part → Bool
    is_lone p = elim p [ Lone ↦ true | _ ↦ false ]

    is_first : Part → Bool
    is_first p = elim p [ First ↦ true | _ ↦ false ]

    is_last : Part → Bool
    is_last p = elim p [ Last ↦ true | _ ↦ false ]

    is_whole : Part → Bool
    is_whole p = elim p [ Whole ↦ true | _ ↦ false ]

    is_later : Part → Bool
    is_later p = elim p [ Middle ↦ true | Last ↦ true | _ ↦ false ]

    is_some_part : Part → Bool
    is_some_part p = not (is_whole p)

-- the bits of the kept parts, oldest first, and of the last
abbrev pub joined_bits : (kept : List Bunch) → Bunch → List Bool
joined_bits kept last = flat_map (λ (b : Bunch). b.payload) (reverse (last ∷ kept))

-- the bunch with which the payload began
abbrev pub first_of : (kept : List Bunch) → Bunch → Bunch
first_of [] last = last
first_of (b ∷ kept) last = first_of kept b

-- the payloads that a run joins to, each with the bunch that it began with, where these parts are kept
abbrev pub wholes_from : (kept : List Bunch) → List Bunch → List (Bunch × List Bool)
wholes_from kept [] = []
wholes_from kept (b ∷ run) =
    if ends_payload b then (first_of kept b, joined_bits kept b) ∷ wholes_from [] run
    else wholes_from (b ∷ kept) run

-- the whole payloads that were received on a channel, in order
abbrev pub wholes_of : Past → (channel : ℕ) → List (Bunch × List Bool)
wholes_of past ch = wholes_from [] (applied_of (received_on past ch))
