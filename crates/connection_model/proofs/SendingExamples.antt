-- Worked feeds that the checker computes: what an end sends.
use Rattle.std.specs.Prelude.{◌≡◌, refl, ℕ, ◌*◌, ◌-◌, List, [], ◌∷◌, ◌++◌, length, map, pos, codes}
use Rattle.std.specs.List.{range_with_len}
use Rattle.protocol_model.specs.Numbers.{leading_groups}
use Rattle.protocol_model.specs.Bits.{int_width, digits, packed_in, bytes_in}
use Rattle.protocol_model.specs.Sight.{Seen}
use Rattle.protocol_model.specs.BuiltIn.{pawn, flag, purse}
use Rattle.connection_model.specs.Feed.{Event, Tick, Got, Ticked, Sent, Took, Owed, Past, Ended, ByStall}
use Rattle.connection_model.specs.Past.{past_of, out_of}
use Rattle.connection_model.specs.Pack.{after_tick}
use Rattle.connection_model.proofs.Ends.{server, client, pawn_with, ticks, unhex, hex_digit}

-- the packet that opens a pawn, as the first of a connection
unfoldable open_packet : List ℕ
open_packet = unhex (codes "0180190024009d04020300e228acad4cc180800abb73235010000000002000000000308040c680030000000040")

-- the pawn at its first values
unfoldable first_sight : List Seen
first_sight = pawn_with 2 (pos 0) (pos 100) ∷ []

-- ---- a client acknowledges

-- a tick, an empty packet, a tick that acknowledges it
unfoldable three : List Event
three = Tick [] ∷ Got (unhex (codes "0140")) ∷ Tick [] ∷ []

three_past : past_of client three ≡ Sent 1 2 (Owed 1 ∷ []) ∷ Ticked 2 [] ∷ Took 1 [] [] ∷ Ticked 1 [] ∷ []
unfolding client three unhex hex_digit digits packed_in bytes_in int_width leading_groups pawn flag purse
three_past = refl

three_out : out_of client three ≡ unhex (codes "01c00020") ∷ []
unfolding client three unhex hex_digit digits packed_in bytes_in int_width leading_groups pawn flag purse
three_out = refl

-- ---- opens and updates

-- a value that changes before the open arrived isn't sent yet
early_update : out_of (server 8000) (Tick (pawn_with 2 (pos 0) (pos 2) ∷ []) ∷ Tick first_sight ∷ []) ≡ open_packet ∷ []
unfolding server open_packet first_sight pawn_with unhex hex_digit digits packed_in bytes_in int_width leading_groups pawn flag purse
early_update = refl

-- the update of hp is lost and that of x arrives: hp goes again, though its value is the one that was sent
lost_value : out_of (server 8000) (
    Tick (pawn_with 2 (pos 5) (pos 2) ∷ [])
    ∷ Got (unhex (codes "02c00120"))
    ∷ Tick (pawn_with 2 (pos 5) (pos 2) ∷ [])
    ∷ Tick (pawn_with 2 (pos 0) (pos 2) ∷ [])
    ∷ Got (unhex (codes "01c00020"))
    ∷ Tick first_sight
    ∷ []) ≡
    open_packet
    ∷ unhex (codes "02c000000200640008020001")
    ∷ unhex (codes "030004008801040a0000000002")
    ∷ unhex (codes "044001000200640008020001")
    ∷ []
unfolding server open_packet first_sight pawn_with unhex hex_digit digits packed_in bytes_in int_width leading_groups pawn flag purse
lost_value = refl

-- while one pawn holds index 1, the next is opened on index 2, although all bunches on index 1 have arrived
next_index : out_of (server 8000) (
    Tick (pawn_with 2 (pos 0) (pos 100) ∷ pawn_with 4 (pos 0) (pos 100) ∷ [])
    ∷ Got (unhex (codes "01c00020"))
    ∷ Tick first_sight
    ∷ []) ≡
    open_packet ∷ unhex (codes "02c000c0140010806601828200000000000100000080010432061c000000000002") ∷ []
unfolding server open_packet first_sight pawn_with unhex hex_digit digits packed_in bytes_in int_width leading_groups pawn flag purse
next_index = refl

-- ---- limits of a tick

-- a pawn that four ticks didn't show stays open
four_idle : out_of (server 8000) (ticks 4 [] ++ Tick first_sight ∷ []) ≡ open_packet ∷ []
unfolding server ticks open_packet first_sight pawn_with unhex hex_digit digits packed_in bytes_in int_width leading_groups pawn flag purse
four_idle = refl

-- the fifth closes it
five_idle : out_of (server 8000) (ticks 5 [] ++ Tick first_sight ∷ []) ≡
    open_packet ∷ unhex (codes "028032008000020001") ∷ []
unfolding server ticks open_packet first_sight pawn_with unhex hex_digit digits packed_in bytes_in int_width leading_groups pawn flag purse
five_idle = refl

-- seven ticks after a packet of which nothing is known nothing is sent
seven_silent : out_of (server 8000) (ticks 8 first_sight) ≡ open_packet ∷ []
unfolding server ticks open_packet first_sight pawn_with unhex hex_digit digits packed_in bytes_in int_width leading_groups pawn flag purse
seven_silent = refl

-- the eighth sends an empty packet
eight_silent : out_of (server 8000) (ticks 9 first_sight) ≡ open_packet ∷ unhex (codes "0240") ∷ []
unfolding server ticks open_packet first_sight pawn_with unhex hex_digit digits packed_in bytes_in int_width leading_groups pawn flag purse
eight_silent = refl

-- 24 pawns, whose opens take two packets
unfoldable crowd : List Event
crowd = Tick (map (λ i. pawn_with (2 * i) (pos 0) (pos 100)) (range_with_len 1 24)) ∷ []

-- a budget of exactly the first packet's bits, 8 times 991, lets no second one begin
budget_spent : map length (out_of (server 7928) crowd) ≡ 991 ∷ []
unfolding server crowd pawn_with digits packed_in bytes_in int_width leading_groups pawn flag purse
budget_spent = refl

-- one bit more does
budget_left : map length (out_of (server 7929) crowd) ≡ 991 ∷ 45 ∷ []
unfolding server crowd pawn_with digits packed_in bytes_in int_width leading_groups pawn flag purse
budget_left = refl

-- ---- the stall

-- 4,095 packets, of which nothing is known, and the last one eight ticks ago
unfoldable long_ago : Past
long_ago = map (λ i. Ticked (8 - i) []) (range_with_len 0 7) ++ Sent 4095 1 [] ∷ Ticked 1 [] ∷ []

-- the 4,096th ends the end
stalls : after_tick client long_ago [] ≡ Ended ByStall ∷ Sent 4096 9 [] ∷ Ticked 9 [] ∷ long_ago
unfolding client long_ago digits packed_in bytes_in int_width leading_groups
stalls = refl
