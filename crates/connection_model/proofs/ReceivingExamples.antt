-- Worked feeds that the checker computes: what an end makes of what it receives.
use Rattle.std.specs.Prelude.{◌≡◌, refl, ℕ, List, [], ◌∷◌, map, false, pos, codes}
use Rattle.protocol_model.specs.Numbers.{leading_groups}
use Rattle.protocol_model.specs.Bits.{int_width, digits, packed_in, bytes_in}
use Rattle.protocol_model.specs.Payload.{Opens, Closes}
use Rattle.protocol_model.specs.BuiltIn.{pawn, flag, purse}
use Rattle.protocol_model.specs.declared.Fate.TheVariants.{Arrived, Lost}
use Rattle.protocol_model.specs.declared.Verdict.TheVariants.{Old}
use Rattle.connection_model.specs.Feed.{Event, Tick, Got, Past, Ticked, Sent, Took, Acked, Delivered}
use Rattle.connection_model.specs.Fates.{named_by, fate_of}
use Rattle.connection_model.specs.Windows.{held_count}
use Rattle.connection_model.specs.Copies.{delivered_of, copied_actors}
use Rattle.connection_model.specs.Verdict.{verdict_of}
use Rattle.connection_model.specs.Past.{past_of}
use Rattle.connection_model.proofs.Ends.{client, pawn_with, unhex, hex_digit}

-- ---- packets

-- two empty packets
unfoldable packet_1 : List ℕ
packet_1 = unhex (codes "0140")

unfoldable packet_2 : List ℕ
packet_2 = unhex (codes "0240")

-- after the second packet the first is old
older_verdict : verdict_of client (past_of client (Got packet_2 ∷ [])) packet_1 ≡ Old (pos 1) 2
unfolding client packet_1 packet_2 unhex hex_digit digits packed_in bytes_in int_width leading_groups pawn flag purse
older_verdict = refl

-- and adds nothing
older_past : past_of client (Got packet_1 ∷ Got packet_2 ∷ []) ≡ Took 2 [] [] ∷ []
unfolding client packet_1 packet_2 unhex hex_digit digits packed_in bytes_in int_width leading_groups pawn flag purse
older_past = refl

-- ---- acknowledgements

-- numbers are told modulo 16,384: 5 is the 16,389th where the 16,000th was named, and 16,380 is below it
named_above : named_by (Acked 5) 16000 ≡ pos 16389 ∷ []
named_above = refl

named_below : named_by (Acked 16380) 16389 ≡ pos 16380 ∷ []
named_below = refl

-- an end that sent 16,389 packets, and heard of the 8,000th, the 16,000th and the 16,389th
unfoldable far : Past
far = Took 2 (Acked 5 ∷ []) [] ∷ Took 1 (Acked 16000 ∷ Acked 8000 ∷ []) [] ∷ Sent 16389 1 [] ∷ Ticked 1 [] ∷ []

far_arrived : fate_of far 16389 ≡ Arrived
unfolding far
far_arrived = refl

far_lost : fate_of far 16388 ≡ Lost
unfolding far
far_lost = refl

-- ---- bunches past a gap

-- a close whose open was lost with the packet before, and the open that comes again
unfoldable close_packet : List ℕ
close_packet = unhex (codes "028032008000020001")

unfoldable open_again : List ℕ
open_again =
    unhex (codes "03c000c00c0012804e028101007114d656a660404085ddb911280800000000100000000018402063c0010000000020")

-- the close is held
held_apart : delivered_of (past_of client (Got close_packet ∷ [])) ≡ []
unfolding client close_packet unhex hex_digit digits packed_in bytes_in int_width leading_groups pawn flag purse
held_apart = refl

held_one : held_count (past_of client (Got close_packet ∷ [])) ≡ 1
unfolding client close_packet unhex hex_digit digits packed_in bytes_in int_width leading_groups pawn flag purse
held_one = refl

-- when the open comes both are handed on, the open first
unfoldable both : List Event
both = Got open_again ∷ Tick [] ∷ Got close_packet ∷ []

both_handed : map (λ (d : Delivered). d.message) (delivered_of (past_of client both)) ≡
    Closes 2 false ∷ Opens pawn.path 2 pawn (pawn_with 2 (pos 0) (pos 100)).values ∷ []
unfolding client both open_again close_packet pawn_with unhex hex_digit digits packed_in bytes_in int_width leading_groups pawn flag purse
both_handed = refl

-- and no copy is left, as in the worked script
no_copy_left : copied_actors (past_of client both) ≡ []
unfolding client both open_again close_packet unhex hex_digit digits packed_in bytes_in int_width leading_groups pawn flag purse
no_copy_left = refl
