-- Examples that the checker computes: numbers, packets and the edge of a cull distance.
use Rattle.std.specs.Prelude.{◌≡◌, refl, [], ◌∷◌, true, false, Ok, Err, pos}
use Rattle.protocol_model.specs.declared.Version.TheVariants.{One, Two}
use Rattle.protocol_model.specs.declared.Why.TheVariants.{NoEnd, Short, CloseUnreliable}
use Rattle.protocol_model.specs.Bits.{digits, int_width, packed_in, bytes_in, int_bits, packed_bits, bytes_of, near}
use Rattle.protocol_model.specs.Numbers.{leading_groups}
use Rattle.protocol_model.specs.BuiltIn.{built_in_table, pawn, flag, purse}
use Rattle.protocol_model.specs.Packet.{Packet, Ack, spelling_of}
use Rattle.protocol_model.specs.PacketReading.{packet_of}
use Rattle.protocol_model.specs.World.{Edits, Spawn}
use Rattle.protocol_model.specs.Sight.{is_relevant}

-- Int(10240) of 2,048 has 13 bits
int_2048 : int_bits 10240 2048 ≡ false ∷ false ∷ false ∷ false ∷ false ∷ false ∷ false ∷ false ∷ false ∷ false ∷ false ∷ true ∷ false ∷ []
unfolding digits int_width leading_groups
int_2048 = refl

int_1 : int_bits 1 0 ≡ []
unfolding digits int_width leading_groups
int_1 = refl

packed_300 : bytes_of (packed_bits 300) ≡ 0x59 ∷ 0x04 ∷ []
unfolding digits packed_in bytes_in int_width leading_groups
packed_300 = refl

near_2 : near 2 (pos 16383) 16384 ≡ pos 16386
near_2 = refl

near_0 : near 0 (pos 8192) 16384 ≡ pos 0
near_0 = refl

-- packet 5 that acknowledges 3
ack_3 : Packet
ack_3 = record { number = 5; head = record { top = 0; words = [] }; recs = Ack 3 ∷ [] }

ack_3_bytes : spelling_of One ack_3 ≡ 0x05 ∷ 0xc0 ∷ 0x01 ∷ 0x20 ∷ []
unfolding ack_3 digits packed_in bytes_in int_width leading_groups
ack_3_bytes = refl

ack_3_read : packet_of One (0x05 ∷ 0xc0 ∷ 0x01 ∷ 0x20 ∷ []) ≡ Ok ack_3
unfolding ack_3 digits packed_in bytes_in int_width leading_groups
ack_3_read = refl

no_end : packet_of One (0x01 ∷ 0x80 ∷ 0x19 ∷ 0x00 ∷ []) ≡ Err (24, NoEnd)
unfolding digits int_width leading_groups
no_end = refl

short_15 : packet_of One (0x01 ∷ 0x80 ∷ []) ≡ Err (15, Short)
unfolding digits int_width leading_groups
short_15 = refl

-- version 2
second : packet_of Two (0x01 ∷ 0 ∷ 0 ∷ 0 ∷ 0 ∷ 0 ∷ 0 ∷ 0x80 ∷ []) ≡ Ok (record { number = 1; head = record { top = 0; words = 0 ∷ [] }; recs = [] })
unfolding digits int_width leading_groups
second = refl

-- an unreliable close
close_unreliable : packet_of One (0x01 ∷ 0x80 ∷ 0x22 ∷ 0x00 ∷ 0x00 ∷ 0x00 ∷ 0x08 ∷ []) ≡ Err (20, CloseUnreliable)
unfolding digits int_width leading_groups
close_unreliable = refl

-- Pawns at (600, 800) and (600, 801), with a cull distance of 1,000
on_the_edge : Edits
on_the_edge = Spawn 0 (pos 600) (pos 801) ∷ Spawn 0 (pos 600) (pos 800) ∷ []

edge_inside : is_relevant built_in_table on_the_edge 1 2 ≡ true
unfolding pawn flag purse on_the_edge
edge_inside = refl

edge_outside : is_relevant built_in_table on_the_edge 1 4 ≡ false
unfolding pawn flag purse on_the_edge
edge_outside = refl
