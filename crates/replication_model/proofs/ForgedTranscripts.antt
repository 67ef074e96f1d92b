-- Worked scripts whose whole transcripts the checker computes: forged datagrams.
use Rattle.std.specs.Prelude.{◌≡◌, refl, ℕ, List, [], ◌∷◌, ◌++◌, map, take, pos, negsuc, codes}
use Rattle.std.specs.List.{range_with_len}
use Rattle.std.specs.Fmt.{digits as decimal_digits}
use Rattle.protocol_model.specs.Numbers.{leading_groups}
use Rattle.protocol_model.specs.Bits.{int_width, digits, packed_in, bytes_in}
use Rattle.protocol_model.specs.declared.Version.TheVariants.{One}
use Rattle.protocol_model.specs.Side.{AtServer, AtClient}
use Rattle.protocol_model.specs.World.{Spawn, Set, Own}
use Rattle.script_model.specs.Lines.{Line, Join, ApplyEdit, TickAll, Deliver, Forge}
use Rattle.replication_model.specs.Transcript.{transcript}
use Rattle.protocol_model.specs.BuiltIn.{built_in_table, pawn, flag, purse}
use Rattle.replication_model.proofs.Tables.{lamp_table}
use Rattle.replication_model.proofs.Shorthand.{datagram}

held_twice-lines : List Line
held_twice-lines =
    Join 1 8000 One
    ∷ ApplyEdit (Spawn 0 (pos 0) (pos 0))
    ∷ ApplyEdit (Own 2 1)
    ∷ TickAll
    ∷ Deliver AtClient 1 1
    ∷ Forge AtClient 1 (datagram (codes "0200060018401920014140"))
    ∷ Forge AtClient 1 (datagram (codes "0300060018401920018140"))
    ∷ Forge AtClient 1 (datagram (codes "0400060010401920010140"))
    ∷ []

held_twice : transcript built_in_table held_twice-lines ≡
    codes "joined 1\n"
    ++ codes "actor 1\n"
    ++ codes "sent 1 1 0180190024009d04020300e228acad4cc180800abb73235010000000002000000000308840a"
    ++ codes "600000000c00040\n"
    ++ codes "down 1 1 taken\n"
    ++ codes "cforge 1 taken\n"
    ++ codes "cforge 1 taken\n"
    ++ codes "chanded 1 1 hurt run 0\n"
    ++ codes "chanded 1 1 hurt run 1\n"
    ++ codes "cforge 1 taken\n"
unfolding held_twice-lines pawn flag purse lamp_table decimal_digits digits packed_in bytes_in int_width leading_groups datagram
held_twice = refl

-- all but the last byte of the packet that the server sends here; each prefix of it is delivered
cut_packet : List ℕ
cut_packet =
    datagram (codes "0180190024009d04020300e228acad4cc180800abb732350105000000020e8ffffff3780b0c4800300000000")

cut_packets-lines : List Line
cut_packets-lines =
    Join 1 8000 One
    ∷ ApplyEdit (Spawn 0 (pos 10) (negsuc 2))
    ∷ ApplyEdit (Set 2 4 (pos 75))
    ∷ TickAll
    ∷ map (λ n. Forge AtClient 1 (take n cut_packet)) (range_with_len 1 44)
    ++ Forge AtClient 1 ([])
    ∷ Forge AtClient 1 (0 ∷ 0 ∷ [])
    ∷ Deliver AtClient 1 1
    ∷ Forge AtServer 1 (1 ∷ 192 ∷ 1 ∷ 32 ∷ [])
    ∷ TickAll
    ∷ []

cut_packets : transcript built_in_table cut_packets-lines ≡
    codes "joined 1\n"
    ++ codes "actor 1\n"
    ++ codes "sent 1 1 0180190024009d04020300e228acad4cc180800abb732350105000000020e8ffffff3780b0c"
    ++ codes "480030000000040\n"
    ++ codes "cforge 1 malformed 0 Short\n"
    ++ codes "cforge 1 malformed 15 Short\n"
    ++ codes "cforge 1 malformed 20 Short\n"
    ++ codes "cforge 1 malformed 24 NoEnd\n"
    ++ codes "cforge 1 malformed 37 Short\n"
    ++ codes "cforge 1 malformed 40 NoEnd\n"
    ++ codes "cforge 1 malformed 55 Short\n"
    ++ codes "cforge 1 malformed 58 Short\n"
    ++ codes "cforge 1 malformed 65 Short\n"
    ++ codes "cforge 1 malformed 73 Short\n"
    ++ codes "cforge 1 malformed 80 NoEnd\n"
    ++ codes "cforge 1 malformed 95 Short\n"
    ++ codes "cforge 1 malformed 101 Short\n"
    ++ codes "cforge 1 malformed 111 Short\n"
    ++ codes "cforge 1 malformed 119 Short\n"
    ++ codes "cforge 1 malformed 126 Short\n"
    ++ codes "cforge 1 malformed 135 Short\n"
    ++ codes "cforge 1 malformed 143 Short\n"
    ++ codes "cforge 1 malformed 151 Short\n"
    ++ codes "cforge 1 malformed 155 Short\n"
    ++ codes "cforge 1 malformed 167 Short\n"
    ++ codes "cforge 1 malformed 174 Short\n"
    ++ codes "cforge 1 malformed 181 Short\n"
    ++ codes "cforge 1 malformed 190 Short\n"
    ++ codes "cforge 1 malformed 196 Short\n"
    ++ codes "cforge 1 malformed 206 Short\n"
    ++ codes "cforge 1 malformed 208 NoEnd\n"
    ++ codes "cforge 1 malformed 216 NoEnd\n"
    ++ codes "cforge 1 malformed 224 NoEnd\n"
    ++ codes "cforge 1 malformed 237 Short\n"
    ++ codes "cforge 1 malformed 247 Short\n"
    ++ codes "cforge 1 malformed 255 Short\n"
    ++ codes "cforge 1 malformed 263 Short\n"
    ++ codes "cforge 1 malformed 271 Short\n"
    ++ codes "cforge 1 malformed 277 Short\n"
    ++ codes "cforge 1 malformed 287 Short\n"
    ++ codes "cforge 1 malformed 295 Short\n"
    ++ codes "cforge 1 malformed 303 Short\n"
    ++ codes "cforge 1 malformed 311 Short\n"
    ++ codes "cforge 1 malformed 313 Short\n"
    ++ codes "cforge 1 malformed 320 NoEnd\n"
    ++ codes "cforge 1 malformed 328 NoEnd\n"
    ++ codes "cforge 1 malformed 336 NoEnd\n"
    ++ codes "cforge 1 malformed 344 NoEnd\n"
    ++ codes "cforge 1 malformed 0 Empty\n"
    ++ codes "cforge 1 malformed 8 NoEnd\n"
    ++ codes "down 1 1 taken\n"
    ++ codes "forge 1 closed BadAck 3 1\n"
unfolding cut_packets-lines cut_packet pawn flag purse lamp_table decimal_digits digits packed_in bytes_in int_width leading_groups datagram
cut_packets = refl
