-- The bits of a whole packet, as they are put.
use Rattle.std.proofs.Common.{◌≡◌, ◌≤◌, ◌+◌, ◌*◌, List, [], ◌∷◌, ◌++◌, Bool, true, refl, sym, ap, ◌∙◌, arith, length, length-append, map}
use Rattle.std.specs.List.{flat_map}
use Rattle.std.proofs.lemmas.List.Folds.{flat_map-map}
use Rattle.protocol_model.specs.Bits.{bytes_of}
use Rattle.protocol_model.specs.Packet.{start_bits, rec_bits, spelling_of}
use Rattle.protocol_model.specs.declared.Version.{Version}
use Rattle.bit_io.specs.HeadOf.{head_of}
use Rattle.packet_codec.specs.Values.{rec_of, packet_value, recs_bits}
use Rattle.packet_codec.specs.declared.packet.Rec.{Rec}
use Rattle.packet_codec.specs.declared.packet.Packet.{Packet}
use Rattle.packet_codec.proofs.Puts.{bits_in_bytes}

mapped : (version : Version) (recs : List Rec) → flat_map (λ rec. rec_bits version rec) (map rec_of recs) ≡ recs_bits version recs
mapped version recs = flat_map-map (λ rec. rec_bits version rec) rec_of recs

-- the bytes of the bits that are put are the packet's spelling
pub encoded : (version : Version) (p : Packet) (bits : List Bool) → bits ≡ start_bits version p.number (head_of p.head) ++ recs_bits version p.recs ++ true ∷ [] → bytes_of bits ≡ spelling_of version (packet_value p)
encoded version p bits e = ap bytes_of e ∙ ap (λ (recs : List Bool). bytes_of (start_bits version p.number (head_of p.head) ++ recs ++ true ∷ [])) (sym (mapped version p.recs))

-- they are at most 8,192
pub total_fits : (version : Version) (p : Packet) → length (spelling_of version (packet_value p)) ≤ 1024 → length (start_bits version p.number (head_of p.head)) + length (recs_bits version p.recs) + 1 ≤ 8192
total_fits version p h =
    let start : List Bool = start_bits version p.number (head_of p.head) in
    let recs : List Bool = recs_bits version p.recs in
    let same = encoded version p (start ++ recs ++ true ∷ []) refl in
    let most : length (start ++ recs ++ true ∷ []) ≤ 8 * 1024 = bits_in_bytes (start ++ recs ++ true ∷ []) 1024 (omega (arith, ap length same, h)) in
    omega (arith, most, length-append (start ++ recs) (true ∷ []), length-append start recs)
