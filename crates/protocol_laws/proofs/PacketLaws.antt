-- Packets and their spellings belong to each other one to one.
use Rattle.std.proofs.Common.{◌≡◌, ℕ, ◌≤◌, List, [], ◌∷◌, ◌++◌, Bool, true, false, Result, Ok, refl, sym, ap, ◌∙◌, arith, length, replicate, length-append, append_assoc}
use Rattle.std.specs.List.{flat_map}
use Rattle.std.proofs.lemmas.Bool.{ltb-true}
use Rattle.protocol_model.specs.Bits.{bits_of}
use Rattle.protocol_model.specs.Packet.{Packet, Spells, start_bits, rec_bits, spelling_of}
use Rattle.protocol_model.specs.PacketReading.{Refusal, content_of, packet_of, content_read}
use Rattle.protocol_model.specs.declared.Version.{Version}
use Rattle.protocol_laws.proofs.BytesLaws.{bits_of-bytes_of}
use Rattle.protocol_laws.proofs.PacketBack.{packet_read}
use Rattle.protocol_laws.proofs.Content.{content-is, packet_of-content, last_is_some}

no_bytes : (bytes : List ℕ) → length bytes ≡ 0 → bytes ≡ []
no_bytes [] h = refl
no_bytes (byte ∷ bytes) h = absurd (omega (arith, h))

-- bytes that hold a bit are some
some_bytes : (bytes : List ℕ) (bits : List Bool) (pad : ℕ) → bits_of bytes ≡ bits ++ true ∷ replicate pad false → 1 ≤ length bytes
some_bytes [] bits pad e = let sum = length-append bits (true ∷ replicate pad false) in let none : 0 ≡ length (bits ++ true ∷ replicate pad false) = ap length e in absurd (omega (arith, sum, none))
some_bytes (byte ∷ bytes) bits pad e = omega arith

-- a packet is read from its spelling
pub packet_back : (version : Version) (p : Packet) (bytes : List ℕ) → Spells version p bytes → packet_of version bytes ≡ Ok p
packet_back version p bytes spells =
    let content : List Bool = start_bits version p.number p.head ++ flat_map (λ rec. rec_bits version rec) p.recs in
    let held = bits_of-bytes_of (content ++ true ∷ []) in
    let pad : ℕ = held.0 in
    let bits : bits_of bytes ≡ content ++ true ∷ replicate pad false = ap bits_of spells.spelling ∙ held.2 ∙ append_assoc content (true ∷ []) (replicate pad false) in
    let some : 1 ≤ length bytes = some_bytes bytes content pad bits in
    let end : content_of bytes ≡ content = content-is bytes content pad bits in
    packet_of-content version bytes some spells.size (last_is_some bytes content pad held.1 some bits)
    ∙ rw (end, content_read, packet_read version p (ltb-true _ _ spells.number) spells.head spells.recs) refl

-- bytes spell at most one packet
pub one_packet : (version : Version) (p q : Packet) (bytes : List ℕ) → Spells version p bytes → Spells version q bytes → p ≡ q
one_packet version p q bytes a b =
    let first : packet_of version bytes ≡ Ok p = packet_back version p bytes a in
    let second : packet_of version bytes ≡ Ok q = packet_back version q bytes b in
    same p q (sym first ∙ second)
  where
    same : (p q : Packet) → ◌≡◌ {A = Result Packet Refusal} (Ok p) (Ok q) → p ≡ q
    same p q e = cc

-- what some bytes spell has a spelling
pub spelled_itself : (version : Version) (p : Packet) (bytes : List ℕ) → Spells version p bytes → Spells version p (spelling_of version p)
spelled_itself version p bytes s = let size = s.size in record { number = s.number; head = s.head; recs = s.recs; spelling = refl; size = omega (arith, size, ap length s.spelling) }
