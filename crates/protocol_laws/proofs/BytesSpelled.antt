-- Only bytes that spell a packet are read as that packet.
use Rattle.std.proofs.Common.{◌≡◌, ℕ, zero, suc, ◌<◌, ◌≤◌, ◌+◌, ◌-◌, ◌*◌, ◌/◌, ◌==◌, List, [], ◌∷◌, ◌++◌, Bool, true, false, cond, nat_lt, Result, Ok, Err, refl, sym, ap, ◌∙◌, arith, length, length-append, append_assoc, take, drop, replicate}
use Rattle.std.specs.Prelude.{All, slice_index_or}
use Rattle.std.specs.List.{flat_map}
use Rattle.std.proofs.lemmas.Bool.Decides.{nat_tests}
use Rattle.std.proofs.lemmas.List.{length-replicate}
use Rattle.std.proofs.lemmas.List.Elements.{All-cons, All-nil}
use Rattle.std.proofs.lemmas.Bool.{eqb-false, lt-ltb, ltb-false}
use Rattle.protocol_model.specs.Bits.{bits_of, bytes_of, bytes_in, number_of}
use Rattle.protocol_model.specs.Reading.{Fault, place_of}
use Rattle.protocol_model.specs.Packet.{Packet, Spells, start_bits, rec_bits}
use Rattle.protocol_model.specs.PacketReading.{Refusal, packet_at, packet_of, content_of, content_read, why_of}
use Rattle.protocol_model.specs.declared.Version.{Version}
use Rattle.protocol_model.specs.declared.Why.{Why}
use Rattle.protocol_model.specs.declared.Why.TheVariants.{Empty, TooLong, NoEnd}
use Rattle.protocol_laws.proofs.BytesLaws.{byte_of, bits_of-bytes_of, bytes_of-bits_of}
use Rattle.protocol_laws.proofs.Lengths.{length-bits_of}
use Rattle.protocol_laws.proofs.Content.{content-is, ended}
use Rattle.protocol_laws.proofs.PacketSpelled.{content_spelled}

-- what is made of bits are bytes
made_bytes : (n : ℕ) (bits : List Bool) → All (λ byte. byte < 256) (bytes_in n bits)
unfolding bytes_in
made_bytes zero bits = All-nil (λ byte. byte < 256)
made_bytes (suc n) bits = All-cons (λ byte. byte < 256) (number_of (take 8 bits)) (bytes_in n (drop 8 bits)) (byte_of bits) (made_bytes n (drop 8 bits))

-- bytes are those that their bits up to the last 1 bit make
made_of : (bytes : List ℕ) (bits : List Bool) (pad : ℕ) → All (λ byte. byte < 256) bytes → pad < 8 → bits_of bytes ≡ bits ++ replicate pad false → bytes ≡ bytes_of bits
made_of bytes bits pad fit short e =
    let held = bits_of-bytes_of bits in
    let under = held.1 in
    let mine : 8 * length bytes ≡ length bits + pad = sym (length-bits_of bytes) ∙ ap length e ∙ length-append bits (replicate pad false) ∙ ap (λ (n : ℕ). length bits + n) (length-replicate pad false) in
    let its : 8 * length (bytes_of bits) ≡ length bits + held.0 = sym (length-bits_of (bytes_of bits)) ∙ ap length held.2 ∙ length-append bits (replicate held.0 false) ∙ ap (λ (n : ℕ). length bits + n) (length-replicate held.0 false) in
    let same : held.0 ≡ pad = omega (arith, mine, its, short, under) in
    let both : bits_of (bytes_of bits) ≡ bits_of bytes = held.2 ∙ ap (λ (n : ℕ). bits ++ replicate n false) same ∙ sym e in
    sym (bytes_of-bits_of bytes fit) ∙ ap bytes_of (sym both) ∙ bytes_of-bits_of (bytes_of bits) (made_bytes ((length bits + 7) / 8) bits)

-- what is read as a packet passed each test
record Passed (a b c : Bool) (x : Result Packet Refusal) (p : Packet) : Type 0 where
  pub some : a ≡ false
  pub few : b ≡ false
  pub end : c ≡ false
  pub read : x ≡ Ok p

passed : (a b c : Bool) (r s t : Refusal) (x : Result Packet Refusal) (p : Packet) → cond a (Err r) (cond b (Err s) (cond c (Err t) x)) ≡ Ok p → Passed a b c x p
passed true b c r s t x p h = absurd (cc)
passed false true c r s t x p h = absurd (cc)
passed false false true r s t x p h = absurd (cc)
passed false false false r s t x p h = record { some = refl; few = refl; end = refl; read = h }

read_where : (version : Version) (content : List Bool) (p : Packet) (o : Result (Packet × List Bool) (Fault Why)) → packet_at version content ≡ o → content_read version content ≡ Ok p → (rest : List Bool) × (packet_at version content ≡ Ok (p, rest))
read_where version content p (Err fault) e h = let none : ◌≡◌ {A = Result Packet Refusal} (Err (place_of (length content) fault, why_of fault)) (Ok p) = rw (content_read, e) at h in absurd (cc)
read_where version content p (Ok got) e h =
    let some : ◌≡◌ {A = Result Packet Refusal} (Ok got.0) (Ok p) = rw (content_read, e) at h in
    let same : got.0 ≡ p = cc in
    (got.1, e ∙ ap (λ (p : Packet). Ok (p, got.1)) same)

at_least : (n : ℕ) → (n == 0) ≡ false → 1 ≤ n
at_least n h = grind (arith, nat_tests)

-- only bytes that spell a packet are read as it
pub packet_spelled : (version : Version) (p : Packet) (bytes : List ℕ) → All (λ byte. byte < 256) bytes → packet_of version bytes ≡ Ok p → Spells version p bytes
packet_spelled version p bytes fit h =
    let tests = passed (length bytes == 0) (nat_lt 1024 (length bytes)) (slice_index_or bytes (length bytes - 1) 0 == 0) (0, Empty) (8192, TooLong) (8 * (length bytes - 1), NoEnd) (content_read version (content_of bytes)) p h in
    let some : 1 ≤ length bytes = at_least _ tests.some in
    let last = ended bytes some (fit (length bytes - 1) 0 (omega (arith, some))) (eqb-false _ 0 tests.end) in
    let content : content_of bytes ≡ last.front = content-is bytes last.front last.pad last.bits_are in
    let read = read_where version (content_of bytes) p (packet_at version (content_of bytes)) refl tests.read in
    let spelled = content_spelled version (content_of bytes) p read.0 read.1 in
    let regroup : bits_of bytes ≡ (last.front ++ true ∷ []) ++ replicate last.pad false = last.bits_are ∙ sym (append_assoc last.front (true ∷ []) (replicate last.pad false)) in
    let bits : last.front ≡ start_bits version p.number p.head ++ flat_map (λ rec. rec_bits version rec) p.recs = sym content ∙ spelled.bits_are in
    let is_low : nat_lt p.number 16384 ≡ true = lt-ltb p.number 16384 spelled.number in
    record {
      number = is_low;
      head = spelled.head;
      recs = spelled.recs;
      spelling = made_of bytes (last.front ++ true ∷ []) last.pad fit last.short regroup ∙ ap (λ (content : List Bool). bytes_of (content ++ true ∷ [])) bits;
      size = ltb-false 1024 _ tests.few;
    }
