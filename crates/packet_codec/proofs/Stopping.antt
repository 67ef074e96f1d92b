-- What a function answers whose reading stops.
use Rattle.std.proofs.Common.{◌≡◌, List, Bool, ℕ, Result, Ok, Err, refl, sym, ap, ◌∙◌, arith, length, take}
use Rattle.std.specs.Prelude.{IsErrAnd}
use Rattle.std.proofs.lemmas.List.{length-take-le}
use Rattle.protocol_model.specs.Bits.{bits_of}
use Rattle.protocol_model.specs.Reading.{Fault, Reading, place_of}
use Rattle.protocol_model.specs.Packet.{Packet}
use Rattle.protocol_model.specs.PacketReading.{packet_of, packet_at, content_read, why_of}
use Rattle.protocol_model.specs.declared.Version.{Version}
use Rattle.protocol_model.specs.declared.Why.{Why}
use Rattle.bit_io.specs.declared.lent.BitReader.{BitReader}
use Rattle.bit_io.specs.Lent.{bits_left}
use Rattle.protocol_laws.proofs.Lengths.{length-bits_of}
use Rattle.packet_codec.specs.Reads.{FollowsAs, fault_of}
use Rattle.packet_codec.specs.Stops.{FollowsUnlessMemory}
use Rattle.packet_codec.specs.Refused.{EndsAt, Explains}
use Rattle.packet_codec.specs.declared.fault.Fault.{Fault as FaultValue}
use Rattle.packet_codec.specs.declared.fault.Stop.{Stop}
use Rattle.packet_codec.specs.declared.packet.DecodeRefusal.{DecodeRefusal}
use Rattle.packet_codec.specs.declared.packet.DecodeRefusal.TheVariants.{Malformed}

-- a fault is handed on
pub stops_as : {A B : Type 0} (meaning : A → B) (reading : Reading Why B) (old new : BitReader) (result : Result A FaultValue) (fault : FaultValue) → IsErrAnd result (λ e. e ≡ fault) → reading (bits_left old) ≡ Err (fault_of fault) → FollowsAs meaning reading old new result
stops_as meaning reading old new (Ok value) fault h e = absurd h
stops_as meaning reading old new (Err it) fault h e = e ∙ ap (λ (f : FaultValue). Err (fault_of f)) (sym h)

-- the same, where memory is taken too
pub stops_unless_memory : {A B : Type 0} (meaning : A → B) (reading : Reading Why B) (old new : BitReader) (result : Result A Stop) (fault : FaultValue) → IsErrAnd result (λ e. e ≡ Stop.Fault fault) → reading (bits_left old) ≡ Err (fault_of fault) → FollowsUnlessMemory meaning reading old new result
stops_unless_memory meaning reading old new (Ok value) fault h e = absurd h
stops_unless_memory meaning reading old new (Err (Stop.Fault it)) fault h e = let same : it ≡ fault = cc in e ∙ ap (λ (f : FaultValue). Err (fault_of f)) (sym same)
stops_unless_memory meaning reading old new (Err Stop.Memory) fault h e = cc

-- a content that is read is what the bytes spell
pub reads_packet : (version : Version) (bytes : List ℕ) (end : ℕ) (bits rest : List Bool) (p : Packet) → EndsAt bytes end → bits ≡ take end (bits_of bytes) → packet_at version bits ≡ Ok (p, rest) → packet_of version bytes ≡ Ok p
reads_packet version bytes end bits rest p ends is e =
    ends.decides version ∙ ap (λ (content : List Bool). content_read version content) (ends.content ∙ sym is) ∙ rw (content_read, e) refl

-- a content at fault is refused at the fault's place
pub refuses : (version : Version) (bytes : List ℕ) (end : ℕ) (bits : List Bool) (fault : Fault Why) (refusal : DecodeRefusal) → EndsAt bytes end → bits ≡ take end (bits_of bytes) → packet_at version bits ≡ Err fault → refusal ≡ Malformed (place_of end fault) (why_of fault) → Explains refusal version bytes
refuses version bytes end bits fault refusal ends is e r =
    let within = ends.within in
    let long : length bits ≡ end = ap length is ∙ length-take-le end (bits_of bytes) (omega (arith, within, length-bits_of bytes)) in
    let read : content_read version bits ≡ Err (place_of (length bits) fault, why_of fault) = rw (content_read, e) refl in
    rw r (ends.decides version ∙ ap (λ (content : List Bool). content_read version content) (ends.content ∙ sym is) ∙ read ∙ ap (λ (n : ℕ). Err (place_of n fault, why_of fault)) long)
