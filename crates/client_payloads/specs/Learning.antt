-- Learning the names that an open exports.
use Rattle.std.specs.Prelude.{◌≡◌, ℕ, List, Some, None, Result, Ok, Err, ⊤}
use Rattle.std.specs.List.{fold}
use Rattle.protocol_model.specs.Value.{Segment}
use Rattle.protocol_model.specs.Reading.{Fault, Broken}
use Rattle.protocol_model.specs.declared.Cause.TheVariants.{UnknownGuid, Clash, NamesFull}
use Rattle.connection_model.specs.PayloadReading.{PayloadReading}
use Rattle.connection_model.specs.Names.{learn_fault, names_with}
use Rattle.bit_io.specs.declared.lent.BitReader.{BitReader}
use Rattle.bit_io.specs.Lent.{bits_left}
use Rattle.netguid_map.specs.declared.names.Learnt.{Learnt}
use Rattle.netguid_map.specs.declared.names.NameRefusal.{NameRefusal}
use Rattle.netguid_map.specs.declared.names.NameRefusal.TheVariants as refusal
use Rattle.netguid_map.specs.Names.{Stands}
use Rattle.payload_reading.specs.declared.stop.Stop.{Stop}

-- the names kept by now
abbrev pub Kept : Type 0
Kept = List (ℕ × Learnt)

-- the segments are read, and the names learnt are those known before and then these
abbrev pub Learns : {A : Type 0} → (List Segment → PayloadReading (List Segment))
    → (known : List Segment) → BitReader → BitReader → (after : Kept) → Result A Stop → Type 0
Learns reading known old new after (Ok done) =
    (segments : List Segment)
    × (reading known (bits_left old) ≡ Ok (segments, bits_left new))
    × Stands after (fold names_with known segments)
Learns reading known old new after (Err Stop.Short) =
    reading known (bits_left old) ≡ Err Fault.Short
Learns reading known old new after (Err (Stop.Broken left cause)) =
    reading known (bits_left old) ≡ Err (Broken left cause)
Learns reading known old new after (Err Stop.Memory) = ⊤

-- a segment is learnt, or refused with the cause that stands against it
abbrev pub IsLearning : {A : Type 0} → (known : List Segment) → Segment → (left : ℕ)
    → (after : Kept) → Result A Stop → Type 0
IsLearning known s left after (Ok done) =
    (learn_fault known s ≡ None) × Stands after (names_with known s)
IsLearning known s left after (Err Stop.Short) = ⊥
IsLearning known s left after (Err (Stop.Broken from None)) = ⊥
IsLearning known s left after (Err (Stop.Broken from (Some cause))) =
    (learn_fault known s ≡ Some cause) × (from ≡ left)
IsLearning known s left after (Err Stop.Memory) = ⊤

-- what a refusal of a name breaks
abbrev pub refused_by : (left : ℕ) → NameRefusal → Stop
refused_by left (refusal.Unknown guid) = Stop.Broken left (Some (UnknownGuid guid))
refused_by left (refusal.Clash guid) = Stop.Broken left (Some (Clash guid))
refused_by left refusal.NamesFull = Stop.Broken left (Some NamesFull)
refused_by left refusal.Memory = Stop.Memory
