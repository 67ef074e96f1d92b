-- What the functions that read and take memory answer.
use Rattle.std.specs.Prelude.{◌≡◌, ⊤, Result, Ok, Err}
use Rattle.protocol_model.specs.Reading.{Reading}
use Rattle.protocol_model.specs.declared.Why.{Why}
use Rattle.bit_io.specs.declared.lent.BitReader.{BitReader}
use Rattle.bit_io.specs.Lent.{bits_left}
use Rattle.packet_codec.specs.declared.fault.Stop.{Stop}
use Rattle.packet_codec.specs.Reads.{fault_of}

-- the value that the bits left begin with and the bits after it, or the fault; want of memory says nothing
abbrev pub FollowsUnlessMemory : {A B : Type 0} → (A → B) → Reading Why B → BitReader → BitReader → Result A Stop → Type 0
FollowsUnlessMemory meaning reading old new (Ok value) = reading (bits_left old) ≡ Ok (meaning value, bits_left new)
FollowsUnlessMemory meaning reading old new (Err (Stop.Fault fault)) = reading (bits_left old) ≡ Err (fault_of fault)
FollowsUnlessMemory meaning reading old new (Err Stop.Memory) = ⊤
