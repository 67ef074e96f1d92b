-- What the functions that read answer, by the definition of the reading that each follows.
use Rattle.std.specs.Prelude.{◌≡◌, ◌≤◌, Result, Ok, Err}
use Rattle.protocol_model.specs.Reading.{Fault, Broken, Reading}
use Rattle.protocol_model.specs.declared.Why.{Why}
use Rattle.bit_io.specs.declared.lent.BitReader.{BitReader}
use Rattle.bit_io.specs.Lent.{bits_left}
use Rattle.packet_codec.specs.declared.fault.Fault.{Fault as FaultValue}

-- the fault
abbrev pub fault_of : FaultValue → Fault Why
fault_of FaultValue.Short = Fault.Short
fault_of (FaultValue.Broken left why) = Broken left why

-- the value that the bits left begin with and the bits after it, or the fault
abbrev pub Follows : {A : Type 0} → Reading Why A → BitReader → BitReader → Result A FaultValue → Type 0
Follows reading old new (Ok value) = reading (bits_left old) ≡ Ok (value, bits_left new)
Follows reading old new (Err fault) = reading (bits_left old) ≡ Err (fault_of fault)

-- the same, of what the value stands for
abbrev pub FollowsAs : {A B : Type 0} → (A → B) → Reading Why B → BitReader → BitReader → Result A FaultValue → Type 0
FollowsAs meaning reading old new (Ok value) = reading (bits_left old) ≡ Ok (meaning value, bits_left new)
FollowsAs meaning reading old new (Err fault) = reading (bits_left old) ≡ Err (fault_of fault)

-- the reader went on in the same bytes, up to the same end
pub record GoesOn (old new : BitReader) : Type 0 where
  pub bytes : new.bytes ≡ old.bytes
  pub to : new.to ≡ old.to
  pub place : old.place ≤ new.place
