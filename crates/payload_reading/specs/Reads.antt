-- What the functions that read answer, by the definition of the reading that each follows.
use Rattle.std.specs.Prelude.{◌≡◌, ℕ, ⊤, List, ◌++◌, map, Bool, Option, None, Result, Ok, Err}
use Rattle.protocol_model.specs.Reading.{Fault, Broken}
use Rattle.connection_model.specs.PayloadReading.{PayloadReading}
use Rattle.protocol_model.specs.declared.Cause.{Cause}
use Rattle.protocol_model.specs.declared.NumRefusal.{NumRefusal}
use Rattle.bit_io.specs.declared.lent.BitReader.{BitReader}
use Rattle.bit_io.specs.Lent.{bits_left}
use Rattle.payload_reading.specs.declared.stop.Stop.{Stop}

-- the value that the bits left begin with and the bits after it, or the fault; want of memory says
-- nothing
abbrev pub Follows : {A B : Type 0} → (A → B) → PayloadReading B
    → BitReader → BitReader → Result A Stop → Type 0
Follows meaning reading old new (Ok value) =
    reading (bits_left old) ≡ Ok (meaning value, bits_left new)
Follows meaning reading old new (Err Stop.Short) = reading (bits_left old) ≡ Err Fault.Short
Follows meaning reading old new (Err (Stop.Broken left cause)) =
    reading (bits_left old) ≡ Err (Broken left cause)
Follows meaning reading old new (Err Stop.Memory) = ⊤

-- the value itself
abbrev pub itself : {A : Type 0} → A → A
itself value = value

-- what a number that isn't read breaks
abbrev pub stop_of : (left : ℕ) → NumRefusal → Stop
stop_of left NumRefusal.Short = Stop.Short
stop_of left NumRefusal.Padded = Stop.Broken left None

-- what was read before stands before what is read
abbrev pub behind : {A : Type 0} → List A → Result (List A × List Bool) (Fault (Option Cause))
    → Result (List A × List Bool) (Fault (Option Cause))
behind front (Ok got) = Ok (front ++ got.0, got.1)
behind front (Err fault) = Err fault

-- what is read goes behind what was collected before
abbrev pub Collects : {A B : Type 0} → (A → B) → PayloadReading (List B)
    → BitReader → BitReader → (before after : List A) → Result Unit Stop → Type 0
Collects meaning reading old new before after (Ok done) =
    behind (map meaning before) (reading (bits_left old)) ≡ Ok (map meaning after, bits_left new)
Collects meaning reading old new before after (Err Stop.Short) =
    reading (bits_left old) ≡ Err Fault.Short
Collects meaning reading old new before after (Err (Stop.Broken left cause)) =
    reading (bits_left old) ≡ Err (Broken left cause)
Collects meaning reading old new before after (Err Stop.Memory) = ⊤
