-- What a payload's reading answers for what the bits begin with.
use Rattle.std.specs.Prelude.{ℕ, ℤ, List, Bool, Option, None, Result, Ok, Err}
use Rattle.protocol_model.specs.declared.NumRefusal.{NumRefusal}
use Rattle.protocol_model.specs.declared.Cause.{Cause}
use Rattle.protocol_model.specs.Reading.{Fault, Broken}

-- a value that is there is read; one that isn't whole is missing at the end, and one that is spelled too long
-- breaks a rule at its own first bit, where this many bits are left
abbrev pub as_payload : (left : ℕ) → Result (ℤ × List Bool) NumRefusal → Result (ℤ × List Bool) (Fault (Option Cause))
as_payload left (Ok got) = Ok got
as_payload left (Err NumRefusal.Short) = Err Fault.Short
as_payload left (Err NumRefusal.Padded) = Err (Broken left None)
