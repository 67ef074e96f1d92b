-- A reading that stops where a part of it does.
use Rattle.std.proofs.Common.{◌≡◌, List, Bool, Option, Result, Ok, Err, sym, subst}
use Rattle.std.specs.Prelude.{IsErrAnd}
use Rattle.protocol_model.specs.declared.Cause.{Cause}
use Rattle.protocol_model.specs.Reading.{Fault, Broken}
use Rattle.connection_model.specs.PayloadReading.{PayloadReading}
use Rattle.bit_io.specs.declared.lent.BitReader.{BitReader}
use Rattle.bit_io.specs.Lent.{bits_left}
use Rattle.payload_reading.specs.Reads.{Follows, Collects}
use Rattle.payload_reading.specs.declared.stop.Stop.{Stop}

-- whatever stops the one at these bits stops the other at those
abbrev pub StopsAs : {A B : Type 0} → PayloadReading A → List Bool → PayloadReading B → List Bool → Type 0
StopsAs part at whole from = (fault : Fault (Option Cause)) → part at ≡ Err fault → whole from ≡ Err fault

pub stop_is : {A B C D : Type 0} (m : A → B) (part : PayloadReading B) (o n : BitReader) (k : C → D)
    (whole : PayloadReading D) (old new : BitReader) (stop : Stop)
    → Follows m part o n (Err stop) → StopsAs part (bits_left o) whole (bits_left old)
    → Follows k whole old new (Err stop)
stop_is m part o n k whole old new Stop.Short h same = same Fault.Short h
stop_is m part o n k whole old new (Stop.Broken left cause) h same = same (Broken left cause) h
stop_is m part o n k whole old new Stop.Memory h same = tt

pub stops : {A B C D : Type 0} (m : A → B) (part : PayloadReading B) (o n : BitReader) (k : C → D)
    (whole : PayloadReading D) (old new : BitReader) (result : Result C Stop) (stop : Stop)
    → IsErrAnd result (λ e. e ≡ stop) → Follows m part o n (Err stop)
    → StopsAs part (bits_left o) whole (bits_left old) → Follows k whole old new result
stops m part o n k whole old new (Ok value) stop is h same = absurd is
stops m part o n k whole old new (Err it) stop is h same =
    subst (λ (s : Stop). Follows k whole old new (Err s)) (sym is)
    (stop_is m part o n k whole old new stop h same)

pub list_stop_is : {A B C D : Type 0} (m : A → B) (part : PayloadReading B) (o n : BitReader) (k : C → D)
    (whole : PayloadReading (List D)) (old new : BitReader) (before after : List C) (stop : Stop)
    → Follows m part o n (Err stop) → StopsAs part (bits_left o) whole (bits_left old)
    → Collects k whole old new before after (Err stop)
list_stop_is m part o n k whole old new before after Stop.Short h same = same Fault.Short h
list_stop_is m part o n k whole old new before after (Stop.Broken left cause) h same =
    same (Broken left cause) h
list_stop_is m part o n k whole old new before after Stop.Memory h same = tt

pub list_stops : {A B C D : Type 0} (m : A → B) (part : PayloadReading B) (o n : BitReader) (k : C → D)
    (whole : PayloadReading (List D)) (old new : BitReader) (before after : List C) (result : Result Unit Stop)
    (stop : Stop)
    → IsErrAnd result (λ e. e ≡ stop) → Follows m part o n (Err stop)
    → StopsAs part (bits_left o) whole (bits_left old) → Collects k whole old new before after result
list_stops m part o n k whole old new before after (Ok value) stop is h same = absurd is
list_stops m part o n k whole old new before after (Err it) stop is h same =
    subst (λ (s : Stop). Collects k whole old new before after (Err s)) (sym is)
    (list_stop_is m part o n k whole old new before after stop h same)

collects_is : {A B C D : Type 0} (m : A → B) (part : PayloadReading (List B)) (o n : BitReader)
    (before after : List A) (k : C → D) (whole : PayloadReading D) (old new : BitReader) (stop : Stop)
    → Collects m part o n before after (Err stop) → StopsAs part (bits_left o) whole (bits_left old)
    → Follows k whole old new (Err stop)
collects_is m part o n before after k whole old new Stop.Short h same = same Fault.Short h
collects_is m part o n before after k whole old new (Stop.Broken left cause) h same =
    same (Broken left cause) h
collects_is m part o n before after k whole old new Stop.Memory h same = tt

pub collects_stops : {A B C D : Type 0} (m : A → B) (part : PayloadReading (List B)) (o n : BitReader)
    (before after : List A) (k : C → D) (whole : PayloadReading D) (old new : BitReader)
    (result : Result C Stop) (stop : Stop)
    → IsErrAnd result (λ e. e ≡ stop) → Collects m part o n before after (Err stop)
    → StopsAs part (bits_left o) whole (bits_left old) → Follows k whole old new result
collects_stops m part o n before after k whole old new (Ok value) stop is h same = absurd is
collects_stops m part o n before after k whole old new (Err it) stop is h same =
    subst (λ (s : Stop). Follows k whole old new (Err s)) (sym is)
    (collects_is m part o n before after k whole old new stop h same)
