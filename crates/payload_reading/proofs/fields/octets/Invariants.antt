use Rattle.std.proofs.Common.{◌≡◌, ◌-◌}
use Rattle.connection_model.specs.PayloadReading.{octets_at}
use Rattle.bit_io.specs.Lent.{bits_left}
use Rattle.payload_reading.specs.Reads.{behind}
use Rattle.payload_reading.proofs.fields.octets.Given as goal

abbrev pub invariant-loop : goal.invariant-loop
invariant-loop l =
    behind l.bytes (octets_at (l.count - l.counter) (bits_left l.reader)) ≡ octets_at l.count
    (bits_left l.fn.reader)
