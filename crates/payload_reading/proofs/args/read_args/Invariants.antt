use Rattle.std.proofs.Common.{◌≡◌, drop, map}
use Rattle.connection_model.specs.PayloadReading.{args_at}
use Rattle.bit_io.specs.Lent.{bits_left}
use Rattle.value_codec.specs.Values.{arg_of}
use Rattle.payload_reading.specs.Reads.{behind}
use Rattle.payload_reading.proofs.args.read_args.Given as goal

abbrev pub invariant-loop-kind : goal.invariant-loop-kind
invariant-loop-kind l =
    behind (map arg_of l.list) (args_at (drop l.kind-index l.kinds) (bits_left l.reader)) ≡ args_at l.kinds
    (bits_left l.fn.reader)
