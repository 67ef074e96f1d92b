use Rattle.std.proofs.Common.{◌≡◌, ℕ, suc, ◌+◌, ◌-◌, List, sym, ap, ◌∙◌, arith}
use Rattle.connection_model.specs.PayloadReading.{octets_at}
use Rattle.bit_io.specs.Lent.{bits_left}
use Rattle.payload_reading.specs.Reads.{behind}
use Rattle.payload_reading.proofs.Loops.{octets_more}
use Rattle.payload_reading.proofs.fields.octets.Goals as goal

pub loop-preserved : goal.loop-preserved
loop-preserved c =
    let turn : c.args.count - c.loop.counter ≡ suc (c.args.count - (c.loop.counter + 1)) = omega arith in
    ap (λ (bytes : List ℕ). behind bytes
    (octets_at (c.args.count - (c.loop.counter + 1)) (bits_left c.byte.new.reader))) c.in_ok-push.ensures.ok
    ∙ sym (octets_more (c.args.count - (c.loop.counter + 1)) c.loop.bytes c.in_ok-byte.field-0
    (bits_left c.loop.reader) (bits_left c.byte.new.reader) c.in_ok-byte.ensures)
    ∙ ap (λ (n : ℕ). behind c.loop.bytes (octets_at n (bits_left c.loop.reader))) (sym turn)
    ∙ c.loop.invariant
