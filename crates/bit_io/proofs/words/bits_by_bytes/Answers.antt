use Rattle.std.proofs.Common.{◌≡◌, ◌<◌, ◌*◌, ◌/◌, ◌%◌, ◌^◌, arith}
use Rattle.std.proofs.lemmas.Nat.{mod_below, pow_pos}
use Rattle.protocol_laws.specs.Packed.{number_of_bytes}
use Rattle.bit_io.proofs.Steps.{part_at, read_more, fits_word}
use Rattle.bit_io.proofs.words.bits_by_bytes.Goals as goal

pub overflow_add-value : goal.overflow_add-value
overflow_add-value c =
    let count = c.min-count.result in
    let part : c.low_bits-part.result < 2 ^ count = rw c.low_bits-part.ensures (mod_below _ _ (pow_pos count)) in
    let value : c.loop-done.value < 2 ^ c.loop-done.done = rw c.loop-done.invariant.value (mod_below _ _ (pow_pos c.loop-done.done)) in
    let f = fits_word c.loop-done.value c.low_bits-part.result c.loop-done.done count value part (omega arith) in
    omega (arith, f)

pub loop-done-preserved : goal.loop-done-preserved
loop-done-preserved c =
    let count = c.min-count.result in
    let n = number_of_bytes c.args.bytes.now / 2 ^ c.args.at in
    let part : c.low_bits-part.result < 2 ^ count = rw c.low_bits-part.ensures (mod_below _ _ (pow_pos count)) in
    let value : c.loop-done.value < 2 ^ c.loop-done.done = rw c.loop-done.invariant.value (mod_below _ _ (pow_pos c.loop-done.done)) in
    let f = fits_word c.loop-done.value c.low_bits-part.result c.loop-done.done count value part (omega arith) in
    let read : c.low_bits-part.result ≡ n / 2 ^ c.loop-done.done % 2 ^ count = rw c.low_bits-part.ensures (part_at c.args.bytes.now c.args.at c.loop-done.done count (λ i. omega (arith, c.type_inv.bytes i)) (omega arith)) in
    let whole : c.low_bits-part.result * 2 ^ c.loop-done.done % 18446744073709551616 ≡ c.low_bits-part.result * 2 ^ c.loop-done.done = omega (arith, f) in
    record {
      value = rw (whole, read, c.loop-done.invariant.value) (read_more n c.loop-done.done count);
      within = omega arith;
    }
