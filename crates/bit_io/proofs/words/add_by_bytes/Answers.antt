use Rattle.std.proofs.Common.{◌≡◌, ◌+◌, ◌*◌, ◌%◌, ◌^◌, arith}
use Rattle.std.proofs.lemmas.Nat.{mod_below, pow_pos}
use Rattle.bit_io.proofs.Steps.{step_same, step_rest, step_clear}
use Rattle.protocol_laws.specs.Packed.{number_of_bytes}
use Rattle.bit_io.proofs.words.add_by_bytes.Goals as goal

pub loop-left-preserved : goal.loop-left-preserved
loop-left-preserved c =
    let i = c.loop-left.invariant in
    let count = c.min-count.result in
    let e : number_of_bytes c.add_part.new.bytes.items ≡ number_of_bytes c.loop-left.bytes.items + c.loop-left.rest % 2 ^ count * 2 ^ c.loop-left.place = rw (← c.low_bits-part.ensures) c.add_part.ensures.number in
    record {
      same = step_same (number_of_bytes c.loop-left.bytes.items) _ c.loop-left.rest c.loop-left.place count _ e i.same;
      rest = step_rest c.loop-left.rest count c.loop-left.left i.rest (omega arith);
      clear = step_clear (number_of_bytes c.loop-left.bytes.items) _ (c.loop-left.rest % 2 ^ count) c.loop-left.place count e i.clear (mod_below _ _ (pow_pos count));
      room = omega arith;
      width = omega arith;
      len = omega arith;
    }
