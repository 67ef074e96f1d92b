use Rattle.std.proofs.Common.{ℕ, ◌+◌, List, subst, arith, drop}
use Rattle.protocol_model.specs.Bits.{fixed_bits}
use Rattle.protocol_model.specs.Payload.{octets_bits}
use Rattle.protocol_laws.proofs.Digits.{length-digits}
use Rattle.payload_writing.proofs.Loops.{IsLeft, one_put, all_put, next_item, no_item}
use Rattle.payload_writing.proofs.fields.put_octets.Goals as goal

pub loop-byte-preserved : goal.loop-byte-preserved
loop-byte-preserved c =
    let bytes = c.args.bytes.now in
    let i = c.loop-byte.byte-index in
    let item = next_item bytes i 0 c.from.result c.loop-byte-test.true c.from.ensures in
    record {
      left = one_put c.args.w.now c.loop-byte.w c.put_fixed.new.self (octets_bits bytes) (fixed_bits 8 c.from.result)
          (octets_bits (drop (i + 1) bytes))
          (subst (λ (rest : List ℕ). IsLeft c.args.w.now c.loop-byte.w (octets_bits bytes) (octets_bits rest)) item
          c.loop-byte.invariant.left) c.put_fixed.ensures;
      room = omega (arith, c.loop-byte.invariant.room, c.put_fixed.ensures.spare, length-digits 8 c.from.result);
    }

pub returns-clause-bits : goal.returns-clause-bits
returns-clause-bits c =
    let bytes = c.args.bytes.now in
    all_put c.args.w.now c.loop-byte.w (octets_bits bytes)
    (subst (λ (rest : List ℕ). IsLeft c.args.w.now c.loop-byte.w (octets_bits bytes) (octets_bits rest))
    (no_item bytes c.loop-byte.byte-index c.loop-byte-test.false) c.loop-byte.invariant.left)
