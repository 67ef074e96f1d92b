use Rattle.std.proofs.Common.{◌≡◌, ◌<◌, ◌+◌, ◌-◌, ◌/◌, ◌%◌, ◌^◌, sym, ap, ◌∙◌, arith}
use Rattle.std.proofs.lemmas.Nat.{mod_below, pow_pos, shr-shr}
use Rattle.protocol_laws.specs.Packed.{number_of_bytes}
use Rattle.protocol_model.specs.Bits.{digits}
use Rattle.protocol_laws.proofs.Digits.{digits-mod}
use Rattle.bit_io.proofs.Places.{between-is}
use Rattle.bit_io.proofs.Steps.{slice_same, slice_clear}
use Rattle.bit_io.proofs.words.add_slice.Goals as goal

pub loop-done-preserved : goal.loop-done-preserved
loop-done-preserved c =
    let i = c.loop-done.invariant in
    let done = c.loop-done.done in
    let count = c.min-width.result in
    let source = number_of_bytes c.args.source.now in
    let cur = number_of_bytes c.loop-done.bytes.items in
    let part : c.bits_at-part.result ≡ source / 2 ^ c.args.from / 2 ^ done % 2 ^ count = c.bits_at-part.ensures ∙ ap (λ m. m % 2 ^ count) (sym (shr-shr source c.args.from done)) in
    let small : c.bits_at-part.result < 2 ^ count = rw part (mod_below _ _ (pow_pos count)) in
    record {
      same = slice_same (number_of_bytes c.args.bytes.now.items) cur _ (source / 2 ^ c.args.from) done count c.args.at c.bits_at-part.result c.add_bits.ensures.number i.same part;
      clear = slice_clear cur _ c.args.at done count c.bits_at-part.result c.add_bits.ensures.number i.clear small;
      within = omega arith;
      len = omega arith;
    }

pub returns-clause-part : goal.returns-clause-part
returns-clause-part c =
    let n = number_of_bytes c.args.source.now / 2 ^ c.args.from in
    let e : c.args.from + c.args.count - c.args.from ≡ c.args.count = omega arith in
    digits-mod c.args.count n ∙ sym (between-is c.args.source.now c.args.from (c.args.from + c.args.count) (λ i. omega (arith, c.type_inv.source i)) (omega arith) c.requires.within ∙ ap (λ k. digits k n) e)
