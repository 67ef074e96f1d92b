use Rattle.std.proofs.Common.{◌≡◌, ◌-◌, ◌*◌, ap, arith, length}
use Rattle.bit_io.specs.Written.{Written}
use Rattle.bit_io.proofs.PutSteps.{put_clear, put_appends}
use Rattle.bit_io.proofs.writer.BitWriter.put_packed.Goals as goal

pub invariant_of-self : goal.invariant_of-self
invariant_of-self c =
    let spare : 8 * length c.self.inside.bytes.items - c.self.inside.len ≡ c.args.self.now.spare = ap (λ (w : Written). w.spare) c.self.view_is in
    let word = c.packed_word-word.ensures in
    put_clear c.self.inside.bytes.items _ c.self.inside.len c.packed_word-word.result.0 c.packed_word-word.result.1 c.self.invariant (omega (arith, word.width)) word.below c.add_bits.ensures.len c.add_bits.ensures.number

pub returns : goal.returns
returns c =
    let spare : 8 * length c.self.inside.bytes.items - c.self.inside.len ≡ c.args.self.now.spare = ap (λ (w : Written). w.spare) c.self.view_is in
    let word = c.packed_word-word.ensures in
    rw (← c.self.view_is, ← word.spelling)
    (put_appends c.self.inside.bytes.items _ c.self.inside.len c.packed_word-word.result.0 c.packed_word-word.result.1 c.self.invariant (omega (arith, word.width)) c.add_bits.ensures.len c.add_bits.ensures.number)
