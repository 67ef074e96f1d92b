use Rattle.std.proofs.Common.{◌≡◌, ◌-◌, ◌*◌, ap, arith, length}
use Rattle.bit_io.specs.Written.{Written}
use Rattle.bit_io.proofs.PutSteps.{put_clear, put_appends}
use Rattle.bit_io.proofs.writer.BitWriter.put_fixed.Goals as goal

pub invariant_of-self : goal.invariant_of-self
invariant_of-self c =
    let spare : 8 * length c.self.inside.bytes.items - c.self.inside.len ≡ c.args.self.now.spare = ap (λ (w : Written). w.spare) c.self.view_is in
    put_clear c.self.inside.bytes.items _ c.self.inside.len c.args.value c.args.width c.self.invariant (omega arith) c.requires.fits c.add_bits.ensures.len c.add_bits.ensures.number

pub returns : goal.returns
returns c =
    let spare : 8 * length c.self.inside.bytes.items - c.self.inside.len ≡ c.args.self.now.spare = ap (λ (w : Written). w.spare) c.self.view_is in
    rw (← c.self.view_is) (put_appends c.self.inside.bytes.items _ c.self.inside.len c.args.value c.args.width c.self.invariant (omega arith) c.add_bits.ensures.len c.add_bits.ensures.number)
