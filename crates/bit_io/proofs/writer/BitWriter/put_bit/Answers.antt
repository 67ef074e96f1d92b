use Rattle.std.proofs.Common.{◌≡◌, ◌-◌, ◌*◌, ap, arith, length}
use mir.Val.{bool_byte}
use Rattle.bit_io.specs.Written.{Written}
use Rattle.bit_io.proofs.PutSteps.{put_appends, digits-bit}
use Rattle.bit_io.proofs.writer.BitWriter.put_bit.Goals as goal

pub returns : goal.returns
returns c =
    let spare : 8 * length c.self.inside.bytes.items - c.self.inside.len ≡ c.args.self.now.spare = ap (λ (w : Written). w.spare) c.self.view_is in
    rw (← c.self.view_is, ← digits-bit c.args.bit) (put_appends c.self.inside.bytes.items _ c.self.inside.len (bool_byte c.args.bit) 1 c.self.invariant (omega arith) c.add_bits.ensures.len c.add_bits.ensures.number)
