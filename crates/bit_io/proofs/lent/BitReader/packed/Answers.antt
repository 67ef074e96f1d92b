use Rattle.std.proofs.Common.{refl}
use Rattle.bit_io.proofs.Places.{packed_end}
use Rattle.bit_io.proofs.lent.BitReader.packed.Goals as goal

pub returns-clause-moves : goal.returns-clause-moves
returns-clause-moves c =
    let r = c.args.self.now in
    let read = c.in_ok-value.ensures in
    record {
      place = packed_end r.bytes.now r.place r.to c.in_ok-value.end c.in_ok-value.value read.onward read.fits r.within read.exact;
      bytes = refl;
      to = refl;
    }
