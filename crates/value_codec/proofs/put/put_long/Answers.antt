use Rattle.std.proofs.lemmas.Int.{to_z-of_z}
use Rattle.std.specs.Int.{w64}
use Rattle.protocol_laws.proofs.TwosComplement.{signed_long}
use Rattle.value_codec.proofs.put.put_long.Goals as goal

pub returns : goal.returns
returns c = rw (signed_long c.args.z c.ranges.z) (rw (c.cast_unsigned.ensures, to_z-of_z w64 c.args.z c.ranges.z) at
    c.put_fixed.ensures)
