use Rattle.std.proofs.lemmas.Int.{to_z-of_z}
use Rattle.std.specs.Int.{w32}
use Rattle.protocol_laws.proofs.TwosComplement.{signed_word}
use Rattle.value_codec.proofs.put.put_word.Goals as goal

pub returns : goal.returns
returns c = rw (signed_word c.args.z c.ranges.z) (rw (c.cast_unsigned.ensures, to_z-of_z w32 c.args.z c.ranges.z) at
    c.put_fixed.ensures)
