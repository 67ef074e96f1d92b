use Rattle.std.proofs.lemmas.Nat.{one_shl, and_mask}
use Rattle.bit_io.proofs.words.low_bits.Goals as goal

pub returns : goal.returns
returns c = rw (one_shl c.args.count 64 c.requires) (and_mask c.args.value c.args.count)
