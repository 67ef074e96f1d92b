use Rattle.std.proofs.Common.{sym}
use Rattle.protocol_laws.proofs.Digits.{length-digits}
use Rattle.bit_io.proofs.writer.BitWriter.len.Goals as goal

pub returns : goal.returns
returns c = rw (← c.self.view_is) (sym (length-digits _ _))
