use Rattle.protocol_laws.proofs.BytesLaws.{bits_of-bytes_of}
use Rattle.protocol_laws.proofs.bytes.bytes_hold_bits.Goals as goal

pub returns : goal.returns
returns c = bits_of-bytes_of
