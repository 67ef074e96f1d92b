use Rattle.protocol_laws.proofs.BytesLaws.{bytes_of-bits_of}
use Rattle.protocol_laws.proofs.bytes.bits_make_bytes.Goals as goal

pub returns : goal.returns
returns c = bytes_of-bits_of
