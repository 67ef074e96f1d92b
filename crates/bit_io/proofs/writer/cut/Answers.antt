use Rattle.std.proofs.Common.{◌+◌, ◌/◌, take, sym, ◌∙◌}
use Rattle.protocol_laws.proofs.Digits.{IsBytes, bytes_all}
use Rattle.bit_io.proofs.PutSteps.{bytes_of-written}
use Rattle.bit_io.proofs.writer.cut.Goals as goal

pub returns : goal.returns
returns c =
    let all : IsBytes (take ((c.args.len + 7) / 8) c.args.bytes.now.items) = rw (← c.truncate.ensures.items) (bytes_all c.truncate.new.self.items c.type_inv.bytes) in
    c.truncate.ensures.items ∙ sym (bytes_of-written c.args.bytes.now.items c.args.len all c.requires.clear)
