use Rattle.std.proofs.lemmas.Grind.{get_or_default_zero}
use Rattle.packet_codec.specs.Values.{packet_value}
use Rattle.protocol_laws.proofs.PacketLaws.{spelled_itself}
use Rattle.packet_codec.proofs.tests.spelled_again.Goals as goal

pub encode-requires-clause-spelled : goal.encode-requires-clause-spelled
encode-requires-clause-spelled c =
    let read = c.in-Ok.ensures.exact in
    spelled_itself c.args.version (packet_value c.in-Ok.packet) c.args.bytes.now
    (c.packet_was_spelled.ensures c.args.version (packet_value c.in-Ok.packet) c.args.bytes.now (λ k d l. rw (get_or_default_zero c.args.bytes.now k d l) (c.type_inv.bytes k).fits) read)
