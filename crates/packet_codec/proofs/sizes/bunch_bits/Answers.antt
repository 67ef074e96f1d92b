use Rattle.std.proofs.Common.{arith}
use Rattle.packet_codec.specs.Values.{bunch_of}
use Rattle.protocol_laws.proofs.FieldLengths.{bunch_length, one_length, two_length}
use Rattle.packet_codec.proofs.sizes.bunch_bits.Goals as goal
use Rattle.packet_codec.proofs.sizes.bunch_bits.Goals.{in-One, in-Two}

pub returns : goal.returns
returns c =
    let b = bunch_of c.args.b.now in
    let control = c.control_width.ensures.width b.sleeps b.reliable in
    let channel = c.channel_width.ensures.width in
    let numbered = c.numbered_width.ensures.width b.seq b.kind in
    let payload = c.len.ensures.count in
    let whole = bunch_length c.args.version b in
    elim c.match-version.branch [
      | in-One w ↦ (let entry = one_length c.args.version b w.in-One.is in let mark = w.mark-is in omega (arith, control, channel, numbered, payload, whole, entry, mark))
      | in-Two w ↦ (let entry = two_length c.args.version b w.in-Two.is in let mark = w.mark-is in omega (arith, control, channel, numbered, payload, whole, entry, mark))
    ]
