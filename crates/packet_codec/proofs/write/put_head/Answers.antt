use Rattle.std.proofs.Common.{arith, take, length-take, length, ◌-◌}
use Rattle.protocol_laws.proofs.FieldLengths.{power_width}
use Rattle.packet_codec.proofs.write.put_head.Goals as goal

pub put_int-requires-2-clause-room : goal.put_int-requires-2-clause-room
put_int-requires-2-clause-room c = let put = c.put_int.ensures.spare in omega (arith, put, power_width 14 c.args.head.top (omega arith))

pub put_words-requires : goal.put_words-requires
put_words-requires c =
    let top = c.put_int.ensures.spare in
    let count = c.put_int-2.ensures.spare in
    omega (arith, top, count, power_width 14 c.args.head.top (omega arith), power_width 3 (length (take c.args.head.count c.args.head.words) - 1) (omega arith), power_width 3 (c.args.head.count - 1) (omega arith), length-take c.args.head.count c.args.head.words)
