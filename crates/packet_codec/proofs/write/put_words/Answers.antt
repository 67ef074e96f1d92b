use Rattle.std.proofs.Common.{arith, take, length-take}
use Rattle.protocol_laws.proofs.FieldLengths.{words_length}
use Rattle.packet_codec.proofs.write.put_words.Goals as goal

pub put_fixed-requires-clause-room : goal.put_fixed-requires-clause-room
put_fixed-requires-clause-room c =
    let i = c.loop-word.word-index in
    let put = c.loop-word.invariant.spare in
    omega (arith, put, words_length (take i c.args.words.now), length-take i c.args.words.now)
