use Rattle.std.proofs.Common.{take}
use Rattle.bit_io.specs.Written.{Appends}
use Rattle.protocol_laws.specs.Parts.{words_bits}
use Rattle.packet_codec.proofs.write.put_words.Given as goal

abbrev pub invariant-loop-word : goal.invariant-loop-word
invariant-loop-word l = Appends l.fn.w l.w (words_bits (take l.word-index l.words))
