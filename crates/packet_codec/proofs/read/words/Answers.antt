use Rattle.std.proofs.Common.{take}
use Rattle.protocol_model.specs.PacketReading.{words_at}
use Rattle.packet_codec.specs.Reads.{fault_of}
use Rattle.packet_codec.proofs.Loops.{words_step, words_stop}
use Rattle.packet_codec.proofs.Stopping.{stops_as}
use Rattle.packet_codec.proofs.read.words.Goals as goal

pub returns-in_err-words-clause-exact : goal.returns-in_err-words-clause-exact
returns-in_err-words-clause-exact c =
    let fault = c.in_err-words.field-0.0 in
    stops_as (take c.args.count) (words_at c.args.count) c.args.reader.now c.word.new.reader c.from_residual.result fault c.from_residual.ensures.1
    (words_stop c.args.reader.now c.loop-i.reader c.loop-i.words c.args.count c.loop-i.i (fault_of fault) c.loop-i.invariant c.loop-i-test.true c.in_err-words.ensures.exact)

pub loop-i-preserved : goal.loop-i-preserved
loop-i-preserved c = words_step c.args.reader.now c.loop-i.reader c.word.new.reader c.loop-i.words c.args.count c.loop-i.i c.in_ok-words.field-0 c.loop-i.invariant c.loop-i-test.true c.requires c.in_ok-words.ensures.exact c.in_ok-words.ensures.on
