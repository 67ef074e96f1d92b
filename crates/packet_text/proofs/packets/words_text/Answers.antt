use Rattle.std.proofs.Common.{arith}
use Rattle.program_model.specs.Shown.{word_text}
use Rattle.event_text.proofs.AfterWords.{turn}
use Rattle.packet_text.proofs.Lines.{at_place}
use Rattle.packet_text.proofs.packets.words_text.Goals as goal

pub loop-word-preserved : goal.loop-word-preserved
loop-word-preserved c =
    turn word_text _ _ _ c.args.history.now c.loop-word.word-index _ (omega arith)
    (at_place c.args.history.now c.loop-word.word-index (omega arith)) c.in_ok-put_word.ensures c.loop-word.invariant
