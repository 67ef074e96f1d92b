use Rattle.std.proofs.Common.{arith}
use Rattle.event_text.specs.Words.{word_of}
use Rattle.event_text.proofs.AfterWords.{turn}
use Rattle.event_text.proofs.words.args_text.Goals as goal

pub loop-arg-preserved : goal.loop-arg-preserved
loop-arg-preserved c =
    turn word_of _ _ _ c.args.args.now c.loop-arg.arg-index c.arg-item.result (omega arith) c.arg-item.is
    c.in_ok-put_arg.ensures c.loop-arg.invariant
