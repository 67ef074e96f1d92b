use Rattle.std.proofs.Common.{arith}
use Rattle.event_text.specs.Words.{value_text}
use Rattle.event_text.proofs.AfterWords.{turn}
use Rattle.event_text.proofs.event_line.values_text.Goals as goal

pub loop-pair-preserved : goal.loop-pair-preserved
loop-pair-preserved c =
    turn (value_text c.args.class) _ _ _ c.args.values.now c.loop-pair.pair-index c.pair-item.result (omega arith)
    c.pair-item.is c.in_ok-put_value.ensures c.loop-pair.invariant
