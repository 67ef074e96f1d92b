use Rattle.event_text.proofs.AfterWords.{handed_written}
use Rattle.event_text.proofs.transcript.handed_text.Goals as goal

pub returns : goal.returns
returns c =
    handed_written _ c.args.classes.now c.args.word.now c.args.player c.class.result c.args.handed.now c.class.ensures
    c.handed_line.ensures
