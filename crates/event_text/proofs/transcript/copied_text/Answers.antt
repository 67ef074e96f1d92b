use Rattle.event_text.proofs.AfterWords.{copy_written}
use Rattle.event_text.proofs.transcript.copied_text.Goals as goal

pub returns : goal.returns
returns c =
    copy_written _ c.args.classes.now c.args.player c.args.actor c.args.class c.class.result c.args.channel
    c.args.values.now c.class.ensures c.copy_line.ensures
