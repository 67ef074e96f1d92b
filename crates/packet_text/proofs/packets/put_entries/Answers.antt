use Rattle.std.proofs.Common.{arith}
use Rattle.program_model.specs.Checked.{line}
use Rattle.program_model.specs.Shown.{rec_words}
use Rattle.packet_codec.specs.Values.{rec_of}
use Rattle.packet_text.proofs.Words.{entry_more}
use Rattle.packet_text.proofs.packets.put_entries.Goals as goal

pub loop-entry-preserved : goal.loop-entry-preserved
loop-entry-preserved c =
    entry_more (λ rec. line (rec_words rec)) (λ rec. rec_of rec) _ _ _ c.args.entries.now c.loop-entry.entry-index
    c.entry-item.result (omega arith) c.entry-item.is c.in_ok-put_entry.ensures c.loop-entry.invariant
