use Rattle.std.proofs.Common.{◌∙◌, ap}
use Rattle.script_model.specs.Reports.{hex_of}
use Rattle.packet_text.proofs.Words.{word_more}
use Rattle.packet_text.proofs.packets.put_word.Goals as goal

pub returns : goal.returns
returns c =
    word_more _ _ c.args.word.now _ c.in_ok-write.ensures.bytes
    (c.in_ok-word.ensures ∙ ap (λ bytes. hex_of bytes) c.to_be_bytes.ensures)
