use Rattle.std.proofs.Common.{◌∙◌, ap, map, take}
use Rattle.program_model.specs.Shown.{head_text, word_text}
use Rattle.event_text.specs.Words.{after_words}
use Rattle.packet_text.proofs.Words.{head_is}
use Rattle.packet_text.proofs.packets.put_head.Goals as goal

pub returns-in_ok-writeln-in-Two : goal.returns-in_ok-writeln-in-Two
returns-in_ok-writeln-in-Two c =
    let head = c.args.head.now in
    rw (c.in-Two.is, head_text)
    (head_is _ _ head.top _ _ c.in_ok-writeln-in-Two.ensures.bytes
    (c.in_ok-history-in-Two.ensures ∙ ap (λ n. after_words (map word_text (take n head.words))) c.from.ensures))
