use Rattle.std.proofs.Common.{◌++◌, ◌∙◌, ap, codes, decimal, string_bytes}
use Rattle.program_model.specs.Shown.{word_if}
use Rattle.packet_codec.specs.Values.{bunch_of}
use Rattle.event_text.specs.Words.{after_words}
use Rattle.packet_text.proofs.Words.{bunch_is}
use Rattle.packet_text.proofs.entries.bunch_text.Goals as goal

pub returns : goal.returns
returns c =
    let b = bunch_of c.args.bunch.now in
    bunch_is b _ _ _ _ _ _ _ _
    (c.in_ok-put_if.ensures ∙ ap (λ t. t ++ after_words (word_if b.opens (codes "open"))) c.in_ok-text.ensures.ok)
    c.in_ok-put_if-2.ensures c.in_ok-put_if-3.ensures c.in_ok-put_if-4.ensures c.in_ok-put_if-5.ensures
    c.in_ok-put_part.ensures c.in_ok-put_number.ensures
    (c.in_ok-write.ensures.bytes
    ∙ ap (λ n. string_bytes c.put_number.new.text ++ (codes " bits " ++ decimal n)) c.len-bits.ensures.count)
