use Rattle.std.proofs.Common.{◌≡◌, ◌++◌, map, drop, string_bytes}
use Rattle.program_model.specs.Shown.{word_text}
use Rattle.event_text.specs.Words.{after_words}
use Rattle.packet_text.proofs.packets.words_text.Given as goal

abbrev pub invariant-loop-word : goal.invariant-loop-word
invariant-loop-word l =
    string_bytes l.text ++ after_words (map word_text (drop l.word-index l.history)) ≡ after_words (map word_text l.history)
