use Rattle.std.proofs.Common.{◌≡◌, ◌++◌, map, drop, string_bytes}
use Rattle.event_text.specs.Words.{after_words, word_of}
use Rattle.event_text.proofs.words.args_text.Given as goal

abbrev pub invariant-loop-arg : goal.invariant-loop-arg
invariant-loop-arg l =
    string_bytes l.text ++ after_words (map word_of (drop l.arg-index l.args)) ≡ after_words (map word_of l.args)
