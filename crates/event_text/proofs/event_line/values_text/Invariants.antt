use Rattle.std.proofs.Common.{◌≡◌, ◌++◌, map, drop, string_bytes}
use Rattle.event_text.specs.Words.{after_words, value_text}
use Rattle.event_text.proofs.event_line.values_text.Given as goal

abbrev pub invariant-loop-pair : goal.invariant-loop-pair
invariant-loop-pair l =
    string_bytes l.text ++ after_words (map (value_text l.class) (drop l.pair-index l.values))
    ≡ after_words (map (value_text l.class) l.values)
