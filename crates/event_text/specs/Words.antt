-- Lines by their words.
use Rattle.std.specs.Prelude.{ℕ, List, [], ◌∷◌, ◌++◌, map, Option, codes, decimal}
use Rattle.std.specs.Fmt.{signed_decimal}
use Rattle.std.specs.Borrow.{Bor}
use Rattle.script_model.specs.Lines.{Text}
use Rattle.script_model.specs.Reports.{Report, Copy, words, actor_text, state_word, handed_word, arg_text}
use Rattle.value_codec.specs.Values.{arg_of, whole_of}
use Rattle.value_codec.specs.declared.handed.Handed.{Handed}
use Rattle.value_codec.specs.declared.pair.Pair.{Pair}
use Rattle.value_codec.specs.declared.args.Arg.{Arg}
use Rattle.class_layout.specs.declared.class.Class.{Class}
use Rattle.protocol_model.specs.Value.{Table}
use Rattle.protocol_model.specs.World.{class_at}
use Rattle.script_lines.specs.ReportOf.{call_name, named_value}
use Rattle.event_text.specs.Found.{called_at, class_name, own_name, called_name}

-- one line of these words
abbrev pub line : List Text → Text
line ws = words ws ++ 10 ∷ []

-- words, each after a space
abbrev pub after_words : List Text → Text
after_words [] = []
after_words (w ∷ ws) = 32 ∷ (w ++ after_words ws)

-- a value after its name
abbrev pub value_text : Option (Bor Class) → Pair → Text
value_text class p = own_name class p.prop ++ 61 ∷ signed_decimal (whole_of p.value)

-- an argument
abbrev pub word_of : Arg → Text
word_of a = arg_text (arg_of a)

-- a call that was handed over, whose arguments stand after its verdict
abbrev pub handed_text : (word : Text) (player : ℕ) → Option (Bor Class) → Handed → Text
handed_text word player class h =
    line (word ∷ decimal player ∷ actor_text h.actor ∷ called_name (called_at class h.call)
    ∷ (handed_word h.verdict ++ after_words (map word_of h.args)) ∷ [])

-- a copy, whose values stand after its state
abbrev pub copy_text : (player actor : ℕ) → Option (Bor Class) → (channel : Option ℕ) → List Pair → Text
copy_text player actor class channel values =
    line (codes "copy" ∷ decimal player ∷ actor_text actor ∷ class_name class
    ∷ (state_word channel ++ after_words (map (value_text class) values)) ∷ [])

-- the words of a call that was handed over, by the table, without the first one
abbrev pub handed_words : Table → (player : ℕ) → Handed → List Text
handed_words table player h =
    decimal player ∷ actor_text h.actor ∷ call_name (class_at table h.class) h.call
    ∷ handed_word h.verdict ∷ map arg_text (map arg_of h.args)

-- the report of a copy, by the table
abbrev pub copied_report : Table → (player actor class : ℕ) → (channel : Option ℕ) → List Pair → Report
copied_report table player actor class channel values =
    Copy player actor (class_at table class).name channel (map (named_value (class_at table class)) values)
