-- How a sample in the making goes on.
use Rattle.std.specs.Prelude.{◌≡◌, ◌++◌, string_bytes}
use Rattle.script_model.specs.Lines.{Text}
use Rattle.sample_script.specs.SampleScript.{Drawing}
use Rattle.sample_script.specs.declared.drawing.Sample.{Sample}

-- what is drawn stands after the text so far, and its numbers are taken
abbrev pub Writes : Drawing Text → (old new : Sample) → Type 0
Writes drawing old new =
    (string_bytes new.text ≡ string_bytes old.text ++ (drawing old.numbers).0) × (new.numbers ≡ (drawing old.numbers).1)

-- the text stands after the text so far, and no number is taken
abbrev pub Appends : Text → (old new : Sample) → Type 0
Appends text old new = (string_bytes new.text ≡ string_bytes old.text ++ text) × (new.numbers ≡ old.numbers)
