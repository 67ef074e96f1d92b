use Rattle.std.proofs.Common.{◌≡◌, ◌≤◌, min, drop}
use Rattle.script_model.specs.Script.{digits_value}
use Rattle.script_spelling.specs.Capped.{most_size}
use Rattle.script_spelling.proofs.numbers.capped_value.Given as goal

abbrev pub invariant-loop-digit : goal.invariant-loop-digit
invariant-loop-digit l =
    (l.value ≤ most_size)
    × (min most_size (digits_value l.value (drop l.digit-index l.text)) ≡ min most_size (digits_value 0 l.text))
