use Rattle.std.proofs.Common.{◌≡◌, ◌≤◌, min, drop}
use Rattle.script_model.specs.Script.{digits_value}
use Rattle.table_json.proofs.types.capped_value.Given as goal

abbrev pub invariant-loop-digit : goal.invariant-loop-digit
invariant-loop-digit l =
    (l.value ≤ 65536)
    × (min 65536 (digits_value l.value (drop l.digit-index l.text)) ≡ min 65536 (digits_value 0 l.text))
