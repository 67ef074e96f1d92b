use Rattle.std.proofs.Common.{◌∙◌}
use Rattle.script_reading.proofs.CappedValues.{value_is}
use Rattle.script_reading.proofs.arguments.value.Goals as goal

pub returns-clause-number : goal.returns-clause-number
returns-clause-number c =
    c.in_kind.ensures.number
    ∙ value_is c.args.kind c.args.text.now c.number-n.result c.is_small.ensures c.number-n.ensures
