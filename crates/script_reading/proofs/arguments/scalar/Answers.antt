use Rattle.std.proofs.Common.{◌∙◌, ap}
use Rattle.script_reading.proofs.CappedValues.{scalar_in, scalar_is}
use Rattle.script_reading.proofs.Tags.{scalar_tag}
use Rattle.script_reading.proofs.arguments.scalar.Goals as goal

pub returns-in-Ok-clause-number : goal.returns-in-Ok-clause-number
returns-in-Ok-clause-number c = ap scalar_in c.in-Ok.ensures.number ∙ scalar_is c.args.kind c.args.text.now

pub returns-in-Ok-clause-tag : goal.returns-in-Ok-clause-tag
returns-in-Ok-clause-tag c = scalar_tag c.args.kind c.in-Ok.value c.in-Ok.ensures.tag

pub returns-in-Err-clause-number : goal.returns-in-Err-clause-number
returns-in-Err-clause-number c = ap scalar_in c.in-Err.ensures.number ∙ scalar_is c.args.kind c.args.text.now
