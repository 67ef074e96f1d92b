use Rattle.std.proofs.Common.{rules}
use Rattle.class_layout.proofs.heading.heading_after.Goals as goal

pub returns-in_err-must-2 : goal.returns-in_err-must-2
returns-in_err-must-2 c = search (rules, c.has_name.ensures c.args.segments.now)

pub returns-in_default-2 : goal.returns-in_default-2
returns-in_default-2 c = search (rules, c.has_name.ensures c.args.segments.now)
