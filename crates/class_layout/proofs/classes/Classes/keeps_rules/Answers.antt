use Rattle.std.proofs.Common.{subst}
use Rattle.class_layout.specs.Tables.{IsLayout}
use Rattle.class_layout.proofs.classes.Classes.keeps_rules.Goals as goal

pub returns-clause-rules : goal.returns-clause-rules
returns-clause-rules c = (subst IsLayout c.self.view_is c.self.invariant).table

pub returns-clause-layout : goal.returns-clause-layout
returns-clause-layout c = subst IsLayout c.self.view_is c.self.invariant
