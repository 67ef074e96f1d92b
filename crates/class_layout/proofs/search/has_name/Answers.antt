use Rattle.std.proofs.Common.{◌∙◌}
use Rattle.class_layout.proofs.Naming.{any_class}
use Rattle.class_layout.proofs.search.has_name.Goals as goal

pub returns : goal.returns
returns c segments = c.any_name.ensures ∙ any_class c.args.name.now segments c.args.classes.now
