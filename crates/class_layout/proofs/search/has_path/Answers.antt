use Rattle.std.proofs.Common.{◌∙◌}
use Rattle.class_layout.proofs.Naming.{any_path}
use Rattle.class_layout.proofs.search.has_path.Goals as goal

pub returns : goal.returns
returns c = c.any_path.ensures ∙ any_path c.args.names.now c.args.segments.now c.args.classes.now
