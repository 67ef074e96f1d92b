use Rattle.std.proofs.Common.{◌∙◌}
use Rattle.class_layout.proofs.Finding.{path_place}
use Rattle.class_layout.proofs.search.find_path.Goals as goal

pub returns : goal.returns
returns c =
    c.narrow.ensures ∙ c.path_position.ensures ∙ path_place c.args.segments.now c.args.classes.now c.args.names.now
