use Rattle.class_layout.proofs.Naming.{other_length}
use Rattle.class_layout.specs.Tables.{segment_at}
use Rattle.class_layout.proofs.search.is_path.Goals as goal

pub returns-then-names-path : goal.returns-then-names-path
returns-then-names-path c =
    other_length c.args.names.now (segment_at c.args.segments.now) c.args.path.now c.if-names-path.true
