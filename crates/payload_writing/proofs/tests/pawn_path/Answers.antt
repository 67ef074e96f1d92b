use Rattle.std.proofs.Common.{sym, ap, subst, ◌∙◌}
use Rattle.std.specs.Option.{option_copied}
use Rattle.payload_writing.specs.Exports.{MayExport}
use Rattle.payload_writing.proofs.tests.pawn_path.Goals as goal

pub returns : goal.returns
returns c =
    subst (MayExport c.args.classes.now.segments) (sym c.as_slice.ensures)
    (c.path_may_be_exported.ensures.whole c.args.classes.now 0 c.unwrap.result.now c.keeps_rules.ensures.layout
    (sym c.class.ensures ∙ ap option_copied c.unwrap.ensures))
