use Rattle.std.proofs.Common.{◌∙◌}
use Rattle.protocol_model.specs.World.{class_at}
use Rattle.class_layout.specs.Tables.{table_in}
use Rattle.script_reading.proofs.Linked.{settable_is}
use Rattle.script_reading.proofs.names.settable.Goals as goal

pub returns : goal.returns
returns c =
    c.settable_in.ensures
    ∙ settable_is (class_at (table_in c.args.classes.now) c.args.class) c.props_at-props.result.now c.args.name.now
    c.props_at-props.ensures.props
