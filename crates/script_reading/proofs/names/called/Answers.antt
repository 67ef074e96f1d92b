use Rattle.std.proofs.Common.{◌∙◌}
use Rattle.protocol_model.specs.World.{class_at}
use Rattle.class_layout.specs.Tables.{table_in}
use Rattle.script_reading.specs.Members.{called_in}
use Rattle.script_reading.proofs.Linked.{called_is, lent_call}
use Rattle.script_reading.proofs.names.called.Goals as goal

pub returns : goal.returns
returns c =
    lent_call c.called_in.result (called_in c.calls_at-calls.result.now c.args.name.now c.args.count)
    c.called_in.ensures
    ∙ called_is (class_at (table_in c.args.classes.now) c.args.class) c.calls_at-calls.result.now c.args.name.now
    c.args.count c.calls_at-calls.ensures.calls
