use Rattle.std.proofs.Common.{arith}
use Rattle.script_reading.proofs.Whole.{whole_ok, whole_bad}
use Rattle.script_reading.proofs.script.read_script.Goals as goal

pub returns-clause-ok : goal.returns-clause-ok
returns-clause-ok c =
    whole_ok c.args.classes.now c.args.live c.args.bytes.now c.read_lines.result (omega arith) c.read_lines.ensures.ok

pub returns-clause-refused : goal.returns-clause-refused
returns-clause-refused c =
    whole_bad c.args.classes.now c.args.live c.args.bytes.now c.read_lines.result (omega arith)
    c.read_lines.ensures.refused
