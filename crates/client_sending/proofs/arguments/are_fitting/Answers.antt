use Rattle.std.proofs.Common.{sym}
use Rattle.client_sending.proofs.Fitting.{other_count}
use Rattle.client_sending.proofs.arguments.are_fitting.Goals as goal

pub returns-then-kinds-args : goal.returns-then-kinds-args
returns-then-kinds-args c = sym (other_count c.args.kinds.now c.args.args.now c.if-kinds-args.true)
