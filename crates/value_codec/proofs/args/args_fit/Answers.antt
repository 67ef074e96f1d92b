use Rattle.std.proofs.Common.{sym}
use Rattle.value_codec.proofs.Fitting.{other_count}
use Rattle.value_codec.proofs.args.args_fit.Goals as goal

pub returns-then-kinds-args : goal.returns-then-kinds-args
returns-then-kinds-args c = sym (other_count c.args.kinds.now c.args.args.now c.if-kinds-args.true)
