use Rattle.std.proofs.Common.{ap, not}
use Rattle.protocol_model.specs.Side.{AtServer}
use Rattle.sender_steps.proofs.taking.fn.learn.retain.Goals as goal

pub returns : goal.returns
returns c = λ past k. ap not (c.has_arrived.ensures AtServer past k)
