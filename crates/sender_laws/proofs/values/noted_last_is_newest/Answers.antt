use Rattle.std.proofs.Common.{arith}
use Rattle.sender_laws.proofs.Samples.{noted_last}
use Rattle.sender_laws.proofs.values.noted_last_is_newest.Goals as goal

pub returns : goal.returns
returns c = λ samples tick place noted turn le e. noted_last samples tick noted place noted turn le e (omega arith)
