use Rattle.hearing_laws.proofs.Calm.{payloads_plain}
use Rattle.hearing_laws.proofs.plain.plain_bunches_begin_payloads.Goals as goal

pub returns : goal.returns
returns c = payloads_plain
