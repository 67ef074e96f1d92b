use Rattle.client_payloads.proofs.Knowing.{opens_known}
use Rattle.client_payloads.proofs.laws.open_is_read.Goals as goal

pub returns : goal.returns
returns c = λ layout copies past first bits stands z closes opens.
    opens_known layout copies past first bits stands.shows z closes opens
