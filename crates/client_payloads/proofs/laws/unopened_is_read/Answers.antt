use Rattle.client_payloads.proofs.Knowing.{unopened_known}
use Rattle.client_payloads.proofs.laws.unopened_is_read.Goals as goal

pub returns : goal.returns
returns c = λ layout copies past first bits stands plain.
    unopened_known layout copies past first bits stands.shows plain
