use Rattle.client_laws.proofs.Heard.{heard_at_client}
use Rattle.client_laws.proofs.bunches.heard_is_read.Goals as goal

pub returns : goal.returns
returns c =
    λ end m entries handed before b e h p. rw e
    (heard_at_client end.version end.budget end.table m entries handed before b h p)
