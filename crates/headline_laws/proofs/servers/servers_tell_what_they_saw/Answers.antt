use Rattle.headline_laws.proofs.ServerSays.{server_says}
use Rattle.headline_laws.proofs.servers.servers_tell_what_they_saw.Goals as goal

pub returns : goal.returns
returns c = λ entries player edits end past is ok side run see. server_says entries is player edits ok end side past run see
