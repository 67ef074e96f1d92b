use Rattle.headline_laws.proofs.PastGrows.{opens_export}
use Rattle.headline_laws.proofs.servers.opens_export_the_rest.Goals as goal

pub returns : goal.returns
returns c = opens_export
