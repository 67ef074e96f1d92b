use Rattle.actor_copies.proofs.CopyLists.{holder_known}
use Rattle.actor_copies.proofs.laws.holders_are_known.Goals as goal

pub returns : goal.returns
returns c = λ layout copies past ch stands. holder_known layout copies past ch stands.shows
