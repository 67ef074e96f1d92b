use Rattle.std.proofs.Common.{map}
use Rattle.actor_copies.specs.Copies.{copy_value_of}
use Rattle.actor_copies.proofs.CopyLists.{mirrors_all, count_known}
use Rattle.actor_copies.proofs.laws.copies_are_all.Goals as goal

pub returns-clause-copies : goal.returns-clause-copies
returns-clause-copies c =
    λ layout copies past stands. mirrors_all (map (copy_value_of layout) copies) past stands.shows

pub returns-clause-count : goal.returns-clause-count
returns-clause-count c = λ layout copies past stands. count_known layout copies past stands.shows
