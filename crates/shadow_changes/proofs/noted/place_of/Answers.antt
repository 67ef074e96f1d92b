use Rattle.std.proofs.Common.{rules}
use Rattle.std.specs.Prelude.{nat_lt}
use Rattle.std.proofs.lemmas.List.Sorted.{IsPartitionPoint-from_clause}
use Rattle.shadow_changes.proofs.Ascending.{parted}
use Rattle.shadow_changes.proofs.Putting.{place_is}
use Rattle.shadow_changes.proofs.noted.place_of.Goals as goal

pub returns-clause-place : goal.returns-clause-place
returns-clause-place c = λ count newest l.
    place_is c.args.changes.now c.args.prop c.partition_point.result
    (IsPartitionPoint-from_clause (λ x. nat_lt x.prop c.args.prop) _ _ c.partition_point.ensures.partitioned
    (λ i j d e f t. parted c.args.changes.now count newest 0 c.args.prop i j d l e f t) (λ a r q k. search rules))
