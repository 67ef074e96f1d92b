use Rattle.std.proofs.Common.{◌∙◌, ap, ℕ, List}
use Rattle.std.specs.Prelude.{nat_lt}
use Rattle.actor_lists.specs.Shared.{count_of}
use Rattle.actor_lists.proofs.Counts.{found_in}
use Rattle.graph_nodes.proofs.holders.Players.contains.Goals as goal

pub returns : goal.returns
returns c =
    c.is_some.ensures
    ∙ found_in c.deref.result.now c.args.player c.index_of.result c.index_of.ensures.some c.index_of.ensures.none
    ∙ ap (λ (l : List ℕ). nat_lt 0 (count_of c.args.player l)) (c.deref.ensures.value ∙ c.self.view_is)
