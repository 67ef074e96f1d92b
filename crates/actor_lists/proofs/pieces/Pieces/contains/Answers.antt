use Rattle.std.proofs.Common.{◌∙◌, ap, ℕ, List}
use Rattle.std.specs.Prelude.{nat_lt}
use Rattle.actor_lists.specs.Shared.{count_of, all_actors}
use Rattle.actor_lists.proofs.Counts.{found}
use Rattle.actor_lists.proofs.pieces.Pieces.contains.Goals as goal

pub returns : goal.returns
returns c =
    c.is_some.ensures
    ∙ found c.deref.result.now c.args.actor c.place_of.result c.place_of.ensures.some c.place_of.ensures.none
    ∙ ap (λ (l : List ℕ). nat_lt 0 (count_of c.args.actor l)) (ap all_actors c.deref.ensures.value ∙ c.self.view_is)
