use Rattle.std.proofs.Common.{◌∙◌, sym, subst}
use Rattle.world_table.specs.Kept.{Kept}
use Rattle.world_table.specs.Stands.{Stands}
use Rattle.world_table.proofs.world.World.added.Goals as goal

pub returns : goal.returns
returns c = λ edits h.
    let inside = subst (λ (w : Kept). Stands w edits) (sym c.self.view_is) h in
    c.contains.ensures ∙ inside.added c.args.actor c.args.player
