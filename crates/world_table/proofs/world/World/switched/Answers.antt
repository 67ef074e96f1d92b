use Rattle.std.proofs.Common.{◌∙◌, sym, subst}
use Rattle.world_table.specs.Kept.{Kept}
use Rattle.world_table.specs.Stands.{Stands}
use Rattle.world_table.proofs.Asked.{switched_is}
use Rattle.world_table.proofs.world.World.switched.Goals as goal

pub returns : goal.returns
returns c = λ edits h.
    let inside = subst (λ (w : Kept). Stands w edits) (sym c.self.view_is) h in
    let got = rw (c.deref.ensures.value, c.deref-2.ensures.value) at c.switch_for.ensures in
    rw (← c.self.view_is) (got ∙ switched_is _ edits c.args.actor c.args.prop inside)
