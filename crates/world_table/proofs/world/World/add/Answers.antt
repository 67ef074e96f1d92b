use Rattle.std.proofs.Common.{sym, subst}
use Rattle.world_table.specs.Kept.{Kept}
use Rattle.world_table.specs.Stands.{Stands}
use Rattle.world_table.proofs.Seats.{add_stands}
use Rattle.world_table.proofs.world.World.add.Goals as goal

pub returns-clause-stands : goal.returns-clause-stands
returns-clause-stands c = λ edits h.
    let inside = subst (λ (w : Kept). Stands w edits) (sym c.self.view_is) h in
    add_stands _ edits c.args.actor c.args.player c.args.on c.put.new.self inside c.in_ok-put.ensures.each
