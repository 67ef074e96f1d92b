use Rattle.std.proofs.Common.{◌∙◌, ◌==◌, List, sym, ap, subst, rules, w32, if◌then◌else◌}
use Rattle.std.proofs.lemmas.Int.{to_z-of_z}
use mir.Val.{SFits}
use Rattle.world_table.specs.Kept.{Kept, seat_at}
use Rattle.world_table.specs.declared.seat.Seat.{Seat}
use Rattle.world_table.specs.Stands.{Stands}
use Rattle.world_table.proofs.Seats.{team_stands}
use Rattle.world_table.proofs.world.World.set_team.Goals as goal

pub returns-clause-stands : goal.returns-clause-stands
returns-clause-stands c = λ edits h.
    let x_fits : SFits w32 c.seat_for-x.result.x = search rules in
    let y_fits : SFits w32 c.seat_for-x.result.y = search rules in
    let each = simp to_z-of_z at c.in_ok-put_seat.ensures.each in
    let inside = subst (λ (w : Kept). Stands w edits) (sym c.self.view_is) h in
    team_stands _ edits c.args.player c.args.team c.put_seat.new.seats.items inside
    (λ p.
    each p
    ∙ ap (λ (s : Seat).
    if p == c.args.player then record { x = s.x; y = s.y; team = c.args.team } else seat_at
    c.self.inside.seats.items p)
    (c.seat_for-x.ensures ∙ ap (λ (seats : List Seat). seat_at seats c.args.player) c.deref.ensures.value))
