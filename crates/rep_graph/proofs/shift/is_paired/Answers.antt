use Rattle.rep_graph.proofs.Pairing.{paired}
use Rattle.rep_graph.proofs.shift.is_paired.Goals as goal

pub returns-in-Player : goal.returns-in-Player
returns-in-Player c =
    λ held pairs. paired c.in-Player.node held c.args.actor c.args.player _ (rw c.in-Player.is at pairs) c.holds.ensures
