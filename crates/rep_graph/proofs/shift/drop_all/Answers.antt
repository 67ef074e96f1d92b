use Rattle.rep_graph.proofs.Pairing.{actor_dropped}
use Rattle.rep_graph.proofs.shift.drop_all.Goals as goal

pub returns-in_ok-remove_all-in-Player : goal.returns-in_ok-remove_all-in-Player
returns-in_ok-remove_all-in-Player c = λ held pairs.
    actor_dropped c.in-Player.node c.remove_all.new.self held c.args.actor (rw c.in-Player.is at pairs)
    c.in_ok-remove_all-in-Player.ensures.stands
