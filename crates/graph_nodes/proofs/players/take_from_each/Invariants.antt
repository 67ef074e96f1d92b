use Rattle.std.proofs.Common.{◌≡◌, ◌-◌, ◌==◌, ℕ, nat_eq, take, if◌then◌else◌}
use Rattle.actor_lists.specs.Shared.{count_of, list_at}
use Rattle.graph_nodes.proofs.players.take_from_each.Given as goal

abbrev pub invariant-loop-player : goal.invariant-loop-player
invariant-loop-player l = (k a : ℕ) → count_of a (list_at nat_eq l.lists k)
    ≡ count_of a (list_at nat_eq l.fn.lists k) -
    (if l.actor == a then count_of k (take l.player-index l.players) else 0)
