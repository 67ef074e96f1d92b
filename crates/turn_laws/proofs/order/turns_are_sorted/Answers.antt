use Rattle.turn_laws.proofs.Serving.{turns_are, map_self, sorted_turns}
use Rattle.turn_laws.specs.Turns.{scored_turns}
use Rattle.turn_laws.proofs.order.turns_are_sorted.Goals as goal

pub returns-clause-left_out : goal.returns-clause-left_out
returns-clause-left_out c = λ past. turns_are past

pub returns-clause-sorted : goal.returns-clause-sorted
returns-clause-sorted c = λ past turns order p s. sorted_turns past (λ scored. scored) (scored_turns past) turns order
    (map_self (scored_turns past)) p s
