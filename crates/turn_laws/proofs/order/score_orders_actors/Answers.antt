use Rattle.turn_laws.proofs.Serving.{before_orders, before_decided}
use Rattle.turn_laws.proofs.order.score_orders_actors.Goals as goal

pub returns-clause-order : goal.returns-clause-order
returns-clause-order c = before_orders

pub returns-clause-decided : goal.returns-clause-decided
returns-clause-decided c = λ one other ne e. before_decided one.0 other.0 one.1.actor other.1.actor ne e
