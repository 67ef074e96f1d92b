use Rattle.turn_laws.proofs.Serving.{turns_serve}
use Rattle.turn_laws.proofs.turns.turns_serve_all_actors.Goals as goal

pub returns : goal.returns
returns c = λ end p order. turns_serve end p order
