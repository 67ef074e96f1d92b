use Rattle.actor_sender.proofs.Turns.{ServedSoFar}
use Rattle.actor_sender.proofs.sender.ActorSender.serve_all.Given as goal

abbrev pub invariant-loop-turn : goal.invariant-loop-turn
invariant-loop-turn l = ServedSoFar l.classes l.changes l.sight l.turns l.turn-index l.initial.self l.initial.link
    l.initial.table l.self l.link l.table
