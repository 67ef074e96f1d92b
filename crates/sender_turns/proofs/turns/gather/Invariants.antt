use Rattle.sender_turns.proofs.Finding.{TurnedSoFar}
use Rattle.sender_turns.proofs.turns.gather.Given as goal

abbrev pub invariant-loop-place : goal.invariant-loop-place
invariant-loop-place l =
    TurnedSoFar l.classes l.changes l.tick l.sight l.place l.initial.records.entries l.records.entries l.turns.items
