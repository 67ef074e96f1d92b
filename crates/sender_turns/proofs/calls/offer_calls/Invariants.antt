use Rattle.std.proofs.Common.{◌≡◌}
use Rattle.connection_model.specs.Feed.{End, Past}
use Rattle.connection_model.specs.Pack.{Packing}
use Rattle.sender_turns.specs.Calling.{IsCalling}
use Rattle.sender_turns.proofs.Waiting.{Calling}
use Rattle.sender_turns.proofs.calls.offer_calls.Given as goal

abbrev pub invariant-loop-place : goal.invariant-loop-place
invariant-loop-place l = record {
  own : (end : End) × (before : Past) × (p : Packing)
      × IsCalling l.records.entries l.fn.link l.table end before p
      × Calling l.link l.table end before p l.place;
  calling : (end : End) (before : Past) (p : Packing)
      → IsCalling l.records.entries l.fn.link l.table end before p
      → Calling l.link l.table end before p l.place;
}
