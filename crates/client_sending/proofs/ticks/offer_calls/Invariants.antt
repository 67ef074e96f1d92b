use Rattle.connection_model.specs.Feed.{End, Past}
use Rattle.connection_model.specs.Pack.{Packing}
use Rattle.client_sending.specs.Ticking.{IsTicking}
use Rattle.client_sending.proofs.Waiting.{Calling}
use Rattle.client_sending.proofs.ticks.offer_calls.Given as goal

abbrev pub invariant-loop-place : goal.invariant-loop-place
invariant-loop-place l = record {
  own : (end : End) × (before : Past) × (p : Packing)
      × IsTicking l.fn.link l.table end before p
      × Calling l.link l.table end before p l.place;
  calling : (end : End) (before : Past) (p : Packing)
      → IsTicking l.fn.link l.table end before p
      → Calling l.link l.table end before p l.place;
}
