use Rattle.std.proofs.Common.{◌≡◌, false}
use Rattle.protocol_model.specs.Payload.{Message}
use Rattle.protocol_model.specs.Side.{Side}
use Rattle.connection_model.specs.Feed.{End, Past}
use Rattle.connection_model.specs.Pack.{Packing}
use Rattle.bunch_packing.specs.Both.{PacksBoth}
use Rattle.bunch_packing.specs.Opens.{ArePartsOf}
use Rattle.bunch_packing.proofs.Parts.{Parting}
use Rattle.bunch_packing.proofs.opens.offer_parts.Given as goal

abbrev pub invariant-loop-i : goal.invariant-loop-i
invariant-loop-i l = record {
  own : (end : End) × (side : Side) × (before : Past) × (p : Packing) × (message : Message)
      × Parting l.link l.table end side before p l.channel l.first l.count message l.i;
  parting : (end : End) (side : Side) (before : Past) (p : Packing) (message : Message)
      → PacksBoth l.fn.link l.fn.table end side before p → p.full ≡ false
      → ArePartsOf p l.channel l.first l.count message
      → Parting l.link l.table end side before p l.channel l.first l.count message l.i;
  count : l.table.made.count ≡ l.fn.table.made.count;
  bound : l.table.bound ≡ l.fn.table.bound;
  waiting : l.table.waiting ≡ l.fn.table.waiting;
}
