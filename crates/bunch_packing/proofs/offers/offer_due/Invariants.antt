use Rattle.std.proofs.Common.{◌≡◌, ◌⊎◌, false, ◌+◌, ◌-◌, ◌*◌, ◌^◌, ◌<◌}
use Rattle.protocol_model.specs.Side.{Side}
use Rattle.connection_model.specs.Feed.{End, Past}
use Rattle.connection_model.specs.Pack.{Packing}
use Rattle.link_end.specs.Rests.{IsSpent}
use Rattle.bunch_packing.specs.Both.{PacksBoth, NonePacked}
use Rattle.bunch_packing.proofs.Going.{Going, most_in}
use Rattle.bunch_packing.proofs.offers.offer_due.Given as goal

abbrev pub invariant-loop-next : goal.invariant-loop-next
invariant-loop-next l = record {
  own : IsSpent l.link ⊎ ((end : End) × (side : Side) × (before : Past) × (p : Packing)
      × PacksBoth l.fn.link l.fn.table end side before p
      × Going l.link l.table end side before p l.channel l.from);
  going : (end : End) (side : Side) (before : Past) (p : Packing) → PacksBoth l.fn.link l.fn.table end side before p
      → p.full ≡ false → NonePacked p
      → Going l.link l.table end side before p l.channel l.from;
  below : l.from < most_in l.fn.table.made.out;
  count : l.table.made.count ≡ l.fn.table.made.count;
  bound : l.table.bound ≡ l.fn.table.bound;
  waiting : l.table.waiting ≡ l.fn.table.waiting;
}

abbrev pub decreases-loop-next : goal.decreases-loop-next
decreases-loop-next l =
    2 ^ 15 * most_in l.fn.table.made.out - (l.channel * most_in l.fn.table.made.out + l.from)
