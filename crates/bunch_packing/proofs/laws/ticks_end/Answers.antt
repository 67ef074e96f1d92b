use Rattle.bunch_packing.proofs.Tick.{ends, ends_made}
use Rattle.bunch_packing.proofs.laws.ticks_end.Goals as goal

pub returns : goal.returns
returns c = record {
  keeps = λ l t end side before p h. ends t end side before p h.table;
  count = λ end before p ch. ends_made end before p ch;
}
