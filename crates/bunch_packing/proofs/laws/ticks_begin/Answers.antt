use Rattle.std.proofs.Common.{ap}
use Rattle.connection_model.specs.Pack.{Packing}
use Rattle.packing_laws.proofs.Beginnings.{beginning_is}
use Rattle.bunch_packing.proofs.Tick.{begins, none_at_first}
use Rattle.bunch_packing.proofs.laws.ticks_begin.Goals as goal

pub returns : goal.returns
returns c = record {
  both = λ l t end side past sight link table low. begins l t end side past sight link table low;
  none = λ end past sight. none_at_first end past sight;
  ready = λ end past sight some few. ap (λ (p : Packing). p.full) (beginning_is end past sight some few);
}
