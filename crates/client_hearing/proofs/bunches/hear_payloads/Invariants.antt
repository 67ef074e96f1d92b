use Rattle.std.proofs.Common.{◌≡◌, ℕ, List, drop, Bool}
use Rattle.protocol_model.specs.declared.Version.{Version}
use Rattle.receiving_laws.specs.Receiving.{Raw}
use Rattle.client_hearing.specs.Moments.{Moment, AreComing}
use Rattle.client_hearing.proofs.Turns.{Going}
use Rattle.client_hearing.proofs.bunches.hear_payloads.Given as goal

abbrev pub invariant-loop-m : goal.invariant-loop-m
invariant-loop-m l = record {
  own : (version : Version) × (w : Moment) × (ch : ℕ) × (raws : List Raw)
      × Going l.classes version l.table.bound l.names l.copies l.calls.items w ch raws (drop l.m-index l.whole);
  going : (version : Version) (w : Moment) (ch : ℕ) (held : Bool) (raws : List Raw)
      → AreComing l.classes version l.fn.table.bound l.fn.names l.fn.copies l.fn.calls.items w ch held raws l.whole
      → Going l.classes version l.table.bound l.names l.copies l.calls.items w ch raws (drop l.m-index l.whole);
  rest : l.table ≡ record l.fn.table { bound = l.table.bound };
}
