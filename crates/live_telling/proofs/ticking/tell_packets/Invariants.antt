use Rattle.std.proofs.Common.{◌≡◌, ◌++◌, length}
use Rattle.std.specs.List.{flat_map}
use Rattle.std.specs.Vec.Iter.{into_iter_items, into_iter_len}
use Rattle.live_acts.specs.Acts.{AddsActs}
use Rattle.live_telling.specs.Ticked.{packet_acts}
use Rattle.live_telling.proofs.ticking.tell_packets.Given as goal

abbrev pub invariant-loop-packet : goal.invariant-loop-packet
invariant-loop-packet l = record {
  left : l.yielded ++ into_iter_items l.packet-iterator ≡ l.fn.sent;
  short : into_iter_len l.packet-iterator ≡ length (into_iter_items l.packet-iterator);
  told : AddsActs l.fn.acts l.acts (flat_map (packet_acts l.teller) l.yielded);
}
