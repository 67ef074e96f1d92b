use Rattle.std.proofs.Common.{◌≡◌, ◌++◌, map, length}
use Rattle.std.specs.Vec.Iter.{into_iter_items, into_iter_len}
use Rattle.protocol_model.specs.Value.{Table}
use Rattle.replay_places.specs.Doing.{Adds, bytes_of, sent_report, side_of}
use Rattle.replay_places.proofs.sending.keep.Given as goal

abbrev pub invariant-loop-packet : goal.invariant-loop-packet
invariant-loop-packet l = record {
  left : l.yielded ++ into_iter_items l.packet-iterator ≡ l.fn.sent;
  short : into_iter_len l.packet-iterator ≡ length (into_iter_items l.packet-iterator);
  kept : l.packets ≡ l.fn.packets ++ map bytes_of l.yielded;
  told : (table : Table) → Adds table l.fn.events l.events (map (sent_report (side_of l.sender) l.player) l.yielded);
}
