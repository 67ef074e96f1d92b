use Rattle.std.proofs.Common.{◌≡◌, ◌++◌, map, length}
use Rattle.std.specs.Vec.Iter.{into_iter_items, into_iter_len}
use Rattle.live_acts.specs.Acts.{act_of}
use Rattle.live_acts.specs.Performed.{UseOpen, nothing_heard, Passes}
use Rattle.live_acts.proofs.performing.perform.Given as goal

abbrev pub invariant-loop-act : goal.invariant-loop-act
invariant-loop-act g l = record {
  left : l.yielded ++ into_iter_items l.act-iterator ≡ l.fn.acts;
  short : into_iter_len l.act-iterator ≡ length (into_iter_items l.act-iterator);
  done : Passes nothing_heard (map act_of l.yielded) (g.L.Link.told l.fn.link) (g.S.Sink.taken l.fn.out)
      (g.L.Link.told l.link) (g.S.Sink.taken l.out);
  open_left : UseOpen (g.L.Link.count l.fn.link) (map act_of (into_iter_items l.act-iterator));
  count : g.L.Link.count l.link ≡ g.L.Link.count l.fn.link;
  link_faults : g.L.Link.faults l.link ≡ g.L.Link.faults l.fn.link;
  sink_faults : g.S.Sink.faults l.out ≡ g.S.Sink.faults l.fn.out;
}
