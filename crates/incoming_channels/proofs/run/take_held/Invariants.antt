use Rattle.std.proofs.Common.{◌≡◌, ◌-◌, ◌^◌, List}
use Rattle.connection_model.specs.Windows.{Received}
use Rattle.reliable_window.specs.In.{HandsOver}
use Rattle.incoming_channels.specs.Keeps.{is_server}
use Rattle.incoming_channels.specs.Steps.{Course, Goes, AreReceivedOn, run_left}
use Rattle.incoming_channels.proofs.run.take_held.Given as goal

abbrev pub invariant-loop-bunch : goal.invariant-loop-bunch
invariant-loop-bunch l =
    (c : Course) (got : List Received) → l.server ≡ is_server c.side → AreReceivedOn c.channel got → HandsOver
    l.initial.window got
    → Goes c (run_left got l.initial.window.next) l.initial.parts l.initial.whole
    → HandsOver l.window got × Goes c (run_left got l.window.next) l.parts l.whole

abbrev pub decreases-loop-bunch : goal.decreases-loop-bunch
decreases-loop-bunch l = 2 ^ 62 - l.window.next
