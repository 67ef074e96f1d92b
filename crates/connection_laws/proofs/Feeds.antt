-- The past of each feed is a run.
use Rattle.std.proofs.Common.{◌≡◌, refl, List, [], ◌∷◌, true, arith}
use Rattle.connection_model.specs.Feed.{End, Past, Event, Tick, Got, Call, has_ended}
use Rattle.connection_model.specs.Past.{past_of, after_event}
use Rattle.connection_laws.specs.Run.{Ticks, IsRun}
use Rattle.connection_laws.specs.Run.IsRun.{start, does}
use Rattle.connection_laws.proofs.Calling.{call_runs}
use Rattle.connection_laws.proofs.Hearing.{datagram_runs}
use Rattle.connection_laws.proofs.LiveRuns.{IsDone, runs_go}
use Rattle.connection_laws.proofs.Ticking.{tick_runs}

-- each event goes on with a run
event_done : (end : End) (past : Past) (event : Event) → IsDone (IsRun end) past → IsDone (IsRun end) (after_event end past event)
event_done end past (Tick sight) h = tick_runs end (IsRun end) (runs_go end) past sight (λ run alive. does (Ticks sight) run alive tt) h
event_done end past (Got bytes) h = datagram_runs end past bytes h
event_done end past (Call a n args) h = call_runs end (IsRun end) (runs_go end) past h a n args

-- the past of a feed is a run with a fate free
pub feed_done : (end : End) (feed : List Event) → IsDone (IsRun end) (past_of end feed)
feed_done end [] = record { run = start; few = λ e. omega arith }
feed_done end (event ∷ feed) = event_done end (past_of end feed) event (feed_done end feed)

-- the past of each feed is a run
pub feed_runs : (end : End) (feed : List Event) → IsRun end (past_of end feed)
feed_runs end feed = (feed_done end feed).run

-- an end that has ended does nothing more
pub ended_stays : (end : End) (past : Past) (event : Event) → has_ended past ≡ true → after_event end past event ≡ past
ended_stays end past (Tick sight) e = rw e refl
ended_stays end past (Got bytes) e = rw e refl
ended_stays end past (Call actor number args) e = rw e refl
