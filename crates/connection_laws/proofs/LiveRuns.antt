-- Runs of ends that are alive, and of those that may have ended: a live end has a fate free, but within a tick.
use Rattle.std.proofs.Common.{◌≡◌, ℕ, ◌<◌, ◌∷◌, false, sym, ap, arith, None}
use Rattle.std.proofs.lemmas.Bool.{false≢true}
use Rattle.protocol_model.specs.Payload.{Message}
use Rattle.protocol_model.specs.Search.{greatest_of}
use Rattle.connection_model.specs.Feed.{End, Past, Ended, Ending, Entry, Delivered, has_ended}
use Rattle.connection_model.specs.Fates.{unresolved_count}
use Rattle.connection_model.specs.Bunches.{after_making}
use Rattle.connection_model.specs.Verdict.{with_told, with_handed, ack_cause}
use Rattle.connection_laws.specs.Run.{Move, Ticks, Makes, Defers, Sends, Takes, Hears, Hands, Ends, after_move, May, MayMake, IsRun}
use Rattle.connection_laws.specs.Run.IsRun.{does}
use Rattle.connection_laws.proofs.Moves.{making_keeps, told_keeps, handed_keeps}
use Rattle.connection_laws.proofs.Arrivals.{moved_made}
use Rattle.connection_laws.proofs.Fates.{last_sent_made, last_sent_told, last_sent_handed, moved_handed, high_told}

-- the move hears nothing, and begins no tick
abbrev pub IsQuiet : Move → Type 0
IsQuiet (Ticks sight) = ⊥
IsQuiet (Makes ch message) = Unit {0}
IsQuiet (Defers message) = Unit {0}
IsQuiet (Sends items) = Unit {0}
IsQuiet (Takes number) = ⊥
IsQuiet (Hears entry) = ⊥
IsQuiet (Hands d) = ⊥
IsQuiet (Ends ending) = Unit {0}

-- what goes on with each such move, and holds of runs alone
pub record Goes (end : End) (R : Past → Type 0) : Type 0 where
  pub is_run : (past : Past) → R past → IsRun end past
  pub goes : (past : Past) (move : Move) → IsQuiet move → R past → has_ended past ≡ false → May end past move → R (after_move past move)

-- the end is alive, and a fate is free
pub record IsLiveRun (R : Past → Type 0) (past : Past) : Type 0 where
  pub run : R past
  pub alive : has_ended past ≡ false
  pub few : unresolved_count past < 4096

-- if the end is alive, a fate is free
pub record IsDone (R : Past → Type 0) (past : Past) : Type 0 where
  pub run : R past
  pub few : has_ended past ≡ false → unresolved_count past < 4096

-- a live run is one that may have ended
pub live_done : (R : Past → Type 0) (past : Past) → IsLiveRun R past → IsDone R past
live_done R past h = record { run = h.run; few = λ e. h.few }

-- and the other way round while the end is alive
pub done_live : (R : Past → Type 0) (past : Past) → IsDone R past → has_ended past ≡ false → IsLiveRun R past
done_live R past h e = record { run = h.run; alive = e; few = h.few e }

-- a run that has ended
pub ended_done : (end : End) (R : Past → Type 0) → Goes end R → (past : Past) (ending : Ending) → R past → has_ended past ≡ false → IsDone R (Ended ending ∷ past)
ended_done end R g past ending run alive = record { run = g.goes past (Ends ending) tt run alive tt; few = λ q. absurd (false≢true (sym q)) }

-- runs go on
pub runs_go : (end : End) → Goes end (IsRun end)
runs_go end = record { is_run = λ past run. run; goes = λ past move quiet run alive may. does move run alive may }

-- ---- moves

-- making a message ends no end
pub alive_made : (past : Past) (ch : ℕ) (m : Message) → has_ended past ≡ false → has_ended (after_making past ch m) ≡ false
alive_made past ch m h = making_keeps (λ i before. has_ended before ≡ false) past ch m h (λ i before lt e. e)

-- making a message opens no fate
pub unresolved_made : (past : Past) (ch : ℕ) (m : Message) → unresolved_count (after_making past ch m) ≡ unresolved_count past
unresolved_made past ch m = omega (arith, last_sent_made past ch m, ap greatest_of (moved_made past ch m))

-- making a message goes on with a live run
pub live_made : (end : End) (R : Past → Type 0) → Goes end R → (past : Past) (ch : ℕ) (m : Message) → IsLiveRun R past → MayMake end past ch m → IsLiveRun R (after_making past ch m)
live_made end R g past ch m h may = record {
  run = g.goes past (Makes ch m) tt h.run h.alive may;
  alive = alive_made past ch m h.alive;
  few = omega (arith, unresolved_made past ch m, h.few);
}

-- handing a payload on ends no end
pub alive_handed : (d : Delivered) (past : Past) → has_ended past ≡ false → has_ended (with_handed d past) ≡ false
alive_handed d past h = handed_keeps (λ later. has_ended later ≡ false) d past h (λ n es ds before e. e)

-- hearing an entry goes on with a live run
pub live_told : (end : End) (past : Past) (entry : Entry) → IsLiveRun (IsRun end) past → ack_cause past entry ≡ None → IsLiveRun (IsRun end) (with_told entry past)
live_told end past entry h may = record {
  run = does (Hears entry) h.run h.alive may;
  alive = told_keeps (λ later. has_ended later ≡ false) entry past h.alive (λ n es ds before e. e);
  few = omega (arith, h.few, last_sent_told entry past, high_told entry past);
}

-- handing a payload on goes on with a live run
pub live_handed : (end : End) (past : Past) (d : Delivered) → IsLiveRun (IsRun end) past → IsLiveRun (IsRun end) (with_handed d past)
live_handed end past d h = record {
  run = does (Hands d) h.run h.alive tt;
  alive = handed_keeps (λ later. has_ended later ≡ false) d past h.alive (λ n es ds before e. e);
  few = omega (arith, h.few, last_sent_handed d past, ap greatest_of (moved_handed d past));
}
