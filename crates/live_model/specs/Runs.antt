-- Live runs: what is sent on each end and written, and the status, from what is heard on each end.
use Rattle.std.specs.Prelude.{◌≡◌, ℕ, zero, suc, List, [], ◌∷◌, ◌++◌, map, Bool, false, None, find, is_some, option_map, unwrap_or, if◌then◌else◌, codes, decimal}
use Rattle.sha1.specs.Sha1.{sha1}
use Rattle.protocol_model.specs.Side.{AtServer}
use Rattle.protocol_model.specs.Value.{Table}
use Rattle.protocol_model.specs.World.{actors_of}
use Rattle.protocol_model.specs.declared.Version.{Version}
use Rattle.script_model.specs.Lines.{Line, Text}
use Rattle.script_model.specs.Reports.{Settled}
use Rattle.connection_model.specs.Settled.{is_settled}
use Rattle.replication_model.specs.Story.{new_player, past_at, copies_reports}
use Rattle.live_model.specs.Outside.{Peer, Heard, Act, Writes}
use Rattle.live_model.specs.Server.{Guest, Server, Served, first_server, after_server_turn, is_numbered, write}
use Rattle.live_model.specs.Caller.{Caller, Called, after_caller_turn}

-- how a run ended: its status, all that was done, and what was left unheard on each end
pub record Ran : Type 0 where
  pub status : ℕ
  pub acts : List Act
  pub unheard : List (List Heard)

-- what was told as heard is what the turns heard
abbrev pub HeardAll : Ran → Type 0
HeardAll ran = ran.unheard ≡ map (λ (heard : List Heard). []) ran.unheard

-- a class table, and the file that it was read from
pub record Classes : Type 0 where
  pub table : Table
  pub file : List ℕ

-- the digest that both ends compare
abbrev pub digest_of : Classes → List ℕ
digest_of classes = sha1 classes.file

-- ---- a server

-- so many turns
abbrev pub after_server_turns : Table → (digest : List ℕ) → (turns : ℕ) → Served → Served
after_server_turns table digest zero served = served
after_server_turns table digest (suc turns) served =
    let next = after_server_turn table digest served.0 in
    after_server_turns table digest turns (next.0, served.1 ++ next.1)

-- a server of so many turns
abbrev pub serve_run : Classes → List Line → (ticks : ℕ) → (heard : List Heard) → Ran
serve_run classes lines ticks heard =
    let served = after_server_turns classes.table (digest_of classes) ticks (first_server lines heard, []) in
    record { status = 0; acts = served.1; unheard = served.0.heard ∷ [] }

-- ---- a client

-- not welcomed, with the code of the Failure, or 0 where the turns ended
abbrev pub refused_text : (code : ℕ) → Text
refused_text code = codes "unet: not welcomed: " ++ decimal code ++ 10 ∷ []

-- before the first turn
abbrev pub first_caller : Version → Peer → (end player : ℕ) → List Heard → Caller
first_caller version server end player heard = record {
  player = new_player player 1000000 version;
  server = server;
  end = end;
  welcomed = false;
  refused = None;
  heard = heard;
}

-- so many turns, up to a refusal
abbrev pub after_caller_turns : Table → (digest : List ℕ) → (turns : ℕ) → Called → Called
after_caller_turns table digest zero called = called
after_caller_turns table digest (suc turns) called =
    if is_some called.0.refused then called
    else let next = after_caller_turn table digest called.0 in
    after_caller_turns table digest turns (next.0, called.1 ++ next.1)

-- a client that wasn't welcomed ends with status 10, any other with these lines
abbrev pub ended_as : Caller → (acts last : List Act) → (unheard : List (List Heard)) → Ran
ended_as c acts last unheard =
    if c.welcomed then record { status = 0; acts = acts ++ last; unheard = unheard }
    else record { status = 10; acts = acts ++ Writes (refused_text (unwrap_or c.refused 0)) ∷ []; unheard = unheard }

-- the client's copies
abbrev pub copies_acts : Table → Caller → List Act
copies_acts table c = map write (copies_reports table c.player)

-- a client of so many turns
abbrev pub join_run : Classes → Version → (server : Peer) → (player ticks : ℕ) → (heard : List Heard) → Ran
join_run classes version server player ticks heard =
    let called = after_caller_turns classes.table (digest_of classes) ticks
    (first_caller version server 0 player heard, []) in
    ended_as called.0 called.1 (copies_acts classes.table called.0) (called.0.heard ∷ [])

-- ---- both

-- both ends, and what was done
abbrev pub Both : Type 0
Both = (Server × Caller) × List Act

-- a server's turn and a client's turn, so many times, up to a refusal
abbrev pub after_turns : Table → (digest : List ℕ) → (turns : ℕ) → Both → Both
after_turns table digest zero both = both
after_turns table digest (suc turns) both =
    if is_some both.0.1.refused then both
    else let served = after_server_turn table digest both.0.0 in
    let called = after_caller_turn table digest both.0.1 in
    after_turns table digest turns ((served.0, called.0), both.1 ++ served.1 ++ called.1)

-- the actor is settled for the player, who is admitted
abbrev pub is_settled_at : Table → Server → (player actor : ℕ) → Bool
is_settled_at table server player a =
    unwrap_or (option_map (λ (g : Guest). is_settled table server.edits player (past_at table AtServer g.player) a)
    (find (is_numbered player) server.guests)) false

-- for each actor spawned whether it is settled for player 1
abbrev pub settled_acts : Table → Server → List Act
settled_acts table server =
    map (λ a. write (Settled 1 a (is_settled_at table server 1 a))) (actors_of server.edits)

-- a server on end 0, at this port of the machine itself, and a client on end 1, as player 1
abbrev pub loop_run : Classes → Version → List Line → (port ticks : ℕ) → (heard_0 heard_1 : List Heard) → Ran
loop_run classes version lines port ticks heard_0 heard_1 =
    let both = after_turns classes.table (digest_of classes) ticks (
      (
        first_server lines heard_0,
        first_caller version (record { ip = 127 ∷ 0 ∷ 0 ∷ 1 ∷ []; port = port }) 1 1 heard_1,
      ),
      [],
    ) in
    ended_as both.0.1 both.1 (copies_acts classes.table both.0.1 ++ settled_acts classes.table both.0.0)
    (both.0.0.heard ∷ both.0.1.heard ∷ [])
