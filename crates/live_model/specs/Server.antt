-- A server's turns: whom it admits, what its connections hear, the script's lines, and the tick.
use Rattle.std.specs.Prelude.{ℕ, ◌==◌, List, [], ◌∷◌, ◌++◌, map, length, Bool, true, false, not, ◌&&◌, ◌||◌, nat_lt, nat_le, Option, Some, None, if◌then◌else◌, codes, decimal}
use Rattle.std.specs.List.{flat_map, fold, list_any}
use Rattle.std.specs.Str.{bytes_eq}
use Rattle.protocol_model.specs.Search.{insert_in_order}
use Rattle.protocol_model.specs.Side.{Side, AtServer}
use Rattle.protocol_model.specs.Value.{Table, Arg}
use Rattle.protocol_model.specs.World.{Edits, is_player}
use Rattle.protocol_model.specs.declared.Verdict.{Verdict}
use Rattle.protocol_model.specs.declared.Version.{Version}
use Rattle.protocol_model.specs.declared.Version.TheVariants.{One, Two}
use Rattle.script_model.specs.Lines.{Line, ApplyEdit, TickAll, CallTo, CallAll, Text}
use Rattle.script_model.specs.Reports.{Report, Joined, Sent, report_text, words, verdict_words}
use Rattle.connection_model.specs.Feed.{Got}
use Rattle.replication_model.specs.Story.{Player, Reported, new_player, end_of, past_at, with_event, handed_reports, after_call_of, after_tick_of, edit_reports}
use Rattle.connection_model.specs.Verdict.{verdict_of}
use Rattle.live_model.specs.Outside.{Peer, same_peer, Heard, Datagram, Quiet, Act, Sends, Writes, turn_part, after_part}
use Rattle.live_model.specs.Handshake.{Hello, hello_in, welcome, failure, ends_in_zero}

-- ---- what an end hears

-- a line of what is told
abbrev pub write : Report → Act
write report = Writes (report_text report)

-- the verdict on a datagram
abbrev pub got_text : (player : ℕ) → Verdict → Text
got_text player verdict = words (codes "got" ∷ decimal player ∷ verdict_words verdict) ++ 10 ∷ []

-- a player and what was done
abbrev pub Done : Type 0
Done = Player × List Act

-- the end hears a datagram: the calls that it hands over, and then its verdict
abbrev pub after_hearing : Table → Edits → Side → List ℕ → Player → Done
after_hearing table edits side bytes p =
    let past = past_at table side p in
    let end = end_of table side p in (
      with_event side (Got bytes) p,
      map write (handed_reports edits side p.number end past bytes)
          ++ Writes (got_text p.number (verdict_of end past bytes)) ∷ [],
    )

-- a packet is sent, and then its line is written
abbrev pub acts_of : (end : ℕ) → (to : Peer) → Report → List Act
acts_of end to (Sent side player number bytes) = Sends end to bytes ∷ write (Sent side player number bytes) ∷ []
acts_of end to report = write report ∷ []

-- a tick of one end, whose packets go to the peer
abbrev pub after_live_tick : Table → Edits → Side → (end : ℕ) → (to : Peer) → Player → Done
after_live_tick table edits side end to p =
    let told = after_tick_of table edits side p in (told.0, flat_map (acts_of end to) told.1)

-- ---- the server

-- a player who was admitted, and its peer
pub record Guest : Type 0 where
  pub peer : Peer
  pub player : Player

-- the edits so far, the newest first; the guests by number; and the lines and datagrams that are still to come
pub record Server : Type 0 where
  pub edits : Edits
  pub guests : List Guest
  pub lines : List Line
  pub heard : List Heard

-- the server after something, and what was done
abbrev pub Served : Type 0
Served = Server × List Act

-- one thing more
abbrev pub also : {A : Type 0} → (Server → A → Served) → Served → A → Served
also does served x = let next = does served.0 x in (next.0, served.1 ++ next.1)

-- each of these does something for one guest
abbrev pub with_guests : (Guest → Done) → Server → Served
with_guests does server = (
  record server { guests = map (λ (g : Guest). record g { player = (does g).0 }) server.guests },
  flat_map (λ (g : Guest). (does g).1) server.guests,
)

-- only the guests that pass do it
abbrev pub where_it_holds : (Guest → Bool) → (Guest → Done) → Guest → Done
where_it_holds test does g = if test g then does g else (g.player, [])

-- the guest has this number
abbrev pub is_numbered : ℕ → Guest → Bool
is_numbered n g = g.player.number == n

-- the guest comes from this peer
abbrev pub is_from : Peer → Guest → Bool
is_from peer g = same_peer g.peer peer

-- ---- the handshake

-- the two versions are one
abbrev pub same_version : Version → Version → Bool
same_version One One = true
same_version Two Two = true
same_version one other = false

-- the guest is the one of this Hello from this peer
abbrev pub is_same_guest : Peer → Hello → Guest → Bool
is_same_guest from h g =
    is_from from g && g.player.number == h.player && same_version g.player.version h.version

-- why the Hello is refused, the first that holds
abbrev pub refusal_of : (digest : List ℕ) → List Guest → Peer → Hello → Option ℕ
refusal_of digest guests from h =
    if not (bytes_eq h.digest digest) then Some 1
    else if not (is_player h.player) || list_any (is_numbered h.player) guests
    || list_any (is_from from) guests then Some 2
    else if nat_le 64 (length guests) then Some 3
    else None

-- a guest who joins now, with a budget of 100,000
abbrev pub new_guest : Peer → Hello → Guest
new_guest from h = record { peer = from; player = new_player h.player 100000 h.version }

-- the guests by number, with one more
abbrev pub with_guest : Guest → List Guest → List Guest
with_guest g guests =
    insert_in_order (λ (one : Guest) (two : Guest). nat_lt one.player.number two.player.number) g guests

-- a refused Hello is told why, and any other admits its player
abbrev pub after_new_hello : Peer → Hello → Server → Option ℕ → Served
after_new_hello from h server (Some code) = (server, Sends 0 from (failure h.version code) ∷ [])
after_new_hello from h server None = (
  record server { guests = with_guest (new_guest from h) server.guests },
  write (Joined h.player) ∷ Sends 0 from (welcome h.version h.player) ∷ [],
)

-- a guest's own Hello is welcomed again
abbrev pub after_hello : (digest : List ℕ) → Peer → Hello → Server → Served
after_hello digest from h server =
    if list_any (is_same_guest from h) server.guests then (server, Sends 0 from (welcome h.version h.player) ∷ [])
    else after_new_hello from h server (refusal_of digest server.guests from h)

-- any other datagram that ends in 0 is ignored, and so is one from a peer that isn't a guest
abbrev pub after_other : Table → Peer → List ℕ → Server → Served
after_other table from bytes server =
    if ends_in_zero bytes then (server, [])
    else with_guests
    (where_it_holds (is_from from) (λ (g : Guest). after_hearing table server.edits AtServer bytes g.player)) server

-- a datagram that the server hears
abbrev pub after_datagram : Table → (digest : List ℕ) → Peer → List ℕ → Server → Served
after_datagram table digest from bytes server = elim (hello_in bytes) [
  | Some h ↦ after_hello digest from h server
  | None ↦ after_other table from bytes server
]

-- one thing that the server hears
abbrev pub after_heard : Table → (digest : List ℕ) → Server → Heard → Served
after_heard table digest server Quiet = (server, [])
after_heard table digest server (Datagram from bytes) = after_datagram table digest from bytes server

-- a turn's part of what is heard
abbrev pub after_turn_part : Table → (digest : List ℕ) → Server → Served
after_turn_part table digest server =
    let part = turn_part server.heard in
    fold (also (after_heard table digest)) (record server { heard = after_part part server.heard }, []) part

-- ---- the script

-- the lines before the next tick
abbrev pub lines_before_tick : List Line → List Line
lines_before_tick [] = []
lines_before_tick (TickAll ∷ lines) = []
lines_before_tick (line ∷ lines) = line ∷ lines_before_tick lines

-- the lines after the next tick
abbrev pub lines_after_tick : List Line → List Line
lines_after_tick [] = []
lines_after_tick (TickAll ∷ lines) = lines
lines_after_tick (line ∷ lines) = lines_after_tick lines

-- a player's part of what is told
abbrev pub written : Reported → Done
written told = (told.0, map write told.1)

-- a call at a guest's end
abbrev pub call_at_guest : Table → (actor number : ℕ) → List Arg → Guest → Done
call_at_guest table a n args g = written (after_call_of table AtServer a n args g.player)

-- the answer to a call where the player isn't admitted
abbrev pub absent_text : (player : ℕ) → Text
absent_text player = words (codes "call" ∷ decimal player ∷ codes "absent" ∷ []) ++ 10 ∷ []

-- what a line of the script does
abbrev pub after_line : Table → Server → Line → Served
after_line table server (ApplyEdit edit) =
    (record server { edits = edit ∷ server.edits }, map write (edit_reports server.edits edit))
after_line table server (CallTo AtServer player a n args) =
    if list_any (is_numbered player) server.guests
    then with_guests (where_it_holds (is_numbered player) (call_at_guest table a n args)) server
    else (server, Writes (absent_text player) ∷ [])
after_line table server (CallAll a n args) = with_guests (call_at_guest table a n args) server
after_line table server line = (server, [])

-- the script's lines up to its next tick; after its end, none
abbrev pub after_script_part : Table → Server → Served
after_script_part table server =
    fold (also (after_line table)) (record server { lines = lines_after_tick server.lines }, [])
    (lines_before_tick server.lines)

-- ---- a turn

-- a tick of each connection, by player
abbrev pub after_ticks : Table → Server → Served
after_ticks table server =
    with_guests (λ (g : Guest). after_live_tick table server.edits AtServer 0 g.peer g.player) server

-- one after the other
abbrev pub then_does : Served → (Server → Served) → Served
then_does served does = let next = does served.0 in (next.0, served.1 ++ next.1)

-- a server's turn
abbrev pub after_server_turn : Table → (digest : List ℕ) → Server → Served
after_server_turn table digest server =
    then_does (then_does (after_turn_part table digest server) (after_script_part table)) (after_ticks table)

-- before the first turn
abbrev pub first_server : List Line → List Heard → Server
first_server lines heard = record { edits = []; guests = []; lines = lines; heard = heard }
