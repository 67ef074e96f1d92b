-- On which end of the link a server and a client send.
use Rattle.std.proofs.Common.{ℕ, List, [], ◌∷◌, ◌++◌, Bool, true, false, not, ◌||◌, Option, Some, None, map, refl}
use Rattle.std.specs.Prelude.{if◌then◌else◌}
use Rattle.std.specs.List.{flat_map, fold, list_any}
use Rattle.protocol_model.specs.Side.{Side, AtServer, AtClient}
use Rattle.protocol_model.specs.Value.{Table, Arg}
use Rattle.protocol_model.specs.World.{Edits}
use Rattle.script_model.specs.Lines.{Text, Line, Join, ApplyEdit, TickAll, TickClient, Deliver, DeliverNew, CallTo, CallAll, Dump, AskSettled, Forge}
use Rattle.script_model.specs.Reports.{Report, Joined, Actor, Sent, Stalled, Handed, Answered, Forged, Called as CalledReport, Copies, Copy, Settled}
use Rattle.replication_model.specs.Story.{Player, end_of, past_at, handed_reports, after_call_of, after_tick_of, edit_reports}
use Rattle.connection_model.specs.Verdict.{verdict_of}
use Rattle.live_model.specs.Outside.{Peer, same_peer, Heard, Datagram, Quiet, Act, Sends, Writes}
use Rattle.live_model.specs.Handshake.{Hello, hello, welcome, hello_in, ends_in_zero}
use Rattle.live_model.specs.Server.{Done, got_text, absent_text, Guest, Server, Served, write, acts_of, after_hearing, after_live_tick, also, with_guests, where_it_holds, is_from, is_numbered, is_same_guest, call_at_guest, after_hello, after_new_hello, refusal_of, after_other, after_heard, after_line, after_script_part, after_ticks, lines_before_tick, lines_after_tick}
use Rattle.live_model.specs.Caller.{Caller, Called, after_heard as caller_after_heard, after_datagram as caller_after_datagram, after_answer, after_tick, asks, welcomes, refusal_in}
use Rattle.live_laws.specs.Stepwise.{AreSentOn}

-- ---- lists

pub sent_both : (end : ℕ) (some others : List Act) → AreSentOn end some → AreSentOn end others
    → AreSentOn end (some ++ others)
sent_both end [] others is are = are
sent_both end (act ∷ some) others is are = (is.0, sent_both end some others is.1 are)

-- lines send nothing
pub lines_send_nothing : (end : ℕ) (reports : List Report) → AreSentOn end (map write reports)
lines_send_nothing end [] = tt
lines_send_nothing end (r ∷ reports) = (tt, lines_send_nothing end reports)

all_sent : {A : Type 0} (end : ℕ) (does : A → List Act) (xs : List A) → ((x : A) → AreSentOn end (does x))
    → AreSentOn end (flat_map does xs)
all_sent end does [] each = tt
all_sent end does (x ∷ xs) each = sent_both end (does x) (flat_map does xs) (each x) (all_sent end does xs each)

told_sends : (end : ℕ) (reports : List Report) (text : Text) → AreSentOn end (map write reports ++ Writes text ∷ [])
told_sends end [] text = (tt, tt)
told_sends end (r ∷ reports) text = (tt, told_sends end reports text)

-- ---- one end of a connection

hearing_sends_nothing : (end : ℕ) (table : Table) (edits : Edits) (side : Side) (bytes : List ℕ) (p : Player)
    → AreSentOn end (after_hearing table edits side bytes p).1
hearing_sends_nothing end table edits side bytes p =
    told_sends end (handed_reports edits side p.number (end_of table side p) (past_at table side p) bytes)
    (got_text p.number (verdict_of (end_of table side p) (past_at table side p) bytes))

report_sent : (end : ℕ) (to : Peer) (r : Report) → AreSentOn end (acts_of end to r)
report_sent end to (Sent side player number bytes) = (refl, (tt, tt))
report_sent end to (Joined player) = (tt, tt)
report_sent end to (Actor a) = (tt, tt)
report_sent end to (Stalled side player) = (tt, tt)
report_sent end to (Handed side player a name verdict args) = (tt, tt)
report_sent end to (Answered side player number answer) = (tt, tt)
report_sent end to (Forged side player verdict) = (tt, tt)
report_sent end to (CalledReport side player answer) = (tt, tt)
report_sent end to (Copies player count) = (tt, tt)
report_sent end to (Copy player a class channel values) = (tt, tt)
report_sent end to (Settled player a holds) = (tt, tt)

tick_sends : (table : Table) (edits : Edits) (side : Side) (end : ℕ) (to : Peer) (p : Player)
    → AreSentOn end (after_live_tick table edits side end to p).1
tick_sends table edits side end to p = all_sent end (acts_of end to) (after_tick_of table edits side p).1 (report_sent end to)

-- ---- a server

either : (end : ℕ) (test : Bool) (one other : Served) → AreSentOn end one.1 → AreSentOn end other.1
    → AreSentOn end (if test then one else other).1
either end true one other is are = is
either end false one other is are = are

guest_either : (end : ℕ) (test : Guest → Bool) (does : Guest → Done) → ((g : Guest) → AreSentOn end (does g).1)
    → (g : Guest) → AreSentOn end (where_it_holds test does g).1
guest_either end test does each g = by (test g)
  where
    by : (here : Bool) → AreSentOn end (if here then does g else (g.player, [])).1
    by true = each g
    by false = tt

guests_send : (end : ℕ) (does : Guest → Done) (server : Server) → ((g : Guest) → AreSentOn end (does g).1)
    → AreSentOn end (with_guests does server).1
guests_send end does server each = all_sent end (λ (g : Guest). (does g).1) server.guests each

folds : {A : Type 0} (end : ℕ) (does : Server → A → Served) → ((s : Server) (x : A) → AreSentOn end (does s x).1)
    → (served : Served) (xs : List A) → AreSentOn end served.1 → AreSentOn end (fold (also does) served xs).1
folds end does each served [] is = is
folds end does each served (x ∷ xs) is =
    let next = does served.0 x in
    folds end does each (next.0, served.1 ++ next.1) xs (sent_both end served.1 next.1 is (each served.0 x))

new_hello_sends : (from : Peer) (h : Hello) (server : Server) (why : Option ℕ)
    → AreSentOn 0 (after_new_hello from h server why).1
new_hello_sends from h server (Some code) = (refl, tt)
new_hello_sends from h server None = (tt, (refl, tt))

hello_sends : (digest : List ℕ) (from : Peer) (h : Hello) (server : Server)
    → AreSentOn 0 (after_hello digest from h server).1
hello_sends digest from h server =
    either 0 (list_any (is_same_guest from h) server.guests) (server, Sends 0 from (welcome h.version h.player) ∷ [])
    (after_new_hello from h server (refusal_of digest server.guests from h)) (refl, tt)
    (new_hello_sends from h server (refusal_of digest server.guests from h))

other_sends : (table : Table) (from : Peer) (bytes : List ℕ) (server : Server)
    → AreSentOn 0 (after_other table from bytes server).1
other_sends table from bytes server =
    either 0 (ends_in_zero bytes) (server, []) (with_guests (where_it_holds (is_from from)
    (λ (g : Guest). after_hearing table server.edits AtServer bytes g.player)) server) tt
    (guests_send 0 (where_it_holds (is_from from)
    (λ (g : Guest). after_hearing table server.edits AtServer bytes g.player)) server (guest_either 0 (is_from from)
    (λ (g : Guest). after_hearing table server.edits AtServer bytes g.player)
    (λ (g : Guest). hearing_sends_nothing 0 table server.edits AtServer bytes g.player)))

-- a server sends on end 0 alone: what it hears is answered there
pub hearing_sends : (table : Table) (digest : List ℕ) (server : Server) (h : Heard)
    → AreSentOn 0 (after_heard table digest server h).1
hearing_sends table digest server Quiet = tt
hearing_sends table digest server (Datagram from bytes) = by (hello_in bytes)
  where
    next : Option Hello → Served
    next o = elim o [ Some h ↦ after_hello digest from h server | None ↦ after_other table from bytes server ]

    by : (o : Option Hello) → AreSentOn 0 (next o).1
    by (Some h) = hello_sends digest from h server
    by None = other_sends table from bytes server

call_sends : (table : Table) (a n : ℕ) (args : List Arg) (g : Guest) → AreSentOn 0 (call_at_guest table a n args g).1
call_sends table a n args g = lines_send_nothing 0 (after_call_of table AtServer a n args g.player).1

line_sends : (table : Table) (server : Server) (line : Line) → AreSentOn 0 (after_line table server line).1
line_sends table server (ApplyEdit edit) = lines_send_nothing 0 (edit_reports server.edits edit)
line_sends table server (CallTo AtServer player a n args) =
    let call = call_at_guest table a n args in
    either 0 (list_any (is_numbered player) server.guests)
    (with_guests (where_it_holds (is_numbered player) call) server) (server, Writes (absent_text player) ∷ [])
    (guests_send 0 (where_it_holds (is_numbered player) call) server (guest_either 0 (is_numbered player) call
    (call_sends table a n args))) (tt, tt)
line_sends table server (CallTo AtClient player a n args) = tt
line_sends table server (CallAll a n args) =
    guests_send 0 (call_at_guest table a n args) server (call_sends table a n args)
line_sends table server (Join player budget version) = tt
line_sends table server TickAll = tt
line_sends table server (TickClient player) = tt
line_sends table server (Deliver side player k) = tt
line_sends table server (DeliverNew side player every) = tt
line_sends table server (Dump player) = tt
line_sends table server (AskSettled player a) = tt
line_sends table server (Forge side player bytes) = tt

-- the script's lines send nothing
pub script_sends : (table : Table) (server : Server) → AreSentOn 0 (after_script_part table server).1
script_sends table server =
    folds 0 (after_line table) (line_sends table) (record server { lines = lines_after_tick server.lines }, [])
    (lines_before_tick server.lines) tt

-- and its ticks send there
pub ticks_send : (table : Table) (server : Server) → AreSentOn 0 (after_ticks table server).1
ticks_send table server =
    guests_send 0 (λ (g : Guest). after_live_tick table server.edits AtServer 0 g.peer g.player) server
    (λ (g : Guest). tick_sends table server.edits AtServer 0 g.peer g.player)

-- ---- a client

caller_either : (end : ℕ) (test : Bool) (one other : Called) → AreSentOn end one.1 → AreSentOn end other.1
    → AreSentOn end (if test then one else other).1
caller_either end true one other is are = is
caller_either end false one other is are = are

-- a client sends on its end alone: it hears without an answer
pub caller_hearing_sends : (table : Table) (c : Caller) (h : Heard) → AreSentOn c.end (caller_after_heard table c h).1
caller_hearing_sends table c Quiet = tt
caller_hearing_sends table c (Datagram from bytes) =
    caller_either c.end c.welcomed (caller_after_datagram table from bytes c) (after_answer c (Datagram from bytes))
    (caller_either c.end (not (same_peer from c.server) || ends_in_zero bytes) (c, [])
    (let next = after_hearing table [] AtClient bytes c.player in (record c { player = next.0 }, next.1)) tt
    (hearing_sends_nothing c.end table [] AtClient bytes c.player))
    (caller_either c.end (welcomes c (Datagram from bytes)) (record c { welcomed = true }, [])
    (record c { refused = refusal_in c (Datagram from bytes) }, []) tt tt)

-- asks there
pub asking_sends : (digest : List ℕ) (c : Caller) → AreSentOn c.end (asks digest c)
asking_sends digest c = by c.welcomed
  where
    by : (welcomed : Bool) → AreSentOn c.end (if welcomed then [] else Sends c.end c.server
        (hello c.player.version c.player.number digest) ∷ [])
    by true = tt
    by false = (refl, tt)

-- and ticks there
pub caller_tick_sends : (table : Table) (c : Caller) → AreSentOn c.end (after_tick table c).1
caller_tick_sends table c =
    caller_either c.end (not c.welcomed) (c, [])
    (let next = after_live_tick table [] AtClient c.end c.server c.player in (record c { player = next.0 }, next.1)) tt
    (tick_sends table [] AtClient c.end c.server c.player)
