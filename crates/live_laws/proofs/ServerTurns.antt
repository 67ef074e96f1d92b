-- A server's turn, step by step.
use Rattle.std.proofs.Common.{◌≡◌, ℕ, suc, List, [], ◌∷◌, ◌++◌, Bool, true, false, Option, Some, None, refl, ap, sym, ◌∙◌, append_assoc, append-nil}
use Rattle.std.specs.Prelude.{⊤, if◌then◌else◌}
use Rattle.std.proofs.lemmas.List.Sums.{fold-append}
use Rattle.std.specs.List.{fold, list_any}
use Rattle.protocol_model.specs.Side.{AtServer, AtClient}
use Rattle.protocol_model.specs.Value.{Table}
use Rattle.script_model.specs.Lines.{Join, ApplyEdit, TickAll, TickClient, Deliver, DeliverNew, CallTo, CallAll, Dump, AskSettled, Forge}
use Rattle.live_model.specs.Outside.{Peer, Heard, Datagram, Quiet, Act, Sends, Writes, turn_part, after_part}
use Rattle.live_model.specs.Handshake.{Hello, hello_in, welcome, ends_in_zero}
use Rattle.live_model.specs.Server.{Guest, Server, Served, with_guests, where_it_holds, is_from, after_hearing, call_at_guest, absent_text, also, after_hello, after_new_hello, after_other, after_datagram, after_heard, after_line, after_script_part, after_ticks, then_does, lines_before_tick, lines_after_tick, is_same_guest, is_numbered, refusal_of, after_server_turn}
use Rattle.live_model.specs.Runs.{after_server_turns}
use Rattle.live_laws.specs.Stepwise.{still, served_still, IsWhole, server_hears, rest_of_turn}
use Rattle.live_laws.proofs.Parts.{more_left, none_left, whole_alone}

-- what is left to be heard is left alone
abbrev LeavesHeard : {A : Type 0} → (Server → A → Served) → Type 0
LeavesHeard {A} does =
    (heard : List Heard) (server : Server) (x : A)
    → does (still heard server) x ≡ served_still heard (does server x)

fold_leaves : {A : Type 0} → (does : Server → A → Served) → LeavesHeard does → (heard : List Heard) (served : Served)
    (xs : List A)
    → fold (also does) (served_still heard served) xs ≡ served_still heard (fold (also does) served xs)
fold_leaves does leaves heard served [] = refl
fold_leaves does leaves heard served (x ∷ xs) =
    ap (λ (next : Served). fold (also does) (next.0, served.1 ++ next.1) xs) (leaves heard served.0 x)
    ∙ fold_leaves does leaves heard ((does served.0 x).0, served.1 ++ (does served.0 x).1) xs

-- either of two
choice : (heard : List Heard) (test : Bool) (one other : Served)
    → (if test then served_still heard one else served_still heard other)
    ≡ served_still heard (if test then one else other)
choice heard true one other = refl
choice heard false one other = refl

-- ---- hearing

other_leaves : (table : Table) (from : Peer) (bytes : List ℕ) → LeavesHeard (λ (s : Server) (u : ⊤). after_other table from bytes s)
other_leaves table from bytes heard server u =
    choice heard (ends_in_zero bytes) (server, []) (with_guests (where_it_holds (is_from from)
    (λ (g : Guest). after_hearing table server.edits AtServer bytes g.player)) server)

new_hello_leaves : (from : Peer) (h : Hello) (why : Option ℕ) (heard : List Heard) (server : Server)
    → after_new_hello from h (still heard server) why
    ≡ served_still heard (after_new_hello from h server why)
new_hello_leaves from h (Some code) heard server = refl
new_hello_leaves from h None heard server = refl

hello_leaves : (digest : List ℕ) (from : Peer) (h : Hello) (heard : List Heard) (server : Server)
    → after_hello digest from h (still heard server)
    ≡ served_still heard (after_hello digest from h server)
hello_leaves digest from h heard server =
    let known = list_any (is_same_guest from h) server.guests in
    let welcomed : List Act = Sends 0 from (welcome h.version h.player) ∷ [] in
    let why = refusal_of digest server.guests from h in
    ap (λ (next : Served). if known then (still heard server, welcomed) else next)
    (new_hello_leaves from h why heard server)
    ∙ choice heard known (server, welcomed) (after_new_hello from h server why)

datagram_leaves : (table : Table) (digest : List ℕ) (from : Peer) (bytes : List ℕ) (heard : List Heard)
    (server : Server)
    → after_datagram table digest from bytes (still heard server)
    ≡ served_still heard (after_datagram table digest from bytes server)
datagram_leaves table digest from bytes heard server = by (hello_in bytes)
  where
    next : Server → Option Hello → Served
    next s o = elim o [ Some h ↦ after_hello digest from h s | None ↦ after_other table from bytes s ]

    by : (o : Option Hello) → next (still heard server) o ≡ served_still heard (next server o)
    by (Some h) = hello_leaves digest from h heard server
    by None = other_leaves table from bytes heard server tt

pub hearing_leaves : (table : Table) (digest : List ℕ) → LeavesHeard (after_heard table digest)
hearing_leaves table digest heard server Quiet = refl
hearing_leaves table digest heard server (Datagram from bytes) =
    datagram_leaves table digest from bytes heard server

-- ---- the rest of a turn

line_leaves : (table : Table) → LeavesHeard (after_line table)
line_leaves table heard server (ApplyEdit edit) = refl
line_leaves table heard server (CallTo AtServer player a n args) =
    choice heard (list_any (is_numbered player) server.guests)
    (with_guests (where_it_holds (is_numbered player) (call_at_guest table a n args)) server)
    (server, Writes (absent_text player) ∷ [])
line_leaves table heard server (CallTo AtClient player a n args) = refl
line_leaves table heard server (CallAll a n args) = refl
line_leaves table heard server (Join player budget version) = refl
line_leaves table heard server TickAll = refl
line_leaves table heard server (TickClient player) = refl
line_leaves table heard server (Deliver side player k) = refl
line_leaves table heard server (DeliverNew side player every) = refl
line_leaves table heard server (Dump player) = refl
line_leaves table heard server (AskSettled player a) = refl
line_leaves table heard server (Forge side player bytes) = refl

script_leaves : (table : Table) (heard : List Heard) (server : Server)
    → after_script_part table (still heard server) ≡ served_still heard (after_script_part table server)
script_leaves table heard server =
    fold_leaves (after_line table) (line_leaves table) heard
    (record server { lines = lines_after_tick server.lines }, []) (lines_before_tick server.lines)

rest_leaves : (table : Table) (heard : List Heard) (served : Served)
    → rest_of_turn table (served_still heard served) ≡ served_still heard (rest_of_turn table served)
rest_leaves table heard served =
    ap (λ (next : Served). then_does (next.0, served.1 ++ next.1) (after_ticks table))
    (script_leaves table heard served.0)

-- ---- a turn

-- a turn whose part this is hears it, and then does the rest
pub turn_of_part : (table : Table) (digest : List ℕ) (part more : List Heard) (server : Server)
    → turn_part (part ++ more) ≡ part
    → after_server_turn table digest (still (part ++ more) server)
    ≡ rest_of_turn table (server_hears table digest (still more server, []) part)
turn_of_part table digest part more server is =
    ap (λ (p : List Heard). rest_of_turn table (server_hears table digest
    (still (after_part p (part ++ more)) server, []) p)) is
    ∙ ap (λ (left : List Heard). rest_of_turn table (server_hears table digest (still left server, []) part))
    (more_left part more)

-- the same where nothing follows
pub turn_of_all : (table : Table) (digest : List ℕ) (part : List Heard) (server : Server) → turn_part part ≡ part
    → after_server_turn table digest (still part server)
    ≡ rest_of_turn table (server_hears table digest (still [] server, []) part)
turn_of_all table digest part server is =
    ap (λ (p : List Heard). rest_of_turn table (server_hears table digest (still (after_part p part) server, []) p)) is
    ∙ ap (λ (left : List Heard). rest_of_turn table (server_hears table digest (still left server, []) part))
    (none_left part)

-- what follows a whole part is left for the next turn
pub turn_leaves : (table : Table) (digest : List ℕ) (part more : List Heard) (server : Server) → IsWhole part
    → after_server_turn table digest (still (part ++ more) server)
    ≡ served_still more (after_server_turn table digest (still part server))
turn_leaves table digest part more server is =
    let hears = hearing_leaves table digest in
    let alone = turn_of_all table digest part server (whole_alone part is) in
    turn_of_part table digest part more server (is more)
    ∙ ap (rest_of_turn table) (fold_leaves (after_heard table digest) hears more (still [] server, []) part)
    ∙ rest_leaves table more (server_hears table digest (still [] server, []) part)
    ∙ ap (served_still more) (sym alone)

-- and so with the turns after it
pub turns_leave : (table : Table) (digest : List ℕ) (turns : ℕ) (part more : List Heard) (server : Server)
    (acts : List Act) → IsWhole part
    → after_server_turns table digest (suc turns) (still (part ++ more) server, acts)
    ≡ after_server_turns table digest turns (
      still more (after_server_turn table digest (still part server)).0,
      acts ++ (after_server_turn table digest (still part server)).1,
    )
turns_leave table digest turns part more server acts is =
    ap (λ (next : Served). after_server_turns table digest turns (next.0, acts ++ next.1))
    (turn_leaves table digest part more server is)

-- one thing more is heard
pub hears_one : (table : Table) (digest : List ℕ) (served : Served) (part : List Heard) (h : Heard)
    → server_hears table digest served (part ++ h ∷ [])
    ≡ also (after_heard table digest) (server_hears table digest served part) h
hears_one table digest served part h = fold-append (also (after_heard table digest)) served part (h ∷ [])

-- ---- what was done before

-- what was done before stands in front
in_front : {A : Type 0} (does : Server → A → Served) (served : Served) (xs : List A)
    → fold (also does) served xs
    ≡ ((fold (also does) (served.0, []) xs).0, served.1 ++ (fold (also does) (served.0, []) xs).1)
in_front does served [] = ap (λ (acts : List Act). (served.0, acts)) (sym (append-nil served.1))
in_front does served (x ∷ xs) =
    let next = does served.0 x in
    let rest = fold (also does) (next.0, []) xs in
    in_front does (next.0, served.1 ++ next.1) xs
    ∙ ap (λ (acts : List Act). (rest.0, acts)) (append_assoc served.1 next.1 rest.1)
    ∙ ap (λ (on : Served). (on.0, served.1 ++ on.1)) (sym (in_front does (next.0, next.1) xs))

-- what is heard after a part comes of the server after it
pub hears_both : (table : Table) (digest : List ℕ) (server : Server) (part more : List Heard)
    → server_hears table digest (still [] server, []) (part ++ more)
    ≡ (
      (server_hears table digest (still [] (server_hears table digest (still [] server, []) part).0, []) more).0,
      (server_hears table digest (still [] server, []) part).1
          ++ (server_hears table digest (still [] (server_hears table digest (still [] server, []) part).0, []) more).1,
    )
hears_both table digest server part more =
    let does = after_heard table digest in
    let first = server_hears table digest (still [] server, []) part in
    let same : first ≡ served_still [] first = fold_leaves does (hearing_leaves table digest) [] (still [] server, []) part in
    fold-append (also does) (still [] server, []) part more
    ∙ in_front does first more
    ∙ ap (λ (s : Server). ((fold (also does) (s, []) more).0, first.1 ++ (fold (also does) (s, []) more).1))
    (ap (λ (served : Served). served.0) same)
