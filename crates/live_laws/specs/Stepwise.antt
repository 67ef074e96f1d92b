-- Turns taken step by step: what is heard comes one after another, and not as a list.
use Rattle.std.specs.Prelude.{◌≡◌, ℕ, List, [], ◌∷◌, ◌++◌, ⊤}
use Rattle.std.specs.List.{fold}
use Rattle.protocol_model.specs.Value.{Table}
use Rattle.live_model.specs.Outside.{Heard, Datagram, Quiet, Act, Sends, Writes, turn_part}
use Rattle.live_model.specs.Server.{Server, Served, also, after_heard, after_script_part, after_ticks, then_does}
use Rattle.live_model.specs.Caller.{Caller, Called, also_heard, caller_part, after_tick, asks}

-- ---- what is still to be heard

-- the server, which is still to hear this
abbrev pub still : List Heard → Server → Server
still heard server = record server { heard = heard }

-- the same with what it did
abbrev pub served_still : List Heard → Served → Served
served_still heard served = (still heard served.0, served.1)

-- the client, which is still to hear this
abbrev pub caller_still : List Heard → Caller → Caller
caller_still heard c = record c { heard = heard }

-- the same with what it did
abbrev pub called_still : List Heard → Called → Called
called_still heard called = (caller_still heard called.0, called.1)

-- all of these are datagrams
abbrev pub AreDatagrams : List Heard → Type 0
AreDatagrams [] = ⊤
AreDatagrams (Quiet ∷ heard) = ⊥
AreDatagrams (Datagram from bytes ∷ heard) = AreDatagrams heard

-- ---- parts

-- a turn of the server hears this, whatever follows it
abbrev pub IsWhole : (part : List Heard) → Type 0
IsWhole part = (more : List Heard) → turn_part (part ++ more) ≡ part

-- a turn of the client hears this, whatever follows it
abbrev pub IsWholeFor : Caller → (part : List Heard) → Type 0
IsWholeFor c part = (more : List Heard) → caller_part (caller_still (part ++ more) c) ≡ part

-- ---- turns

-- the server, with what it did, after it heard these one by one
abbrev pub server_hears : Table → (digest : List ℕ) → Served → List Heard → Served
server_hears table digest served heard = fold (also (after_heard table digest)) served heard

-- the rest of its turn: the script's lines and the tick
abbrev pub rest_of_turn : Table → Served → Served
rest_of_turn table served = then_does (then_does served (after_script_part table)) (after_ticks table)

-- the client, with what it did, after it heard these one by one
abbrev pub caller_hears : Table → Called → List Heard → Called
caller_hears table called heard = fold (also_heard table) called heard

-- the rest of its turn, which asks first where it isn't welcomed, and ticks last
abbrev pub rest_of_caller_turn : Table → (digest : List ℕ) → Caller → Called → Called
rest_of_caller_turn table digest c heard =
    let ticked = after_tick table heard.0 in (ticked.0, asks digest c ++ heard.1 ++ ticked.1)

-- ---- ends

-- an act that sends does so on this end
abbrev pub IsSentOn : (end : ℕ) → Act → Type 0
IsSentOn end (Sends by to bytes) = by ≡ end
IsSentOn end (Writes text) = ⊤

abbrev pub AreSentOn : (end : ℕ) → List Act → Type 0
AreSentOn end [] = ⊤
AreSentOn end (act ∷ acts) = IsSentOn end act × AreSentOn end acts
