-- What the links in memory are seen as.
use Rattle.std.specs.Prelude.{ℕ, zero, suc, List, [], ◌∷◌, ◌++◌, map, length, drop, slice_get, option_map, option_and_then, unwrap_or, if◌then◌else◌}
use Rattle.net_core.specs.Failing.{Calls}
use Rattle.live_model.specs.Outside.{Peer, same_peer, Heard, Datagram, Quiet}
use Rattle.live_links.specs.declared.link.Heard.{Heard as HeardCode}
use Rattle.live_links.specs.declared.link.Heard.TheVariants as code
use Rattle.live_links.specs.Told.{EndTold, new_end, at_end, hears, sends, heard_at}

-- ---- scripts

-- for each end the script of what it hears, with the open ends, and the calls of all of them
pub record MemoryLink : Type 0 where
  pub scripts : List (List HeardCode)
  pub ends : List EndTold
  pub calls : Calls

-- a link of these scripts with no open end, and the calls that are to fail
abbrev pub scripted : (scripts : List (List HeardCode)) → (failing : List ℕ) → MemoryLink
scripted scripts failing = record {
  scripts = scripts;
  ends = [];
  calls = record { made = 0; faults = 0; failing = failing };
}

-- the item of the end's script at a place; Quiet past them, and where there is no script
abbrev pub item_at : List (List HeardCode) → (end place : ℕ) → HeardCode
item_at scripts end place =
    unwrap_or (option_and_then (λ (script : List HeardCode). slice_get script place) (slice_get scripts end)) code.Quiet

-- what the end hears next: it has heard as many items of its script, and Quiets past them
abbrev pub next_item : MemoryLink → (end : ℕ) → HeardCode
next_item m end = item_at m.scripts end (length (heard_at m.ends end))

-- ---- pipes

-- an end of a pipe: its port, the datagrams that wait there with who sent each, and what is told of it
pub record PipeEndSeen : Type 0 where
  pub port : ℕ
  pub waiting : List (Peer × List ℕ)
  pub told : EndTold

-- the peer at a port of the machine itself
abbrev pub local_peer : (port : ℕ) → Peer
local_peer port = record { ip = 127 ∷ 0 ∷ 0 ∷ 1 ∷ []; port = port }

-- an end at this port where nothing waits
abbrev pub new_pipe_end : (port : ℕ) → PipeEndSeen
new_pipe_end port = record { port = port; waiting = []; told = new_end }

-- what its ends are told to have heard and sent
abbrev pub told_of : List PipeEndSeen → List EndTold
told_of ends = map (λ (e : PipeEndSeen). e.told) ends

-- the peer of an end
abbrev pub peer_at : List PipeEndSeen → (end : ℕ) → Peer
peer_at ends end = local_peer (unwrap_or (option_map (λ (e : PipeEndSeen). e.port) (slice_get ends end)) 0)

-- the other of two ends
abbrev pub other_end : ℕ → ℕ
other_end zero = 1
other_end (suc n) = 0

-- what waits at an end
abbrev pub waiting_at : List PipeEndSeen → (end : ℕ) → List (Peer × List ℕ)
waiting_at ends end = unwrap_or (option_map (λ (e : PipeEndSeen). e.waiting) (slice_get ends end)) []

-- what is heard where these wait: the first of them, or Quiet where there is none
abbrev pub next_waiting : List (Peer × List ℕ) → Heard
next_waiting [] = Quiet
next_waiting (d ∷ ds) = Datagram d.0 d.1

-- an end hears what waits there first
abbrev pub hears_first : PipeEndSeen → PipeEndSeen
hears_first e = record e { waiting = drop 1 e.waiting; told = hears (next_waiting e.waiting) e.told }

-- a datagram is sent on an end
abbrev pub sends_on : (to : Peer) → List ℕ → PipeEndSeen → PipeEndSeen
sends_on to bytes e = record e { told = sends to bytes e.told }

-- a datagram arrives at an end if it is the end's peer that it was sent to
abbrev pub arrives : (to from : Peer) → List ℕ → PipeEndSeen → PipeEndSeen
arrives to from bytes e =
    if same_peer (local_peer e.port) to
    then record e { waiting = e.waiting ++ (from, bytes) ∷ [] }
    else e

-- a datagram is sent on one end, and arrives at the other or nowhere
abbrev pub after_send : (end : ℕ) → (to : Peer) → List ℕ → List PipeEndSeen → List PipeEndSeen
after_send end to bytes ends =
    at_end (arrives to (peer_at ends end) bytes) (other_end end) (at_end (sends_on to bytes) end ends)
