-- Calls: which were queued at one end, and which were handed over at the other and with what verdict.
-- What is promised is that on each index those handed over are a prefix of those queued.
use Rattle.std.specs.Prelude.{ℕ, ◌==◌, List, length, take, reverse, Bool, not, ◌&&◌, ◌-◌, Option, Some, None, filter_map, if◌then◌else◌}
use Rattle.protocol_model.specs.Value.{Arg}
use Rattle.protocol_model.specs.World.{Edits, lives, owns}
use Rattle.protocol_model.specs.Payload.{Message, Calls}
use Rattle.connection_model.specs.Feed.{End, Past, Deed, Made, Delivered}
use Rattle.connection_model.specs.Copies.{delivered_of}
use Rattle.connection_model.specs.Verdict.{after_got}
use Rattle.protocol_model.specs.declared.CallVerdict.{CallVerdict}
use Rattle.protocol_model.specs.declared.CallVerdict.TheVariants.{Run, NotOwner, Stale}

-- a call without its verdict
pub record Asked : Type 0 where
  pub actor : ℕ
  pub number : ℕ
  pub args : List Arg

-- the call that a message is
abbrev pub asked_in : Message → Option Asked
asked_in (Calls actor number call args) = Some (record { actor = actor; number = number; args = args })
asked_in message = None

-- the call whose first part a deed made on the index
abbrev pub queued_in : ℕ → Deed → Option Asked
queued_in ch (Made channel number message i) = if channel == ch && i == 0 then asked_in message else None
queued_in ch deed = None

-- the reliable calls that were queued while their actor held the index, in order
abbrev pub queued_on : Past → (channel : ℕ) → List Asked
queued_on past ch = reverse (filter_map (queued_in ch) past)

-- the reliable call that was handed on from the index
abbrev pub handed_in : ℕ → Delivered → Option Asked
handed_in ch d = if d.channel == ch && d.reliable then asked_in d.message else None

-- the reliable calls among the whole payloads of the index, in order
abbrev pub handed_on : Past → (channel : ℕ) → List Asked
handed_on past ch = reverse (filter_map (handed_in ch) (delivered_of past))

-- what one datagram handed on, in order
abbrev pub handed_by : End → Past → List ℕ → List Delivered
handed_by end past bytes =
    let after = delivered_of (after_got end past bytes) in
    reverse (take (length after - length (delivered_of past)) after)

-- at the server, by the world at that moment
abbrev pub server_verdict : Edits → (player actor : ℕ) → (held : Bool) → CallVerdict
server_verdict edits player a held =
    if not (lives edits a && held) then Stale else if owns edits player a then Run else NotOwner

-- at a client
abbrev pub client_verdict : (held : Bool) → CallVerdict
client_verdict held = if held then Run else Stale
