-- How what the channels keep follows from the bunches that the end received.
use Rattle.std.specs.Prelude.{◌≡◌, ℕ, ◌≤◌, List, [], ◌∷◌, Bool, true, false, Option, Some, None}
use Rattle.protocol_model.specs.Limits.{held_limit}
use Rattle.protocol_model.specs.Side.{Side, AtServer, AtClient}
use Rattle.protocol_model.specs.Packet.{Bunch}
use Rattle.connection_model.specs.Feed.{Past}
use Rattle.connection_model.specs.Windows.{Received, received_on, applied_of, kept_of, first_of, held_count}
use Rattle.reliable_window.specs.In.{Stands}
use Rattle.partial_bunches.specs.Joins.{Joins}
use Rattle.receiving_laws.specs.Holders.{is_copied_on}
use Rattle.incoming_channels.specs.Channels.{Flags, Parts, Incoming, Got, in_at}

-- a bunch's flags
abbrev pub flags_of : Bunch → Flags
flags_of b = record { opens = b.opens; closes = b.closes; sleeps = b.sleeps; exports = b.exports }

-- the flags of the oldest of these parts
abbrev pub first_flags : (kept : List Bunch) → Option Flags
first_flags [] = None
first_flags (b ∷ kept) = Some (flags_of (first_of kept b))

-- the parts under way are these bunches, the newest first
pub record Joining (p : Parts) (kept : List Bunch) : Type 0 where
  pub joined : Joins p.joined kept
  pub first : p.first ≡ first_flags kept

-- a channel is right about the bunches that it received
pub record KeepsBunches (got : List Received) (i : Incoming) : Type 0 where
  pub window : Stands i.window got
  pub joins : Joining i.parts (kept_of (applied_of got))

-- a channel is right about what it received and handed on
pub record KeepsIn (past : Past) (channel : ℕ) (i : Incoming) : Type 0 where
  pub bunches : KeepsBunches (received_on past channel) i
  pub copied : i.parts.copied ≡ is_copied_on past channel

-- the end is a server
abbrev pub is_server : Side → Bool
is_server AtServer = true
is_server AtClient = false

-- the channels are right about the bunches received
pub record KeepsGot (g : Got) (side : Side) (past : Past) : Type 0 where
  pub server : g.server ≡ is_server side
  pub received : (channel : ℕ) → KeepsIn past channel (in_at g.incoming channel)
  pub held : g.held ≡ held_count past
  pub few_held : g.held ≤ held_limit
  pub kept : g.spent ≡ false

-- want of memory ended the channels
abbrev pub IsSpent : Got → Type 0
IsSpent g = g.spent ≡ true
