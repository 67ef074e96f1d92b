-- What the channels keep of the bunches received.
use Rattle.std.specs.Prelude.{ℕ, List, [], Bool, false, Option, None, slice_index_or}
use Rattle.protocol_model.specs.Packet.{Bunch}
use Rattle.reliable_window.specs.In.{Window}
use Rattle.partial_bunches.specs.Joins.{Kept}
use Rattle.incoming_channels.specs.declared.flags.Flags.{Flags as FlagsValue}

-- the flags of the bunch with which a payload begins
abbrev pub Flags : Type 0
Flags = FlagsValue

-- the parts of a payload under way, the flags of the first, and whether a copy holds the channel
pub record Parts : Type 0 where
  pub joined : Kept
  pub first : Option Flags
  pub copied : Bool

-- a channel: the next number with the bunches held past a gap, and the parts under way
pub record Incoming : Type 0 where
  pub window : Window Bunch
  pub parts : Parts

-- whether the end is a server, each channel by its index, and how many bunches are held; `spent` by a want of memory
pub record Got : Type 0 where
  pub server : Bool
  pub incoming : List Incoming
  pub held : ℕ
  pub spent : Bool

-- no part is under way
abbrev pub no_parts : Parts
no_parts = record { joined = record { count = 0; bits = [] }; first = None; copied = false }

-- a channel on which nothing was received
abbrev pub unused_in : Incoming
unused_in = record { window = record { next = 1; held = [] }; parts = no_parts }

-- the channel with this index
abbrev pub in_at : List Incoming → (channel : ℕ) → Incoming
in_at incoming ch = slice_index_or incoming ch unused_in
