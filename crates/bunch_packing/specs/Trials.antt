-- Link and channels as tests drive them.
use Rattle.std.specs.Prelude.{◌≡◌, ◌≤◌, false}
use Rattle.protocol_model.specs.Side.{Side}
use Rattle.connection_model.specs.Feed.{End, Past}
use Rattle.connection_model.specs.Pack.{Packing}
use Rattle.link_end.specs.Link.{Link}
use Rattle.link_end.specs.Rests.{Rests}
use Rattle.channel_table.specs.Channels.{Channels}
use Rattle.channel_table.specs.Keeps.{Keeps}
use Rattle.bunch_packing.specs.Both.{PacksBoth, NonePacked, IsLow}

-- between two ticks
abbrev pub AreIdle : Link → Channels → Type 0
AreIdle l t =
    (end : End) × (side : Side) × (past : Past) × Rests l end past × Keeps t side past
    × IsLow end.version past × (1 ≤ end.budget)

-- in a tick
abbrev pub AreEnding : Link → Channels → Type 0
AreEnding l t =
    (end : End) × (side : Side) × (before : Past) × (p : Packing) × PacksBoth l t end side before p
    × (1 ≤ end.budget)

-- in a tick in which each bunch found room
abbrev pub ArePacking : Link → Channels → Type 0
ArePacking l t =
    (end : End) × (side : Side) × (before : Past) × (p : Packing) × PacksBoth l t end side before p
    × (1 ≤ end.budget) × (p.full ≡ false)

-- in a tick that packed no bunch that was made
abbrev pub AreFresh : Link → Channels → Type 0
AreFresh l t =
    (end : End) × (side : Side) × (before : Past) × (p : Packing) × PacksBoth l t end side before p
    × (1 ≤ end.budget) × (p.full ≡ false) × NonePacked p
