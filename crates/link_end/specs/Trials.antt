-- Links as tests drive them.
use Rattle.std.specs.Prelude.{◌≡◌, ◌⊎◌, ◌≤◌, false}
use Rattle.connection_model.specs.Feed.{End, Past}
use Rattle.connection_model.specs.Pack.{Packing}
use Rattle.link_end.specs.Link.{Link}
use Rattle.link_end.specs.Rests.{Rests, IsSpent}
use Rattle.link_end.specs.Packs.{Packs}

-- between two ticks
abbrev pub IsIdle : Link → Type 0
IsIdle l = IsSpent l ⊎ ((end : End) × (past : Past) × Rests l end past × (1 ≤ end.budget))

-- in a tick
abbrev pub IsEnding : Link → Type 0
IsEnding l =
    IsSpent l ⊎ ((end : End) × (before : Past) × (p : Packing) × Packs l end before p × (1 ≤ end.budget))

-- in a tick in which each item found room
abbrev pub IsTicking : Link → Type 0
IsTicking l =
    IsSpent l ⊎ ((end : End) × (before : Past) × (p : Packing) × Packs l end before p × (p.full ≡ false)
    × (1 ≤ end.budget))
