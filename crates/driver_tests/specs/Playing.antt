-- A server that tests play.
use Rattle.std.specs.Prelude.{◌≡◌, ◌⊎◌, ℕ, ◌≤◌, length}
use Rattle.net_driver.specs.Served.{Served}
use Rattle.net_driver.specs.Serves.{Drive, Serves, IsSpent}

-- it serves, and took no more than so many edits; or want of memory ended it
abbrev pub IsPlaying : Drive → ℕ → Type 0
IsPlaying d edits = IsSpent d ⊎ ((s : Served) × Serves d s × (length s.edits ≤ edits))
