-- A server that two players joined, for tests.
use Rattle.std.specs.Prelude.{◌≡◌, true}
use Rattle.net_driver.specs.Served.{Served, has_joined}
use Rattle.net_driver.specs.Serves.{Drive, Serves}

-- players 1 and 2 joined
abbrev pub HasTwo : Drive → Type 0
HasTwo d = (s : Served) × Serves d s × (has_joined s 1 ≡ true) × (has_joined s 2 ≡ true)
