-- What an end knows of a packet that it sent.
use Rattle.std.specs.Prelude.{ℕ, ◌==◌, List, Bool, true, false, not, nat_lt, nat_le, Option, Some, None, unwrap_or, if◌then◌else◌}
use Rattle.protocol_model.specs.Search.{is_among, greatest_of}
use Rattle.connection_model.specs.Feed.{Past}
use Rattle.connection_model.specs.Fates.{moved_of}

-- whether a packet arrived, if it is known, where these have moved
abbrev pub known_by : (moved : List ℕ) → (packet : ℕ) → Option Bool
known_by moved n = if nat_lt (greatest_of moved) n then None else Some (is_among n moved)

-- whether the packet arrived, if it is known
abbrev pub known : Past → (packet : ℕ) → Option Bool
known past n = known_by (moved_of past) n

-- what is known once a packet moved: it arrived, and those before it that weren't known of are lost
abbrev pub known_then : (to packet : ℕ) → Option Bool → Option Bool
known_then to n fate = elim fate [ Some arrived ↦ Some arrived | None ↦ if nat_le n to then Some (n == to) else None ]

-- the carrier is known to have arrived
abbrev pub arrived_by : (packet : ℕ → Option Bool) → Option ℕ → Bool
arrived_by f None = false
arrived_by f (Some p) = unwrap_or (f p) false

-- there is no carrier, or it is known to be lost
abbrev pub needed_by : (packet : ℕ → Option Bool) → Option ℕ → Bool
needed_by f None = true
needed_by f (Some p) = not (unwrap_or (f p) true)
