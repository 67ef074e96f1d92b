-- Conditions of replication, after Unreal's `ELifetimeCondition`.
use Rattle.std.specs.Prelude.{Bool, true, false, not}
use Rattle.protocol_model.specs.declared.Cond.{Cond}
use Rattle.protocol_model.specs.declared.Cond.TheVariants.{Always, InitialOnly, OwnerOnly, SkipOwner, InitialOrOwner, Custom}

-- an open to this connection holds the property; `on` is the switch, which a custom property alone has
abbrev pub visible : Cond → (owns on : Bool) → Bool
visible Always owns on = true
visible InitialOnly owns on = true
visible OwnerOnly owns on = owns
visible SkipOwner owns on = not owns
visible InitialOrOwner owns on = true
visible Custom owns on = on

-- an update to this connection may hold the property
abbrev pub updatable : Cond → (owns on : Bool) → Bool
updatable Always owns on = true
updatable InitialOnly owns on = false
updatable OwnerOnly owns on = owns
updatable SkipOwner owns on = not owns
updatable InitialOrOwner owns on = owns
updatable Custom owns on = on
