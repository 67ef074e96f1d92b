-- The open that a copy came of last, and the world of the tick that made it.
use Rattle.std.specs.Prelude.{◌≡◌, ℕ, List, ◌∷◌, ◌++◌, false, Some, None}
use Rattle.std.specs.List.{AllByRecursion}
use Rattle.protocol_model.specs.declared.Cond.TheVariants.{InitialOnly}
use Rattle.protocol_model.specs.Value.{Table, Segment, Class, Prop, Pair, prop_at}
use Rattle.protocol_model.specs.World.{Edits}
use Rattle.protocol_model.specs.Payload.{Opens}
use Rattle.protocol_model.specs.Sight.{sight}
use Rattle.connection_model.specs.Feed.{Past, Made, Delivered, sight_of}
use Rattle.connection_model.specs.Copies.{delivered_of, removes, class_opened}

-- the payload neither opens nor removes the actor's copy
abbrev pub IsQuietOf : ℕ → Delivered → Type 0
IsQuietOf a d = (removes a d ≡ false) × (class_opened a d ≡ None)

-- the handle's property is initial-only
abbrev pub IsInitial : Class → (handle : ℕ) → Type 0
IsInitial class h = (prop : Prop) × (prop_at class h ≡ Some prop) × (prop.cond ≡ InitialOnly)

-- the open of the actor that the client applied last, with no removal after it: where the server
-- made it, and the world that the server saw at that tick
pub record LastOpen (table : Table) (player : ℕ) (edits : Edits) (server client : Past)
    (actor channel : ℕ) : Type 0 where
  -- no payload that was handed on after it opens or removes the copy
  pub after : List Delivered
  pub delivered : Delivered
  pub before : List Delivered
  pub split : delivered_of client ≡ after ++ delivered ∷ before
  pub quiet : AllByRecursion (IsQuietOf actor) after
  -- it is an open, and the server made it on the channel
  pub number : ℕ
  pub exports : List Segment
  pub class : Class
  pub values : List Pair
  pub opens : delivered.message ≡ Opens exports actor class values
  pub newer : Past
  pub older : Past
  pub made : server ≡ newer ++ Made channel number (Opens exports actor class values) 0 ∷ older
  -- at a tick whose sight is the player's of a world that has since grown to these edits
  pub more : Edits
  pub world : Edits
  pub earlier : List ℕ
  pub grown : edits ≡ more ++ world
  pub seen : sight_of older ≡ sight table world player earlier
