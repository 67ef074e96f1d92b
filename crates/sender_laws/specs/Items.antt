-- What an item does to what a sender keeps.
use Rattle.std.specs.Prelude.{◌≡◌, ℕ, Bool, false}
use Rattle.std.specs.List.{list_any}
use Rattle.connection_model.specs.Feed.{Past, Deed, Sent, Item, Owed, Carries, Loose}
use Rattle.connection_model.specs.Bunches.{has_arrived}
use Rattle.connection_model.specs.Items.{is_update_of}

-- a bunch that is carried hasn't arrived
abbrev pub CarriesAwaited : Past → Item → Type 0
CarriesAwaited past (Carries channel number bunch) = has_arrived past channel number ≡ false
CarriesAwaited past (Owed number) = Unit {0}
CarriesAwaited past (Loose message bunch) = Unit {0}

-- the deed sent an update of the actor
abbrev pub updates_in : ℕ → Deed → Bool
updates_in a (Sent number t items) = list_any (is_update_of a) items
updates_in a deed = false

-- one of these deeds did
abbrev pub has_update : ℕ → Past → Bool
has_update a past = list_any (updates_in a) past
