-- What a replay keeps.
use Rattle.std.specs.Prelude.{List, Bool}
use Rattle.class_layout.specs.Tables.{Layout}
use Rattle.net_driver.specs.Serves.{Drive}
use Rattle.replay_places.specs.declared.place.Place.{Place}

-- the classes, the server, the players' places, ascending, and whether want of memory ended it
pub record Kept : Type 0 where
  pub layout : Layout
  pub driver : Drive
  pub places : List Place
  pub spent : Bool
