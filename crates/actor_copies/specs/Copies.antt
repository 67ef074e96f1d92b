-- Copies as the program has them, against those of the definitions.
use Rattle.std.specs.Prelude.{ℕ, List, map, Option, option_map, unwrap_or, filter_map}
use Rattle.protocol_model.specs.Value.{Class, Pair, Prop, handles_of, value_among, initial_value}
use Rattle.protocol_model.specs.World.{class_at}
use Rattle.class_layout.specs.Tables.{Layout, table_in}
use Rattle.connection_model.specs.Feed.{Past}
use Rattle.connection_model.specs.Copies.{copied_actors, copy_class, copy_channel, copy_value}
use Rattle.payload_reading.specs.Values.{pair_values}
use Rattle.actor_copies.specs.declared.copy.ActorCopy.{ActorCopy}

-- a copy: its actor, its class, its channel unless it sleeps, and each handle's value, ascending
pub record Copy : Type 0 where
  pub actor : ℕ
  pub class : Class
  pub channel : Option ℕ
  pub values : List Pair

-- a value of each handle of the class
abbrev pub by_handle : (ℕ → Pair) → Class → List Pair
by_handle value class = map (λ (entry : ℕ × Prop). value entry.0) (handles_of class)

-- the values of the actor's copy, if it is of this class
abbrev pub values_of : Past → (actor : ℕ) → Class → List Pair
values_of past a class = by_handle (λ h. record { handle = h; value = copy_value past a h }) class

-- the values with which a copy of the class begins
abbrev pub initial_values : Class → List Pair
initial_values class = by_handle (λ h. record { handle = h; value = initial_value class h }) class

-- a value under these
abbrev pub overlay : List Pair → Pair → Pair
overlay pairs p =
    record { handle = p.handle; value = unwrap_or (value_among pairs p.handle) p.value }

-- the copy of an actor, if there is one
abbrev pub copy_of : Past → (actor : ℕ) → Option Copy
copy_of past a = option_map (λ (class : Class). record {
  actor = a;
  class = class;
  channel = copy_channel past a;
  values = values_of past a class;
}) (copy_class past a)

-- all copies, ascending by actor
abbrev pub copies_of : Past → List Copy
copies_of past = filter_map (copy_of past) (copied_actors past)

-- the copy that the program has, whose class is named by its place
abbrev pub copy_value_of : Layout → ActorCopy → Copy
copy_value_of layout c = record {
  actor = c.actor;
  class = class_at (table_in layout) c.class;
  channel = c.channel;
  values = pair_values c.values;
}
