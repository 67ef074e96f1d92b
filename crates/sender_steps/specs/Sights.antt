-- Sights as the program has them.
use Rattle.std.specs.Prelude.{ℕ, List, map}
use Rattle.protocol_model.specs.World.{class_at}
use Rattle.protocol_model.specs.Sight.{Seen}
use Rattle.class_layout.specs.Tables.{Layout, table_in}
use Rattle.sender_records.specs.Handles.{pair_value}
use Rattle.sender_steps.specs.declared.sight.Seen.{Seen as SeenValue}

-- what a player sees of an actor, whose class is named by its place
abbrev pub seen_value : Layout → SeenValue → Seen
seen_value layout s = record {
  actor = s.actor;
  class = class_at (table_in layout) s.class;
  owns = s.owns;
  relevant = s.relevant;
  destroyed = s.destroyed;
  dormant = s.dormant;
  flush = s.flush;
  values = map pair_value s.values;
}

-- what a player sees
abbrev pub sight_value : Layout → List SeenValue → List Seen
sight_value layout sight = map (seen_value layout) sight

-- the actors of a sight
abbrev pub actors_in : List SeenValue → List ℕ
actors_in sight = map (λ (s : SeenValue). s.actor) sight
