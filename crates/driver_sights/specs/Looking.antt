-- A look at the world for one player's end.
use Rattle.std.specs.Prelude.{◌≡◌, ◌<◌, ℕ, ◌+◌, ◌≤◌, List, length, Bool, true, not, ◌&&◌, IsTrue}
use Rattle.std.specs.List.{AllByRecursion}
use Rattle.protocol_model.specs.Value.{Table}
use Rattle.protocol_model.specs.World.{Edits, class_at}
use Rattle.protocol_model.specs.Sight.{is_relevant, seen_of}
use Rattle.connection_model.specs.Feed.{Past}
use Rattle.connection_model.specs.Items.{is_quiet}
use Rattle.class_layout.specs.Tables.{Layout, table_in}
use Rattle.world_table.specs.Kept.{Kept}
use Rattle.world_table.specs.Stands.{Stands as StandsWorld}
use Rattle.payload_writing.specs.Values.{pairs_fit}
use Rattle.shadow_changes.specs.Samples.{Samples, Shadows}
use Rattle.sender_steps.specs.Sender.{Sender}
use Rattle.sender_steps.specs.Stands.{Keeps}
use Rattle.sender_steps.specs.declared.sight.Seen.{Seen}
use Rattle.driver_laws.specs.Counted.{cells}
use Rattle.driver_sights.specs.Noted.{NotedKept, Notes}

-- the world stands for the edits, the end's sender for what the end did, and the change lists for
-- what was sampled
pub record IsLooking (w : Kept) (s : Sender) (n : NotedKept) (changes : Shadows) (edits : Edits)
    (past : Past) (kept samples : Samples) : Type 0 where
  pub world : StandsWorld w edits
  pub sender : Keeps s past kept
  pub notes : Notes n changes (table_in w.layout) edits samples

-- relevant to the player, and not quiet at the end
abbrev pub is_awake : Table → Edits → (player : ℕ) → Past → (actor : ℕ) → Bool
is_awake table edits player past a =
    is_relevant table edits player a && not (is_quiet past (seen_of table edits player a))

-- an entry names a class of the table, whose kinds its values have
pub record IsMade (layout : Layout) (s : Seen) : Type 0 where
  pub class : s.class < length layout.classes
  pub fit : IsTrue (pairs_fit (class_at (table_in layout) s.class) s.values)

-- as many steps were taken, beside those for the values of actors that were sampled since
abbrev pub AreSteps : Table → Edits → (steps count : ℕ) (before after : ℕ → Bool) → (later : ℕ)
    → Type 0
AreSteps table edits steps count before after later =
    later + cells table edits before ≤ steps + count + cells table edits after

-- these are among those
abbrev pub AreAmong : (some all : ℕ → Bool) → Type 0
AreAmong some all = (a : ℕ) → some a ≡ true → all a ≡ true

-- each is relevant to the player
abbrev pub AreRelevant : Table → Edits → (player : ℕ) → List ℕ → Type 0
AreRelevant table edits player actors =
    AllByRecursion (λ a. is_relevant table edits player a ≡ true) actors
