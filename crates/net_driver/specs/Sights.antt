-- The sights of a tick, each for its seat.
use Rattle.std.specs.Prelude.{◌≡◌, ℕ, ◌*◌, ◌++◌, List, [], ◌∷◌, map, sum_by, Bool, true, false, not, ◌&&◌, ◌||◌, Option, Some, ⊤}
use Rattle.std.specs.List.{AllByRecursion, list_any}
use Rattle.protocol_model.specs.Search.{newest_of}
use Rattle.protocol_model.specs.Value.{Table}
use Rattle.protocol_model.specs.World.{Edits}
use Rattle.change_model.specs.Changes.{Sample}
use Rattle.connection_model.specs.Feed.{has_ended}
use Rattle.connection_model.specs.State.{state_of, is_closed}
use Rattle.replication_model.specs.Sampled.{is_awake_for}
use Rattle.class_layout.specs.Tables.{Layout, table_in}
use Rattle.world_table.specs.Kept.{Kept}
use Rattle.world_table.specs.Stands.{Stands as StandsWorld}
use Rattle.rep_graph.specs.Graph.{Graph, Stands as StandsGraph}
use Rattle.shadow_changes.specs.Samples.{Samples, Shadows, samples_of}
use Rattle.sender_steps.specs.Sights.{sight_value}
use Rattle.sender_steps.specs.declared.sight.Seen.{Seen}
use Rattle.driver_laws.specs.Given.{given_sight}
use Rattle.driver_sights.specs.Graves.{AreGraves, is_left}
use Rattle.driver_sights.specs.Looking.{IsMade, AreSteps, AreAmong, is_awake}
use Rattle.driver_sights.specs.Noted.{NotedKept, Notes, is_noted, sample_now}
use Rattle.driver_sights.specs.declared.graves.Grave.{Grave}
use Rattle.net_driver.specs.declared.chair.Chair.{Chair}
use Rattle.server_end.specs.declared.server_end.ServerEnd.{ServerEnd}
use Rattle.net_driver.specs.Chairs.{place_in}
use Rattle.net_driver.specs.Served.{Seat, Served, seat_of, past_for, connection_of, listed_for}
use Rattle.net_driver.specs.Serves.{Drive, AreSeated}

-- ---- what is left to close

-- something of the actor is left to close at the seat's end, which is alive
abbrev pub is_open_for : Table → (actor : ℕ) → Seat → Bool
is_open_for table a s =
    not (has_ended (past_for table s)) && not (is_closed (state_of (past_for table s) a))

-- at one of them
abbrev pub is_left_for : Table → List Seat → (actor : ℕ) → Bool
is_left_for table seats a = list_any (is_open_for table a) seats

-- the answer tells it, of the seats for which the ends stand
abbrev pub TellsLeft : List (Option ServerEnd) → List Chair → (actor : ℕ) → (answer : Bool) → Type 0
TellsLeft ends chairs a answer = (table : Table) (edits : Edits) (samples : Samples) (greatest : ℕ)
    (seats : List Seat) → AreSeated table edits samples greatest ends chairs seats
    → answer ≡ is_left_for table seats a

-- ---- a sight

-- what an end is handed of a world: the sight that may be given for what its player is shown, whose
-- entries can be written
pub record IsMadeFor (layout : Layout) (edits : Edits) (graves : List Grave) (sight : List Seen)
    (s : Seat) : Type 0 where
  pub given : sight_value layout sight
      ≡ given_sight (table_in layout) edits s.number (past_for (table_in layout) s)
      (is_left graves (past_for (table_in layout) s))
  pub made : AllByRecursion (IsMade layout) sight

-- a sight for each seat, in its place, where its end is alive
abbrev pub AreMade : Layout → Edits → List Grave → List (List Seen) → List Seat → Type 0
AreMade layout edits graves [] [] = ⊤
AreMade layout edits graves [] (s ∷ seats) = ⊥
AreMade layout edits graves (x ∷ sights) [] = ⊥
AreMade layout edits graves (x ∷ sights) (s ∷ seats) =
    (has_ended (past_for (table_in layout) s) ≡ false → IsMadeFor layout edits graves x s)
    × AreMade layout edits graves sights seats

-- the newest sample of each actor that is awake at an end is of now
abbrev pub AreSampledNow : Table → Edits → Samples → Seat → Type 0
AreSampledNow table edits samples s =
    (a : ℕ) → is_awake table edits s.number (past_for table s) a ≡ true
    → (tick : ℕ) × (newest_of (λ (s : Sample). Some s) (samples_of samples a)
    ≡ Some (sample_now table edits tick a))

-- the sight of a player whose end is alive
pub record IsSightFor (layout : Layout) (edits : Edits) (graves : List Grave) (samples : Samples)
    (sight : List Seen) (s : Seat) : Type 0 where
  pub sampled : AreSampledNow (table_in layout) edits samples s
  pub made : IsMadeFor layout edits graves sight s

-- the sight in the place of each seat whose end is alive
abbrev pub AreSightsFor : Layout → Edits → List Grave → Samples → List (List Seen) → List Seat
    → Type 0
AreSightsFor layout edits graves samples [] [] = ⊤
AreSightsFor layout edits graves samples [] (s ∷ seats) = ⊥
AreSightsFor layout edits graves samples (x ∷ sights) [] = ⊥
AreSightsFor layout edits graves samples (x ∷ sights) (s ∷ seats) =
    (has_ended (past_for (table_in layout) s) ≡ false → IsSightFor layout edits graves samples x s)
    × AreSightsFor layout edits graves samples sights seats

-- ---- a look for seats in a row

-- the world and the graph stand for the edits, the graves are of its destroyed actors, and the change
-- lists stand for what was sampled
pub record IsLookingAll (w : Kept) (graph : Graph) (graves : List Grave) (n : NotedKept)
    (changes : Shadows) (edits : Edits) (samples : Samples) : Type 0 where
  pub world : StandsWorld w edits
  pub nodes : StandsGraph graph (table_in w.layout) edits
  pub buried : AreGraves w.layout edits graves
  pub notes : Notes n changes (table_in w.layout) edits samples

-- the actor is awake for one of them
abbrev pub is_awake_in : Table → Edits → List Seat → (actor : ℕ) → Bool
is_awake_in table edits seats a = list_any (is_awake_for table edits a) (map (connection_of table) seats)

-- those that were noted before, and those that are awake for these seats
abbrev pub AreNoted : Table → Edits → (before after : NotedKept) → List Seat → Type 0
AreNoted table edits before after seats =
    (a : ℕ) → is_noted after a ≡ (is_awake_in table edits seats a || is_noted before a)

-- twice as many as the nodes list for these seats
abbrev pub looks_for : Table → Edits → List Seat → ℕ
looks_for table edits seats = 2 * sum_by (listed_for table edits) seats

-- however a look for these seats ends, it takes no more steps than these
abbrev pub AreFewSteps : Table → Edits → (before : NotedKept) → (steps later : ℕ) → List Seat → Type 0
AreFewSteps table edits before steps later seats =
    (most : ℕ → Bool) → AreAmong (is_noted before) most
    → AreAmong (is_awake_in table edits seats) most
    → AreSteps table edits steps (looks_for table edits seats) (is_noted before) most later

-- a look for these seats: what is noted after it, the steps that it took, and the sights that it
-- appended
pub record HasLooked (layout : Layout) (edits : Edits) (graves : List Grave) (samples : Samples)
    (before after : NotedKept) (changes : Shadows) (begun later : ℕ) (old new : List (List Seen))
    (seats : List Seat) : Type 0 where
  pub notes : Notes after changes (table_in layout) edits samples
  pub noted : AreNoted (table_in layout) edits before after seats
  pub steps : AreSteps (table_in layout) edits begun (looks_for (table_in layout) edits seats)
      (is_noted before) (is_noted after) later
  pub sights : List (List Seen)
  pub added : new ≡ old ++ sights
  pub made : AreMade layout edits graves sights seats

-- ---- sending

-- the chair is that of the seat, whose sight this is where its end is alive
pub record IsSending (d : Drive) (s : Served) (c : Chair) (sight : List Seen) (seat : Seat)
    : Type 0 where
  pub seat_at : seat_of s c.player ≡ Some seat
  pub place : place_in d.chairs c.player ≡ Some c.place
  pub shows : has_ended (past_for (table_in d.layout) seat) ≡ false
      → IsSightFor d.layout s.edits d.graves s.samples sight seat
