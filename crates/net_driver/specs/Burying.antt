-- Who is destroyed by an edit.
use Rattle.std.specs.Prelude.{◌≡◌, ◌⊎◌, ℕ, List, ◌∷◌, true, false, Option, Some, None}
use Rattle.protocol_model.specs.World.{Edit, Edits, Spawn, Destroy, Set, Own, View, Add, Dormant, Wake, Flush, Switch, Team, Give, lives}
use Rattle.class_layout.specs.Tables.{Layout, table_in}
use Rattle.world_table.specs.declared.edit.Edit.{Edit as Given}
use Rattle.world_table.specs.declared.edit.Look.{Look}
use Rattle.rep_graph.specs.Graph.{Stands as StandsGraph, IsTurn}
use Rattle.driver_sights.specs.declared.graves.Grave.{Grave}
use Rattle.driver_sights.specs.Graves.{AreGraves, is_buried}
use Rattle.net_driver.specs.Serves.{Drive}

-- the actor that an edit destroys
abbrev pub destroyed_by : Edit → Option ℕ
destroyed_by (Destroy a) = Some a
destroyed_by (Spawn class x y) = None
destroyed_by (Set a k v) = None
destroyed_by (Own a p) = None
destroyed_by (View p x y) = None
destroyed_by (Add a p on) = None
destroyed_by (Dormant a) = None
destroyed_by (Wake a) = None
destroyed_by (Flush a) = None
destroyed_by (Switch a k on) = None
destroyed_by (Team p t) = None
destroyed_by (Give a t) = None

-- the graves after an edit: those before, and one of the actor that it destroys
pub record Buries (layout : Layout) (edit : Edit) (edits : Edits) (old new : List Grave) : Type 0 where
  pub graves : AreGraves layout (edit ∷ edits) new
  pub dead : (a : ℕ) → lives (edit ∷ edits) a ≡ false
      → (lives edits a ≡ false) ⊎ (is_buried new a ≡ true)
  pub more : (a : ℕ) → is_buried old a ≡ true → is_buried new a ≡ true

-- the world took an edit; the graph and the graves stand for the edits before it
pub record IsTaken (d : Drive) (e : Given) (before : Option Look) (edits : Edits) : Type 0 where
  pub turn : IsTurn d.graph.nodes d.world e before edits
  pub layout : d.world.layout ≡ d.layout
  pub buried : AreGraves d.layout edits d.graves

-- they follow it
pub record Follows (d new : Drive) (edit : Edit) (edits : Edits) : Type 0 where
  pub graph : StandsGraph new.graph (table_in d.layout) (edit ∷ edits)
  pub buries : Buries d.layout edit edits d.graves new.graves
