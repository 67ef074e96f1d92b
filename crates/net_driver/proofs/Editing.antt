-- An edit of the world leaves each connection as it was.
use Rattle.std.proofs.Common.{◌≡◌, ℕ, ◌+◌, List, ◌∷◌, Option, sym, ◌∙◌, subst}
use Rattle.protocol_model.specs.Value.{Table}
use Rattle.protocol_model.specs.World.{Edit, Edits, lives}
use Rattle.connection_model.specs.Feed.{Past}
use Rattle.class_layout.specs.Tables.{table_in}
use Rattle.world_table.specs.Kept.{Kept}
use Rattle.world_table.specs.Stands.{Stands as StandsWorld}
use Rattle.rep_graph.specs.Graph.{Stands as StandsGraph}
use Rattle.shadow_changes.specs.Samples.{Samples}
use Rattle.server_end.specs.declared.server_end.ServerEnd.{ServerEnd}
use Rattle.net_driver.specs.declared.chair.Chair.{Chair}
use Rattle.net_driver.specs.declared.chair.Place.{Place}
use Rattle.net_driver.specs.declared.chair.Place.TheVariants.{Living, Dead}
use Rattle.net_driver.specs.Served.{Seat, Served, past_for}
use Rattle.net_driver.specs.Ends.{AreOfWorld, IsLiving, IsPlace}
use Rattle.net_driver.specs.Burying.{Buries}
use Rattle.net_driver.specs.Serves.{Drive, Serves, IsSeated, AreThere}
use Rattle.net_driver.proofs.Fitting.{before_edit, fits_edit}
use Rattle.net_driver.proofs.Seats.{still}
use Rattle.net_driver.proofs.Spawns.{spawn_stays, class_stays}

of_world : (table : Table) (edit : Edit) (edits : Edits) (past : Past) → AreOfWorld table edits past
    → AreOfWorld table (edit ∷ edits) past
of_world table edit edits past h a class e =
    let there = h a class e in (
      λ none. there.0 (sym (spawn_stays edit edits a there.0) ∙ none),
      there.1
          ∙ sym (class_stays table edit edits a there.0),
    )

living : (table : Table) (edit : Edit) (edits : Edits) (samples : Samples) (greatest : ℕ) (e : ServerEnd) (s : Seat)
    → IsLiving table edits samples greatest e s → IsLiving table (edit ∷ edits) samples greatest e s
living table edit edits samples greatest e s h = record {
  player = h.player;
  alive = h.alive;
  before = h.before;
  extends = h.extends;
  stands = h.stands;
  classes = of_world table edit edits (past_for table s) h.classes;
  count = h.count;
}

seated : (table : Table) (edit : Edit) (edits : Edits) (samples : Samples) (greatest : ℕ)
    (ends : List (Option ServerEnd)) (c : Chair) (s : Seat)
    → IsSeated table edits samples greatest ends c s → IsSeated table (edit ∷ edits) samples greatest ends c s
seated table edit edits samples greatest ends c s h = record { player = h.player; place = go c.place h.place }
  where
    go : (p : Place) → IsPlace table edits samples greatest ends s p
        → IsPlace table (edit ∷ edits) samples greatest ends s p
    go (Living key) (e, at, lives) = (e, at, living table edit edits samples greatest e s lives)
    go (Dead top) h = h

-- a driver whose world took an edit, and whose graph and graves followed it
pub edited : (d new : Drive) (s : Served) (edit : Edit) (world : Kept) → Serves d s
    → StandsWorld world (edit ∷ s.edits) → world.layout ≡ d.layout
    → AreThere (table_in d.layout) (edit ∷ s.edits)
    → StandsGraph new.graph (table_in d.layout) (edit ∷ s.edits)
    → Buries d.layout edit s.edits d.graves new.graves
    → new ≡ record d { world = world; graph = new.graph; graves = new.graves }
    → Serves new (record s { edits = edit ∷ s.edits })
edited d new s edit world h stands layout there graph b rest =
    subst (λ (x : Drive). Serves x (record s { edits = edit ∷ s.edits })) (sym rest) (record {
      world = stands;
      layout = layout;
      graph = graph;
      changes = h.changes;
      from_one = h.from_one;
      there = there;
      ticks = h.ticks;
      sampled = λ a. before_edit (table_in d.layout) edit s.edits (s.ticks + 1) a _ (h.sampled a);
      graves = b.graves;
      seated = still (table_in d.layout) s.edits (edit ∷ s.edits) s.samples s.samples d.greatest d.greatest d.ends
          d.ends (seated (table_in d.layout) edit s.edits s.samples d.greatest d.ends) d.chairs s.seats h.seated;
      fits = fits_edit (table_in d.layout) edit s.edits d.graves new.graves b.dead b.more s.seats h.fits;
      rising = h.rising;
      few = h.few;
      kept = h.kept;
    })
