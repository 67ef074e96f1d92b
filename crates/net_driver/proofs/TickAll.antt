-- A whole tick, of its steps.
use Rattle.std.proofs.Common.{◌≡◌, ℕ, ◌+◌, ◌*◌, ◌≤◌, List, map, sym, ap, ◌∙◌, subst}
use Rattle.replication_model.specs.Sampled.{cell_count}
use Rattle.class_layout.specs.Tables.{Layout, table_in}
use Rattle.sender_steps.specs.declared.sight.Seen.{Seen}
use Rattle.driver_sights.specs.declared.graves.Grave.{Grave}
use Rattle.net_driver.specs.Served.{Served, TickOf, connection_of, listed_sum, with_samples, with_all_ticked, after_ticks, tick_of}
use Rattle.net_driver.specs.Serves.{Drive, Serves}
use Rattle.net_driver.specs.Sights.{AreSightsFor}

-- the sights are those of the driver that looked
pub sights_stay : (layout later : Layout) (s : Served) (graves left : List Grave) (sights shown : List (List Seen))
    → later ≡ layout → left ≡ graves → shown ≡ sights
    → AreSightsFor layout s.edits graves (with_samples (table_in layout) s).samples sights s.seats
    → AreSightsFor later s.edits left (with_samples (table_in layout) s).samples shown s.seats
sights_stay layout later s graves left sights shown l g x h =
    subst (λ (k : Layout). AreSightsFor k s.edits left (with_samples (table_in layout) s).samples shown s.seats) (sym l)
    (subst (λ (gs : List Grave). AreSightsFor layout s.edits gs (with_samples (table_in layout) s).samples shown s.seats)
    (sym g)
    (subst (λ (y : List (List Seen)). AreSightsFor layout s.edits graves (with_samples (table_in layout) s).samples y
    s.seats) (sym x) h))

pub all_serve : (first layout later : Layout) (new : Drive) (s : Served) → layout ≡ first → later ≡ layout
    → Serves new (with_all_ticked (table_in later) (with_samples (table_in layout) s))
    → Serves new (after_ticks (table_in first) s)
all_serve first layout later new s a b h =
    subst (λ (k : Layout). Serves new (with_all_ticked (table_in k) (with_samples (table_in k) s))) a
    (subst (λ (k : Layout). Serves new (with_all_ticked (table_in k) (with_samples (table_in layout) s))) b h)

pub all_sent : (first layout later : Layout) (s : Served) (ticks : List TickOf) → layout ≡ first → later ≡ layout
    → ticks ≡ map (tick_of (table_in later) s.edits) s.seats → ticks ≡ map (tick_of (table_in first) s.edits) s.seats
all_sent first layout later s ticks a b h =
    h ∙ ap (λ (k : Layout). map (tick_of (table_in k) s.edits) s.seats) (b ∙ a)

pub all_steps : (first layout : Layout) (s : Served) (begun later : ℕ) → layout ≡ first
    → later ≤ begun + 2 * listed_sum (table_in layout) s
    + cell_count (table_in layout) s.edits (map (connection_of (table_in layout)) s.seats)
    → later ≤ begun + 2 * listed_sum (table_in first) s
    + cell_count (table_in first) s.edits (map (connection_of (table_in first)) s.seats)
all_steps first layout s begun later a h =
    subst (λ (k : Layout). later ≤ begun + 2 * listed_sum (table_in k) s
    + cell_count (table_in k) s.edits (map (connection_of (table_in k)) s.seats)) a h
