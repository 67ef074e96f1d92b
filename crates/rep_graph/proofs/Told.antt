-- The spots of a world by what edits tell of one actor.
use Rattle.std.proofs.Common.{◌≡◌, ◌≢◌, ◌∙◌, ℕ, Bool, true, false, not, nat_le, ◌&&◌, ◌||◌, ◌==◌, Option, None, refl, sym, ap, if◌then◌else◌}
use Rattle.std.specs.Prelude.{is_some}
use Rattle.std.specs.Bool.{then_some}
use Rattle.std.proofs.Math.Bool.{and-false}
use Rattle.std.proofs.Math.Path.{fun_ext}
use Rattle.protocol_model.specs.declared.Reach.{Reach}
use Rattle.graph_model.specs.Nodes.{Node, GridNode, AlwaysNode, PlayerNode, DormantNode, TeamNode, Spot, is_held_in, spot_of, is_near}
use Rattle.protocol_model.specs.Value.{Table, is_always, is_owner_only}
use Rattle.protocol_model.specs.World.{Edits, class_in, is_added, given_of}
use Rattle.world_table.specs.Stands.{History, history_of, told_value}
use Rattle.world_table.proofs.Numbers.{same_number, other_number}
use Rattle.rep_graph.specs.Spots.{world_spots}
use Rattle.rep_graph.specs.Standings.{standing_by, spot_by}
use Rattle.rep_graph.specs.Turns.{with_pair_spot}

-- the actor lives
abbrev pub alive : History → Bool
alive told = is_some told.spawn && not told.destroyed

-- the row's rule for a living actor and a player, 0 for none
abbrev pub belongs_told : Node → Reach → History → (added : Bool) → (player : ℕ) → Bool
belongs_told GridNode reach told added p = p == 0 && is_near reach && not told.dormant
belongs_told AlwaysNode reach told added p = p == 0 && is_always reach && not told.dormant
belongs_told PlayerNode reach told added p =
    (told.owner == p && not (p == 0)) || (not (is_owner_only reach) && nat_le 1 p && added)
belongs_told DormantNode reach told added p = p == 0 && not (is_owner_only reach) && told.dormant
belongs_told TeamNode reach told added p = p == 0 && not (is_owner_only reach) && not (told.given == 0)

abbrev pub held_told : Node → Table → History → (added : Bool) → (player : ℕ) → Bool
held_told row table told added p = alive told && belongs_told row (class_in table told.spawn).reach told added p

abbrev pub spot_told : Table → History → (actor player : ℕ) → Spot
spot_told table told a p = record {
  actor = a;
  x = told_value table told 1;
  y = told_value table told 2;
  reach = (class_in table told.spawn).reach;
  player = p;
  team = told.given;
}

abbrev pub world_told : Node → Table → History → (added : Bool) → (actor player : ℕ) → Option Spot
world_told row table told added a p = then_some (held_told row table told added p) (spot_told table told a p)

pub held_is : (row : Node) (table : Table) (edits : Edits) (a p : ℕ)
    → is_held_in row table edits a p ≡ held_told row table (history_of edits a) (is_added edits a p) p
held_is GridNode table edits a p = refl
held_is AlwaysNode table edits a p = refl
held_is PlayerNode table edits a p = refl
held_is DormantNode table edits a p = refl
held_is TeamNode table edits a p = refl

pub world_is : (row : Node) (table : Table) (edits : Edits) (a p : ℕ)
    → world_spots row table edits a p ≡ world_told row table (history_of edits a) (is_added edits a p) a p
world_is row table edits a p = ap (λ (b : Bool). then_some b (spot_of table edits a p)) (held_is row table edits a p)

-- ---- rows whose spots have no player

abbrev pub is_single : Node → Bool
is_single GridNode = true
is_single AlwaysNode = true
is_single PlayerNode = false
is_single DormantNode = true
is_single TeamNode = true

single_added : (row : Node) (table : Table) (told : History) (x y : Bool) (a p : ℕ) → is_single row ≡ true
    → world_told row table told x a p ≡ world_told row table told y a p
single_added GridNode table told x y a p h = refl
single_added AlwaysNode table told x y a p h = refl
single_added PlayerNode table told x y a p h = absurd (cc)
single_added DormantNode table told x y a p h = refl
single_added TeamNode table told x y a p h = refl

single_none : (row : Node) (table : Table) (told : History) (added : Bool) (a p : ℕ) → is_single row ≡ true
    → (p == 0) ≡ false → world_told row table told added a p ≡ None
single_none GridNode table told added a p h n = rw (n, and-false (alive told)) refl
single_none AlwaysNode table told added a p h n = rw (n, and-false (alive told)) refl
single_none PlayerNode table told added a p h n = absurd (cc)
single_none DormantNode table told added a p h n = rw (n, and-false (alive told)) refl
single_none TeamNode table told added a p h n = rw (n, and-false (alive told)) refl

single_spot : (row : Node) (table : Table) (told : History) (added : Bool) (a : ℕ) → is_single row ≡ true
    → world_told row table told added a 0 ≡ spot_by row a (standing_by table told) told.given
single_spot row table told added a h = by_life row (alive told) h
  where
    by_life : (row : Node) (b : Bool) → is_single row ≡ true
        → then_some (b && belongs_told row (class_in table told.spawn).reach told added 0) (spot_told table told a 0)
        ≡ spot_by row a (then_some b (record {
          x = told_value table told 1;
          y = told_value table told 2;
          reach = (class_in table told.spawn).reach;
          dormant = told.dormant;
        })) told.given
    by_life GridNode true h = refl
    by_life GridNode false h = refl
    by_life AlwaysNode true h = refl
    by_life AlwaysNode false h = refl
    by_life PlayerNode b h = absurd (cc)
    by_life DormantNode true h = refl
    by_life DormantNode false h = refl
    by_life TeamNode true h = refl
    by_life TeamNode false h = refl

-- a world's spots of a row where other things are told of one actor
put_at : (row : Node) (table : Table) (edits later : Edits) (actor a p : ℕ) (t u : Bool) → is_single row ≡ true
    → ((b : ℕ) → b ≢ actor → history_of later b ≡ history_of edits b) → (a == actor) ≡ t → (p == 0) ≡ u
    → (if t && u then spot_by row actor (standing_by table (history_of later actor)) (given_of later actor) else
    world_spots row table edits a p)
    ≡ world_spots row table later a p
put_at row table edits later actor a p true true single others e f =
    let ea = same_number a actor e in
    let ep = same_number p 0 f in
    rw (ea, ep) (sym (single_spot row table (history_of later actor) (is_added later actor 0) actor single)
    ∙ sym (world_is row table later actor 0))
put_at row table edits later actor a p true false single others e f =
    world_is row table edits a p ∙ single_none row table (history_of edits a) (is_added edits a p) a p single f
    ∙ sym (single_none row table (history_of later a) (is_added later a p) a p single f)
    ∙ sym (world_is row table later a p)
put_at row table edits later actor a p false u single others e f =
    world_is row table edits a p
    ∙ ap (λ (told : History). world_told row table told (is_added edits a p) a p)
    (sym (others a (other_number a actor e)))
    ∙ single_added row table (history_of later a) (is_added edits a p) (is_added later a p) a p single
    ∙ sym (world_is row table later a p)

pub world_put : (row : Node) (table : Table) (edits later : Edits) (actor : ℕ) → is_single row ≡ true
    → ((b : ℕ) → b ≢ actor → history_of later b ≡ history_of edits b)
    → with_pair_spot (world_spots row table edits) actor 0
    (spot_by row actor (standing_by table (history_of later actor)) (given_of later actor))
    ≡ world_spots row table later
world_put row table edits later actor single others =
    fun_ext (λ (a : ℕ). fun_ext (λ (p : ℕ).
    put_at row table edits later actor a p (a == actor) (p == 0) single others refl refl))

-- whether there is a spot before doesn't hang on the team, but for the teams' node
pub is_some_at : (row : Node) (table : Table) (edits : Edits) (actor : ℕ) → is_single row ≡ true
    → world_spots row table edits actor 0
    ≡ spot_by row actor (standing_by table (history_of edits actor)) (given_of edits actor)
is_some_at row table edits actor single =
    world_is row table edits actor 0
    ∙ single_spot row table (history_of edits actor) (is_added edits actor 0) actor single
