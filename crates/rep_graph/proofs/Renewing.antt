-- How the nodes whose spots have no player go along with an actor's new spots.
use Rattle.std.proofs.Common.{rules, ◌≡◌, ◌∙◌, ℕ, Bool, true, false, not, ◌&&◌, ◌==◌, Option, Some, None, refl, sym, ap, subst}
use Rattle.std.specs.Prelude.{is_some, IfSome}
use Rattle.std.specs.Bool.{then_some}
use Rattle.protocol_model.specs.declared.Reach.{Reach}
use Rattle.protocol_model.specs.declared.Reach.TheVariants.{Always, Near, Owner}
use Rattle.graph_model.specs.Nodes.{Node, GridNode, AlwaysNode, DormantNode, TeamNode, Spot, is_near}
use Rattle.protocol_model.specs.Value.{Table, is_always, is_owner_only}
use Rattle.protocol_model.specs.World.{Edits, given_of}
use Rattle.graph_nodes.specs.declared.any.AnyNode.{AnyNode}
use Rattle.graph_nodes.specs.Held.{Spots, takes, is_bounded}
use Rattle.graph_nodes.specs.Any as any
use Rattle.world_table.specs.Stands.{history_of}
use Rattle.rep_graph.specs.declared.standing.Standing.{Standing}
use Rattle.rep_graph.specs.declared.standing.Row.{Row}
use Rattle.rep_graph.specs.declared.standing.Row.TheVariants as named
use Rattle.rep_graph.specs.Spots.{world_spots}
use Rattle.rep_graph.specs.Standings.{standing_by, spot_by, row_of, belongs_by}
use Rattle.rep_graph.specs.Graph.{Holds}
use Rattle.rep_graph.specs.Turns.{Differs, IsFor, with_pair_spot}
use Rattle.rep_graph.proofs.Told.{is_single, world_put, is_some_at}

if_then : (t : Bool) (s : Spot) (P : Spot → Type 0) → (t ≡ true → P s) → IfSome (then_some t s) P
if_then true s P h = h refl
if_then false s P h = search rules

-- ---- a spot that a row names is one that it takes

grid_takes : (r : Reach) (d : Bool) → is_bounded r ≡ true → (is_near r && not d) ≡ true
    → (is_near r && is_bounded r && true) ≡ true
grid_takes (Near cull) d b h = rw b refl
grid_takes Always d b h = absurd (cc)
grid_takes Owner d b h = absurd (cc)

always_takes : (r : Reach) (d : Bool) → (is_always r && not d) ≡ true → (is_always r && true) ≡ true
always_takes (Near cull) d h = absurd (cc)
always_takes Always d h = refl
always_takes Owner d h = absurd (cc)

shared_takes : (r : Reach) (d : Bool) → is_bounded r ≡ true → (not (is_owner_only r) && d) ≡ true
    → (not (is_owner_only r) && is_bounded r && true) ≡ true
shared_takes (Near cull) d b h = rw b refl
shared_takes Always d b h = refl
shared_takes Owner d b h = absurd (cc)

abbrev Fits : Node → (actor : ℕ) → Spot → Type 0
Fits row a s = (takes row s ≡ true) × (s.actor ≡ a) × (s.player ≡ 0)

abbrev at : (actor : ℕ) → Standing → (team : ℕ) → Spot
at a s team = record { actor = a; x = s.x; y = s.y; reach = s.reach; player = 0; team = team }

pub spot_for : (row : Row) (a : ℕ) (o : Option Standing) (team : ℕ) → IfSome o (λ s. is_bounded s.reach ≡ true)
    → IsFor (row_of row) a 0 (spot_by (row_of row) a o team)
spot_for row a None team b = search rules
spot_for named.Grid a (Some s) team b =
    if_then (belongs_by GridNode s team) (at a s team) (Fits GridNode a)
    (λ h. let k : Fits GridNode a (at a s team) = (grid_takes s.reach s.dormant b h, refl, refl) in k)
spot_for named.Always a (Some s) team b =
    if_then (belongs_by AlwaysNode s team) (at a s team) (Fits AlwaysNode a)
    (λ h. let k : Fits AlwaysNode a (at a s team) = (always_takes s.reach s.dormant h, refl, refl) in k)
spot_for named.Dormant a (Some s) team b =
    if_then (belongs_by DormantNode s team) (at a s team) (Fits DormantNode a)
    (λ h. let k : Fits DormantNode a (at a s team) = (shared_takes s.reach s.dormant b h, refl, refl) in k)
spot_for named.Team a (Some s) team b =
    if_then (belongs_by TeamNode s team) (at a s team) (Fits TeamNode a)
    (λ h. let k : Fits TeamNode a (at a s team) = (shared_takes s.reach (not (team == 0)) b h, refl, refl) in k)

-- ---- whether there was a spot

some_if : (t u : Bool) (r s : Spot) → t ≡ u → is_some (then_some t r) ≡ is_some (then_some u s)
some_if true true r s h = refl
some_if true false r s h = absurd (cc)
some_if false true r s h = absurd (cc)
some_if false false r s h = refl

-- it doesn't hang on the team, but for the teams' node
any_team : (row : Node) (a : ℕ) (o : Option Standing) (t u : ℕ)
    → ((s : Standing) → belongs_by row s t ≡ belongs_by row s u)
    → is_some (spot_by row a o t) ≡ is_some (spot_by row a o u)
any_team row a None t u same = refl
any_team row a (Some s) t u same = some_if (belongs_by row s t) (belongs_by row s u) _ _ (same s)

put_is : (row : Node) (table : Table) (edits later : Edits) (actor : ℕ) (before after : Option Standing) (team : ℕ)
    → is_single row ≡ true → Differs table edits later actor before after team
    → with_pair_spot (world_spots row table edits) actor 0 (spot_by row actor after team) ≡ world_spots row table later
put_is row table edits later actor before after team single d =
    ap (λ (o : Option Standing). with_pair_spot (world_spots row table edits) actor 0
    (spot_by row actor o team)) d.after_is
    ∙ ap (λ (t : ℕ). with_pair_spot (world_spots row table edits) actor 0
    (spot_by row actor (standing_by table (history_of later actor)) t)) d.team_is
    ∙ world_put row table edits later actor single d.others

pub renewed : (row : Node) (old new : AnyNode) (table : Table) (edits later : Edits) (actor : ℕ)
    (before after : Option Standing) (team : ℕ) → is_single row ≡ true
    → ((s : Standing) (t u : ℕ) → belongs_by row s t ≡ belongs_by row s u)
    → Differs table edits later actor before after team → Holds row old table edits
    → any.row_of new ≡ any.row_of old
    → ((spots : Spots) → any.Stands old spots → any.row_of old ≡ row
    → is_some (spots actor 0) ≡ is_some (spot_by row actor before team)
    → IfSome after (λ s. is_bounded s.reach ≡ true)
    → any.Stands new (with_pair_spot spots actor 0 (spot_by row actor after team)))
    → Holds row new table later
renewed row old new table edits later actor before after team single same d holds row_is step =
    let was : is_some (world_spots row table edits actor 0) ≡ is_some (spot_by row actor before team) =
    ap (λ (o : Option Spot). is_some o) (is_some_at row table edits actor single)
    ∙ any_team row actor (standing_by table (history_of edits actor)) (given_of edits actor) team
    (λ s. same s (given_of edits actor) team)
    ∙ ap (λ (o : Option Standing). is_some (spot_by row actor o team)) (sym d.before_is) in
    record {
      row_is = row_is ∙ holds.row_is;
      spots = subst (λ (f : Spots). any.Stands new f) (put_is row table edits later actor before after team single d)
          (step (world_spots row table edits) holds.spots holds.row_is was d.bounded);
    }

-- the teams' node
pub teams_renewed : (old new : AnyNode) (table : Table) (edits later : Edits) (actor : ℕ)
    (before after : Option Standing) (team : ℕ) → Differs table edits later actor before after team
    → Holds TeamNode old table edits → any.row_of new ≡ any.row_of old
    → any.Stands new (with_pair_spot (world_spots TeamNode table edits) actor 0 (spot_by TeamNode actor after team))
    → Holds TeamNode new table later
teams_renewed old new table edits later actor before after team d holds row_is stands = record {
  row_is = row_is ∙ holds.row_is;
  spots = subst (λ (f : Spots). any.Stands new f)
      (put_is TeamNode table edits later actor before after team refl d) stands;
}
