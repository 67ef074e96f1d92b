-- Which actors the nodes of a world list for a player.
use Rattle.std.proofs.Common.{◌≡◌, ◌∙◌, ℕ, zero, suc, ◌+◌, ◌<◌, List, [], ◌++◌, Bool, true, false, not, nat_le, ◌&&◌, ◌||◌, ◌==◌, Some, refl, sym, ap, subst, arith}
use Rattle.std.specs.Bool.{then_some}
use Rattle.std.proofs.lemmas.Bool.Decides.{nat_tests}
use Rattle.std.proofs.lemmas.Option.{same_Some}
use Rattle.protocol_model.specs.declared.Reach.{Reach}
use Rattle.protocol_model.specs.declared.Reach.TheVariants.{Always, Near, Owner}
use Rattle.protocol_laws.proofs.Booleans.{left_of, right_of, both}
use Rattle.graph_model.specs.Nodes.{Node, GridNode, AlwaysNode, PlayerNode, DormantNode, TeamNode, Spot, Viewer, admits, admits_by_reach, belongs, is_held_in, is_near, spot_of, viewer_at}
use Rattle.protocol_model.specs.Value.{Table, is_always, is_owner_only}
use Rattle.protocol_model.specs.World.{Edits, class_of, lives, owns, is_added, is_dormant, given_of, team_of}
use Rattle.protocol_model.specs.Sight.{are_teamed}
use Rattle.graph_model.specs.Listed.{is_listed, listed_as, touches_viewer}
use Rattle.graph_nodes.specs.declared.any.AnyNode.{AnyNode}
use Rattle.graph_nodes.specs.Held.{Spots}
use Rattle.graph_nodes.specs.Any as any
use Rattle.graph_nodes.specs.Gathers.{Gathers}
use Rattle.actor_lists.specs.Shared.{count_of}
use Rattle.actor_lists.proofs.Counts.{count_of-append}
use Rattle.world_table.proofs.Numbers.{same, same_number}
use Rattle.rep_graph.specs.Spots.{world_spots}
use Rattle.rep_graph.specs.Graph.{Holds, IsLawful}

-- some node's rule gives the actor to the viewer
abbrev pub IsListed : Table → Edits → Viewer → (actor : ℕ) → Type 0
IsListed table edits viewer a = (row : Node) × (p : ℕ) × (s : Spot) × (world_spots row table edits a p ≡ Some s)
    × (admits row s viewer ≡ true)

-- ---- a spot of a world is its own

spot_there : (b : Bool) (s t : Spot) → then_some b s ≡ Some t → (b ≡ true) × (s ≡ t)
spot_there true s t h = (refl, same_Some s t h)
spot_there false s t h = absurd (cc)

there_is : (b : Bool) (s : Spot) → b ≡ true → then_some b s ≡ Some s
there_is b s h = rw h refl

-- ---- listed by the nodes, by cases of rows and reaches

or_last : (b c : Bool) → c ≡ true → (b || c) ≡ true
or_last true c h = refl
or_last false c h = h

-- how the actor is listed for an actor of this reach, by what holds of it
abbrev lists : Reach → (owned added teamed touched : Bool) → Bool
lists Always owned added teamed touched = true
lists Owner owned added teamed touched = owned
lists (Near cull) owned added teamed touched = owned || added || teamed || touched

lists_is : (table : Table) (edits : Edits) (player a : ℕ) (r : Reach)
    → listed_as r table edits player a
    ≡ lists r (owns edits player a) (is_added edits a player) (are_teamed edits player a)
    (admits_by_reach r (spot_of table edits a player) (viewer_at edits player))
lists_is table edits player a Always = refl
lists_is table edits player a Owner = refl
lists_is table edits player a (Near cull) = refl

by_touch : (r : Reach) (o a t s : Bool) → is_owner_only r ≡ false → s ≡ true → lists r o a t s ≡ true
by_touch Always o a t s h k = refl
by_touch Owner o a t s h k = absurd (cc)
by_touch (Near cull) o a t s h k = or_last ((o || a) || t) s k

by_owner : (r : Reach) (o a t s : Bool) → o ≡ true → lists r o a t s ≡ true
by_owner Always o a t s h = refl
by_owner Owner o a t s h = h
by_owner (Near cull) o a t s h = rw h refl

by_added : (r : Reach) (o a t s : Bool) → is_owner_only r ≡ false → a ≡ true → lists r o a t s ≡ true
by_added Always o a t s h k = refl
by_added Owner o a t s h k = absurd (cc)
by_added (Near cull) true a t s h k = refl
by_added (Near cull) false a t s h k = rw k refl

by_team : (r : Reach) (o a t s : Bool) → is_owner_only r ≡ false → t ≡ true → lists r o a t s ≡ true
by_team Always o a t s h k = refl
by_team Owner o a t s h k = absurd (cc)
by_team (Near cull) o a t s h k = rw (or_last (o || a) t k) refl

not_true : (b : Bool) → not b ≡ true → b ≡ false
not_true true h = absurd (cc)
not_true false h = refl

near_shared : (r : Reach) → is_near r ≡ true → is_owner_only r ≡ false
near_shared Always h = refl
near_shared Owner h = absurd (cc)
near_shared (Near cull) h = refl

pair_listed : (r : Reach) (o a t s n : Bool) → (o || (not (is_owner_only r) && n && a)) ≡ true → lists r o a t s ≡ true
pair_listed r true a t s n h = by_owner r true a t s refl
pair_listed r false a t s n h =
    by_added r false a t s (not_true (is_owner_only r) (left_of (not (is_owner_only r)) n (left_of _ a h)))
    (right_of _ a h)

-- what a row has for an actor of reach r it lists
row_lists : (row : Node) (table : Table) (edits : Edits) (player a p : ℕ) (r : Reach)
    → belongs row r (is_dormant edits a) edits a p ≡ true
    → admits row (record (spot_of table edits a p) { reach = r }) (viewer_at edits player) ≡ true
    → lists r (owns edits player a) (is_added edits a player) (are_teamed edits player a)
    (admits_by_reach r (spot_of table edits a player) (viewer_at edits player)) ≡ true
row_lists GridNode table edits player a p r held admitted =
    by_touch r _ _ _ _ (near_shared r (right_of (p == 0) (is_near r) (left_of _ _ held))) (touch_any r admitted)
  where
    touch_any : (r : Reach)
        → admits_by_reach r (record (spot_of table edits a p) { reach = r }) (viewer_at edits player) ≡ true
        → admits_by_reach r (spot_of table edits a player) (viewer_at edits player) ≡ true
    touch_any Always h = h
    touch_any Owner h = h
    touch_any (Near cull) h = h
row_lists AlwaysNode table edits player a p r held admitted =
    always r (right_of (p == 0) (is_always r) (left_of _ _ held))
  where
    always : (r : Reach) → is_always r ≡ true
        → lists r (owns edits player a) (is_added edits a player) (are_teamed edits player a)
        (admits_by_reach r (spot_of table edits a player) (viewer_at edits player)) ≡ true
    always Always h = refl
    always Owner h = absurd (cc)
    always (Near cull) h = absurd (cc)
row_lists PlayerNode table edits player a p r held admitted =
    let e = same_number p player admitted in
    pair_listed r (owns edits player a) (is_added edits a player) _ _ (nat_le 1 player)
    (subst (λ (q : ℕ). (owns edits q a || (not (is_owner_only r) && nat_le 1 q && is_added edits a q)) ≡ true) e held)
row_lists DormantNode table edits player a p r held admitted =
    by_touch r _ _ _ _ (not_true (is_owner_only r) (right_of (p == 0) _ (left_of _ _ held))) (touch_any r admitted)
  where
    touch_any : (r : Reach)
        → admits_by_reach r (record (spot_of table edits a p) { reach = r }) (viewer_at edits player) ≡ true
        → admits_by_reach r (spot_of table edits a player) (viewer_at edits player) ≡ true
    touch_any Always h = h
    touch_any Owner h = h
    touch_any (Near cull) h = h
row_lists TeamNode table edits player a p r held admitted =
    by_team r _ _ _ _ (not_true (is_owner_only r) (right_of (p == 0) _ (left_of _ _ held)))
    (both (given_of edits a == team_of edits player) _ (left_of _ _ admitted) (right_of _ _ held))

pub is_listed_if : (table : Table) (edits : Edits) (player a : ℕ) → IsListed table edits (viewer_at edits player) a
    → is_listed table edits player a ≡ true
is_listed_if table edits player a (row, p, s, is, admitted) =
    let t = spot_there (is_held_in row table edits a p) (spot_of table edits a p) s is in
    let live = left_of (lives edits a) _ t.0 in
    both (lives edits a) _ live
    (lists_is table edits player a (class_of table edits a).reach
    ∙ row_lists row table edits player a p (class_of table edits a).reach (right_of (lives edits a) _ t.0)
    (subst (λ (u : Spot). admits row u (viewer_at edits player) ≡ true) (sym t.1) admitted))

-- ---- and back

team_admits : (g t : ℕ) → (g == t && not (g == 0)) ≡ true → (g == t && not (t == 0)) ≡ true
team_admits g t h = grind (arith, nat_tests)

in_row : (row : Node) (table : Table) (edits : Edits) (v : Viewer) (a p : ℕ) → lives edits a ≡ true
    → belongs row (class_of table edits a).reach (is_dormant edits a) edits a p ≡ true
    → admits row (spot_of table edits a p) v ≡ true → IsListed table edits v a
in_row row table edits v a p live held admitted = (
  row,
  p,
  spot_of table edits a p,
  there_is (is_held_in row table edits a p) (spot_of table edits a p) (both (lives edits a) _ live held),
  admitted,
)

pub listed_if : (table : Table) (edits : Edits) (player a : ℕ) → IsLawful edits → is_listed table edits player a ≡ true
    → IsListed table edits (viewer_at edits player) a
listed_if table edits player a lawful h =
    by_reach (class_of table edits a).reach refl (right_of (lives edits a) _ h)
  where
    live : lives edits a ≡ true
    live = left_of (lives edits a) _ h

    shared : (r : Reach) → (class_of table edits a).reach ≡ r → is_owner_only r ≡ false → (d : Bool)
        → is_dormant edits a ≡ d
        → admits_by_reach r (record (spot_of table edits a 0) { reach = r }) (viewer_at edits player) ≡ true
        → is_near r ≡ true → IsListed table edits (viewer_at edits player) a
    shared r e s true d touched near =
        in_row DormantNode table edits (viewer_at edits player) a 0 live (rw (e, s, d) refl) (rw e touched)
    shared r e s false d touched near =
        in_row GridNode table edits (viewer_at edits player) a 0 live (rw (e, near, d) refl) (rw e touched)

    owned : (r : Reach) → (class_of table edits a).reach ≡ r → owns edits player a ≡ true
        → IsListed table edits (viewer_at edits player) a
    owned r e o =
        in_row PlayerNode table edits (viewer_at edits player) a player live (rw o refl) (same player)

    near : (cull : ℕ) → (class_of table edits a).reach ≡ Near cull → (o x t s : Bool) → owns edits player a ≡ o
        → is_added edits a player ≡ x → are_teamed edits player a ≡ t
        → touches_viewer cull table edits player a ≡ s → (o || x || t || s) ≡ true
        → IsListed table edits (viewer_at edits player) a
    near cull e true x t s oe xe te se h = owned (Near cull) e oe
    near cull e false true t s oe xe te se h =
        let least : nat_le 1 player ≡ true = left_of _ _ (lawful.added a player xe) in
        in_row PlayerNode table edits (viewer_at edits player) a player live
        (or_last (owns edits player a) _ (rw (e, least, xe) refl)) (same player)
    near cull e false false true s oe xe te se h =
        in_row TeamNode table edits (viewer_at edits player) a 0 live
        (rw (e, right_of (given_of edits a == team_of edits player) _ te) refl)
        (team_admits (given_of edits a) (team_of edits player) te)
    near cull e false false false true oe xe te se h =
        shared (Near cull) e refl (is_dormant edits a) refl se refl
    near cull e false false false false oe xe te se h = absurd (cc)

    by_reach : (r : Reach) → (class_of table edits a).reach ≡ r → listed_as r table edits player a ≡ true
        → IsListed table edits (viewer_at edits player) a
    by_reach Owner e h = owned Owner e h
    by_reach Always e h = always (is_dormant edits a) refl
      where
        always : (d : Bool) → is_dormant edits a ≡ d → IsListed table edits (viewer_at edits player) a
        always true d = in_row DormantNode table edits (viewer_at edits player) a 0 live (rw (e, d) refl) (rw e refl)
        always false d = in_row AlwaysNode table edits (viewer_at edits player) a 0 live (rw (e, d) refl) refl
    by_reach (Near cull) e h = near cull e _ _ _ _ refl refl refl refl h

-- ---- what five nodes give

some_of : {P : Type 0} (c d : ℕ) → (0 < c → P) → (0 < d → P) → 0 < c + d → P
some_of zero d first second h = second (omega arith)
some_of (suc c) d first second h = first (omega arith)

pub at_row : (row : Node) (node : AnyNode) (table : Table) (edits : Edits) (v : Viewer) → Holds row node table edits
    → ((spots : Spots) → any.Stands node spots → Gathers (any.row_of node) spots v (any.given_by node v))
    → Gathers row (world_spots row table edits) v (any.given_by node v)
at_row row node table edits v holds gathers =
    subst (λ (r : Node). Gathers r (world_spots row table edits) v (any.given_by node v)) holds.row_is
    (gathers (world_spots row table edits) holds.spots)

listed_by : (row : Node) (table : Table) (edits : Edits) (v : Viewer) (a : ℕ) (actors : List ℕ)
    → Gathers row (world_spots row table edits) v actors → 0 < count_of a actors → IsListed table edits v a
listed_by row table edits v a actors gathers some = let o = gathers.only a some in (row, o.0, o.1, o.2, o.3)

lists_it : (row : Node) (table : Table) (edits : Edits) (v : Viewer) (a p : ℕ) (s : Spot) (actors : List ℕ)
    → Gathers row (world_spots row table edits) v actors → world_spots row table edits a p ≡ Some s
    → admits row s v ≡ true → 0 < count_of a actors
lists_it row table edits v a p s actors gathers is admitted = let h = gathers.all a p s is admitted in omega arith

-- what each node gives to the viewer
pub record GiveFive (table : Table) (edits : Edits) (v : Viewer)
    (grid always players dormant teams : List ℕ) : Type 0 where
  pub grid_is : Gathers GridNode (world_spots GridNode table edits) v grid
  pub always_is : Gathers AlwaysNode (world_spots AlwaysNode table edits) v always
  pub players_is : Gathers PlayerNode (world_spots PlayerNode table edits) v players
  pub dormant_is : Gathers DormantNode (world_spots DormantNode table edits) v dormant
  pub teams_is : Gathers TeamNode (world_spots TeamNode table edits) v teams

abbrev pub all_five : (grid always players dormant teams : List ℕ) → List ℕ
all_five grid always players dormant teams = ((((([] ++ grid) ++ always) ++ players) ++ dormant) ++ teams)

-- five lists, appended one after another
pub five_appended : (start one two three four five g h i j k : List ℕ) → start ≡ [] → one ≡ start ++ g
    → two ≡ one ++ h → three ≡ two ++ i → four ≡ three ++ j → five ≡ four ++ k → five ≡ all_five g h i j k
five_appended start one two three four five g h i j k none a b c d e =
    e ∙ ap (λ (xs : List ℕ). xs ++ k)
    (d ∙ ap (λ (xs : List ℕ). xs ++ j)
    (c ∙ ap (λ (xs : List ℕ). xs ++ i)
    (b ∙ ap (λ (xs : List ℕ). xs ++ h)
    (a ∙ ap (λ (xs : List ℕ). xs ++ g) none))))

count_five : (a : ℕ) (g h i j k : List ℕ)
    → count_of a (all_five g h i j k)
    ≡ count_of a g + (count_of a h + (count_of a i + (count_of a j + count_of a k)))
count_five a g h i j k =
    let p = count_of-append a (((g ++ h) ++ i) ++ j) k in
    let q = count_of-append a ((g ++ h) ++ i) j in
    let r = count_of-append a (g ++ h) i in
    let s = count_of-append a g h in
    omega arith

pub five_list : (table : Table) (edits : Edits) (v : Viewer) (a : ℕ) (g h i j k : List ℕ)
    → GiveFive table edits v g h i j k
    → 0 < count_of a (all_five g h i j k) → IsListed table edits v a
five_list table edits v a g h i j k give some =
    let c = rw (count_five a g h i j k) at some in
    some_of (count_of a g) _ (listed_by GridNode table edits v a g give.grid_is)
    (some_of (count_of a h) _ (listed_by AlwaysNode table edits v a h give.always_is)
    (some_of (count_of a i) _ (listed_by PlayerNode table edits v a i give.players_is)
    (some_of (count_of a j) (count_of a k) (listed_by DormantNode table edits v a j give.dormant_is)
    (listed_by TeamNode table edits v a k give.teams_is)))) c

pub list_five : (table : Table) (edits : Edits) (v : Viewer) (a : ℕ) (g h i j k : List ℕ)
    → GiveFive table edits v g h i j k
    → IsListed table edits v a → 0 < count_of a (all_five g h i j k)
list_five table edits v a g h i j k give (row, p, s, is, admitted) =
    let c = count_five a g h i j k in by_row row is admitted c
  where
    by_row : (row : Node) → world_spots row table edits a p ≡ Some s → admits row s v ≡ true
        → count_of a (all_five g h i j k)
        ≡ count_of a g + (count_of a h + (count_of a i + (count_of a j + count_of a k)))
        → 0 < count_of a (all_five g h i j k)
    by_row GridNode is admitted c =
        let l = lists_it GridNode table edits v a p s g give.grid_is is admitted in omega arith
    by_row AlwaysNode is admitted c =
        let l = lists_it AlwaysNode table edits v a p s h give.always_is is admitted in omega arith
    by_row PlayerNode is admitted c =
        let l = lists_it PlayerNode table edits v a p s i give.players_is is admitted in omega arith
    by_row DormantNode is admitted c =
        let l = lists_it DormantNode table edits v a p s j give.dormant_is is admitted in omega arith
    by_row TeamNode is admitted c =
        let l = lists_it TeamNode table edits v a p s k give.teams_is is admitted in omega arith
