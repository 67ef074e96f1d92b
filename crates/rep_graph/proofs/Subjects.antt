-- What an edit changes of the actor that it is about, and that it changes no other.
use Rattle.std.proofs.Common.{◌≡◌, ◌≢◌, ◌∙◌, ℕ, ℤ, ◌+◌, ◌*◌, ◌<◌, ◌≤◌, ◌^◌, ◌∷◌, Bool, true, false, nat_le, ◌&&◌, ◌==◌, Option, Some, None, unwrap_or, refl, sym, ap, subst, arith, if◌then◌else◌}
use Rattle.std.specs.Bool.{then_some}
use Rattle.std.specs.List.{filter_map, list_any}
use Rattle.std.proofs.Math.Bool.{and-false}
use Rattle.std.proofs.Math.Path.{fun_ext}
use Rattle.std.proofs.lemmas.Bool.Decides.{nat_tests}
use Rattle.std.proofs.lemmas.Option.{same_Some}
use Rattle.graph_model.specs.Nodes.{Node, GridNode, AlwaysNode, PlayerNode, DormantNode, TeamNode, Spot}
use Rattle.protocol_model.specs.Limits.{spawn_limit}
use Rattle.protocol_model.specs.Value.{Table}
use Rattle.protocol_model.specs.World as model
use Rattle.protocol_model.specs.World.{Edits, Spawned, spawn_of, spawn_count, spawned_value, value_of, value_in, class_in, destroys, owner_of, is_dormant, given_of, is_added}
use Rattle.graph_nodes.specs.declared.any.AnyNode.{AnyNode}
use Rattle.graph_nodes.specs.Held.{Spots}
use Rattle.graph_nodes.specs.Any as any
use Rattle.world_table.specs.Answers.{edit_of, look_of}
use Rattle.world_table.specs.Stands.{History, history_of}
use Rattle.world_table.specs.declared.edit.Edit.{Edit}
use Rattle.world_table.proofs.Numbers.{other}
use Rattle.world_table.proofs.Telling.{newest_or, destroy_tells, set_tells, own_tells, dormant_tells, wake_tells, give_tells, spawn_counts}
use Rattle.rep_graph.specs.declared.nodes.Nodes.{Nodes}
use Rattle.rep_graph.specs.Spots.{world_spots}
use Rattle.rep_graph.specs.Standings.{standing_in, standing_by, look_before, subject_of, last_of}
use Rattle.rep_graph.specs.Graph.{Holds, Keeps, IsLawful}
use Rattle.rep_graph.proofs.Told.{held_told}
use Rattle.rep_graph.proofs.Looks.{stands_as_seen}
use Rattle.rep_graph.proofs.Lawful.{next_free}

if_some : (b : Bool) (x y : ℕ) → (if b then Some x else None) ≡ Some y → x ≡ y
if_some true x y h = same_Some x y h
if_some false x y h = absurd (cc)

-- the next actor's guid
pub next_is : (last next count : ℕ) → last ≡ 2 * count → count ≤ spawn_limit → (last + 2 < 2 ^ 32 → next ≡ last + 2)
    → next ≡ 2 * (count + 1)
next_is last next count e few h = let k = h (omega arith) in omega arith

-- ---- nothing else is told of other actors

pub others_told : (edits : Edits) (e : Edit) (actor : ℕ) → subject_of (2 * (spawn_count edits + 1)) e ≡ Some actor
    → (b : ℕ) → b ≢ actor → history_of (edit_of e ∷ edits) b ≡ history_of edits b
others_told edits (Edit.Spawn class x y) actor h b apart =
    let e = same_Some (2 * (spawn_count edits + 1)) actor h in
    rw (other (2 * (spawn_count edits + 1)) b (λ q. apart (q ∙ e))) refl
others_told edits (Edit.Destroy a) actor h b apart =
    (destroy_tells edits a).others b (λ q. apart (q ∙ same_Some a actor h))
others_told edits (Edit.Set a prop v) actor h b apart =
    (set_tells edits a prop _).others b (λ q. apart (q ∙ if_some (nat_le prop 2) a actor h))
others_told edits (Edit.Own a p) actor h b apart =
    (own_tells edits a (unwrap_or p 0)).others b (λ q. apart (q ∙ same_Some a actor h))
others_told edits (Edit.View p x y) actor h b apart = absurd (cc)
others_told edits (Edit.Add a p on) actor h b apart = refl
others_told edits (Edit.Dormant a) actor h b apart =
    (dormant_tells edits a).others b (λ q. apart (q ∙ same_Some a actor h))
others_told edits (Edit.Wake a) actor h b apart =
    (wake_tells edits a).others b (λ q. apart (q ∙ same_Some a actor h))
others_told edits (Edit.Flush a) actor h b apart = absurd (cc)
others_told edits (Edit.Switch a prop on) actor h b apart = absurd (cc)
others_told edits (Edit.Team p team) actor h b apart = absurd (cc)
others_told edits (Edit.Give a team) actor h b apart =
    (give_tells edits a team).others b (λ q. apart (q ∙ same_Some a actor h))

-- ---- how the actor stood

unspawned : (table : Table) (told : History) → told.spawn ≡ None → standing_by table told ≡ None
unspawned table told h = rw h refl

seen_before : (table : Table) (edits : Edits) (a actor : ℕ) → a ≡ actor
    → standing_in table (look_of table edits a) ≡ standing_by table (history_of edits actor)
seen_before table edits a actor e =
    stands_as_seen table edits a ∙ ap (λ (x : ℕ). standing_by table (history_of edits x)) e

pub stood_before : (table : Table) (edits : Edits) (e : Edit) (actor : ℕ)
    → subject_of (2 * (spawn_count edits + 1)) e ≡ Some actor
    → standing_in table (look_before table edits e) ≡ standing_by table (history_of edits actor)
stood_before table edits (Edit.Spawn class x y) actor h =
    sym (ap (λ (n : ℕ). standing_by table (history_of edits n)) (sym (same_Some (2 * (spawn_count edits + 1)) actor h))
    ∙ unspawned table (history_of edits (2 * (spawn_count edits + 1))) (next_free edits))
stood_before table edits (Edit.Destroy a) actor h = seen_before table edits a actor (same_Some a actor h)
stood_before table edits (Edit.Set a prop v) actor h =
    seen_before table edits a actor (if_some (nat_le prop 2) a actor h)
stood_before table edits (Edit.Own a p) actor h = seen_before table edits a actor (same_Some a actor h)
stood_before table edits (Edit.View p x y) actor h = absurd (cc)
stood_before table edits (Edit.Add a p on) actor h = seen_before table edits a actor (same_Some a actor h)
stood_before table edits (Edit.Dormant a) actor h = seen_before table edits a actor (same_Some a actor h)
stood_before table edits (Edit.Wake a) actor h = seen_before table edits a actor (same_Some a actor h)
stood_before table edits (Edit.Flush a) actor h = absurd (cc)
stood_before table edits (Edit.Switch a prop on) actor h = absurd (cc)
stood_before table edits (Edit.Team p team) actor h = absurd (cc)
stood_before table edits (Edit.Give a team) actor h = seen_before table edits a actor (same_Some a actor h)

-- ---- the last actor

pub last_is : (edits : Edits) (e : Edit) (last next : ℕ) → last ≡ 2 * spawn_count edits
    → next ≡ 2 * (spawn_count edits + 1) → last_of last next e ≡ 2 * spawn_count (edit_of e ∷ edits)
last_is edits (Edit.Spawn class x y) last next h n = let k = spawn_counts edits class x y in omega arith
last_is edits (Edit.Destroy a) last next h n = h
last_is edits (Edit.Set a prop v) last next h n = h
last_is edits (Edit.Own a p) last next h n = h
last_is edits (Edit.View p x y) last next h n = h
last_is edits (Edit.Add a p on) last next h n = h
last_is edits (Edit.Dormant a) last next h n = h
last_is edits (Edit.Wake a) last next h n = h
last_is edits (Edit.Flush a) last next h n = h
last_is edits (Edit.Switch a prop on) last next h n = h
last_is edits (Edit.Team p team) last next h n = h
last_is edits (Edit.Give a team) last next h n = h

-- ---- an edit without a subject

-- a value other than the one that is set
value_stays : (table : Table) (edits : Edits) (a h : ℕ) (v : ℤ) (b k : ℕ) → (k == h) ≡ false
    → value_of table (model.Set a h v ∷ edits) b k ≡ value_of table edits b k
value_stays table edits a h v b k apart =
    newest_or (b == a && k == h) v (spawned_value table (spawn_of edits b) k) (filter_map (value_in b k) edits)
    ∙ ap (λ (t : Bool). if b == a && t then v else value_of table edits b k) apart
    ∙ ap (λ (t : Bool). if t then v else value_of table edits b k) (and-false (b == a))

-- a spot by all that it hangs on
abbrev core : Node → Table → Option Spawned → (destroyed : Bool) → (owner : ℕ) → (dormant : Bool) → (given : ℕ)
    → (added : Bool) → (actor player : ℕ) → (x y : ℤ) → Option Spot
core row table spawn destroyed owner dormant given added a p x y =
    then_some
    (held_told row table (record {
      spawn = spawn;
      destroyed = destroyed;
      set = λ h. None;
      owner = owner;
      dormant = dormant;
      flush = 0;
      on = λ h. true;
      given = given;
    }) added p)
    (record { actor = a; x = x; y = y; reach = (class_in table spawn).reach; player = p; team = given })

core_is : (row : Node) (table : Table) (edits : Edits) (a p : ℕ)
    → world_spots row table edits a p
    ≡ core row table (spawn_of edits a) (list_any (destroys a) edits) (owner_of edits a) (is_dormant edits a)
    (given_of edits a)
    (is_added edits a p) a p (value_of table edits a 1) (value_of table edits a 2)
core_is GridNode table edits a p = refl
core_is AlwaysNode table edits a p = refl
core_is PlayerNode table edits a p = refl
core_is DormantNode table edits a p = refl
core_is TeamNode table edits a p = refl

set_spots : (row : Node) (table : Table) (edits : Edits) (a h : ℕ) (v : ℤ) (b p : ℕ) → (1 == h) ≡ false
    → (2 == h) ≡ false
    → world_spots row table (model.Set a h v ∷ edits) b p ≡ world_spots row table edits b p
set_spots row table edits a h v b p one two =
    let at : ℤ → ℤ → Option Spot =
    λ x y. core row table (spawn_of edits b) (list_any (destroys b) edits) (owner_of edits b)
    (is_dormant edits b) (given_of edits b) (is_added edits b p) b p x y in
    core_is row table (model.Set a h v ∷ edits) b p
    ∙ ap (λ (x : ℤ). at x (value_of table (model.Set a h v ∷ edits) b 2)) (value_stays table edits a h v b 1 one)
    ∙ ap (λ (y : ℤ). at (value_of table edits b 1) y) (value_stays table edits a h v b 2 two)
    ∙ sym (core_is row table edits b p)

if_none : (b : Bool) (x : ℕ) → ◌≡◌ {A = Option ℕ} (if b then Some x else None) None → b ≡ false
if_none true x h = absurd (cc)
if_none false x h = refl

unseen_at : (row : Node) (table : Table) (edits : Edits) (e : Edit) (next : ℕ) → subject_of next e ≡ None → (b p : ℕ)
    → world_spots row table (edit_of e ∷ edits) b p ≡ world_spots row table edits b p
unseen_at row table edits (Edit.Spawn class x y) next h b p = absurd (cc)
unseen_at row table edits (Edit.Destroy a) next h b p = absurd (cc)
unseen_at row table edits (Edit.Set a prop v) next h b p =
    let n = if_none (nat_le prop 2) a h in
    set_spots row table edits a prop _ b p (grind (arith, nat_tests)) (grind (arith, nat_tests))
unseen_at row table edits (Edit.Own a q) next h b p = absurd (cc)
unseen_at row table edits (Edit.View q x y) next h b p =
    core_is row table (model.View q x y ∷ edits) b p ∙ sym (core_is row table edits b p)
unseen_at row table edits (Edit.Add a q on) next h b p = absurd (cc)
unseen_at row table edits (Edit.Dormant a) next h b p = absurd (cc)
unseen_at row table edits (Edit.Wake a) next h b p = absurd (cc)
unseen_at row table edits (Edit.Flush a) next h b p =
    core_is row table (model.Flush a ∷ edits) b p ∙ sym (core_is row table edits b p)
unseen_at row table edits (Edit.Switch a prop on) next h b p =
    core_is row table (model.Switch a prop on ∷ edits) b p ∙ sym (core_is row table edits b p)
unseen_at row table edits (Edit.Team q team) next h b p =
    core_is row table (model.Team q team ∷ edits) b p ∙ sym (core_is row table edits b p)
unseen_at row table edits (Edit.Give a team) next h b p = absurd (cc)

unseen_by : (row : Node) (node : AnyNode) (table : Table) (edits : Edits) (e : Edit) (next : ℕ)
    → subject_of next e ≡ None
    → Holds row node table edits → Holds row node table (edit_of e ∷ edits)
unseen_by row node table edits e next h holds = record {
  row_is = holds.row_is;
  spots = subst (λ (f : Spots). any.Stands node f)
      (fun_ext (λ (b : ℕ). fun_ext (λ (p : ℕ). sym (unseen_at row table edits e next h b p)))) holds.spots;
}

same_count : (edits : Edits) (e : Edit) (next : ℕ) → subject_of next e ≡ None
    → spawn_count (edit_of e ∷ edits) ≡ spawn_count edits
same_count edits (Edit.Spawn class x y) next h = absurd (cc)
same_count edits (Edit.Destroy a) next h = absurd (cc)
same_count edits (Edit.Set a prop v) next h = refl
same_count edits (Edit.Own a q) next h = absurd (cc)
same_count edits (Edit.View q x y) next h = refl
same_count edits (Edit.Add a q on) next h = absurd (cc)
same_count edits (Edit.Dormant a) next h = absurd (cc)
same_count edits (Edit.Wake a) next h = absurd (cc)
same_count edits (Edit.Flush a) next h = refl
same_count edits (Edit.Switch a prop on) next h = refl
same_count edits (Edit.Team q team) next h = refl
same_count edits (Edit.Give a team) next h = absurd (cc)

-- nodes go along with an edit without a subject by themselves
pub unseen : (nodes : Nodes) (table : Table) (edits : Edits) (e : Edit) (next : ℕ) → subject_of next e ≡ None
    → IsLawful (edit_of e ∷ edits) → Keeps nodes table edits → Keeps nodes table (edit_of e ∷ edits)
unseen nodes table edits e next h lawful keeps = record {
  four = record {
    grid = unseen_by GridNode nodes.grid table edits e next h keeps.four.grid;
    always = unseen_by AlwaysNode nodes.always table edits e next h keeps.four.always;
    dormant = unseen_by DormantNode nodes.dormant table edits e next h keeps.four.dormant;
    teams = unseen_by TeamNode nodes.teams table edits e next h keeps.four.teams;
  };
  players = unseen_by PlayerNode nodes.players table edits e next h keeps.players;
  last = keeps.last ∙ ap (λ (n : ℕ). 2 * n) (sym (same_count edits e next h));
  lawful = lawful;
}
