-- What a look tells of an actor's pairs and of how it stands.
use Rattle.std.proofs.Common.{rules, ◌≤◌, ◌≡◌, ◌∙◌, ℕ, Bool, true, false, not, nat_le, ◌&&◌, ◌||◌, ◌==◌, Option, Some, None, option_map, refl, sym, ap, arith}
use Rattle.std.specs.Prelude.{is_some, IfSome}
use Rattle.std.specs.Bool.{then_some}
use Rattle.std.proofs.lemmas.Bool.Decides.{nat_tests}
use Rattle.protocol_model.specs.Limits.{player_limit}
use Rattle.protocol_model.specs.declared.Reach.{Reach}
use Rattle.graph_model.specs.Nodes.{PlayerNode, is_held_in}
use Rattle.protocol_model.specs.Value.{Table, is_owner_only}
use Rattle.protocol_model.specs.World.{Edits, Spawned, class_at, class_in, lives, spawn_of, owner_of, is_added, is_dormant, is_player, value_of}
use Rattle.world_table.specs.Answers.{look_of, spawned_look, player_of}
use Rattle.world_table.specs.Stands.{history_of}
use Rattle.rep_graph.specs.Standings.{standing_in, standing_by, owner_in, owner_is, held_by_look}

pub owner_test : (n p : ℕ) → (n == p && not (p == 0)) ≡ owner_is p (player_of n)
owner_test n p = by_tests n p (n == 0) refl
  where
    by_tests : (n p : ℕ) (z : Bool) → (n == 0) ≡ z → (n == p && not (p == 0)) ≡ owner_is p (then_some (not z) n)
    by_tests n p true e = grind (arith, nat_tests)
    by_tests n p false e = grind (arith, nat_tests)

-- the pair is held where the look says so
pub held_as_seen : (table : Table) (edits : Edits) (a p : ℕ)
    → is_held_in PlayerNode table edits a p ≡ held_by_look table (look_of table edits a) (is_added edits a p) p
held_as_seen table edits a p = by_spawn (spawn_of edits a) refl
  where
    by_spawn : (o : Option Spawned) → spawn_of edits a ≡ o
        → is_held_in PlayerNode table edits a p
        ≡ held_by_look table (option_map (spawned_look table edits a) o) (is_added edits a p) p
    by_spawn None e = rw e refl
    by_spawn (Some s) e =
        ap (λ (o : Option Spawned). lives edits a && ((owner_of edits a == p && not (p == 0))
        || (not (is_owner_only (class_in table o).reach) && nat_le 1 p && is_added edits a p))) e
        ∙ ap (λ (b : Bool). lives edits a && (b
        || (not (is_owner_only (class_at table s.class).reach) && nat_le 1 p && is_added edits a p)))
        (owner_test (owner_of edits a) p)

-- the actor stands as the look says
pub stands_as_seen : (table : Table) (edits : Edits) (a : ℕ)
    → standing_in table (look_of table edits a) ≡ standing_by table (history_of edits a)
stands_as_seen table edits a = by_spawn (spawn_of edits a) refl
  where
    by_spawn : (o : Option Spawned) → spawn_of edits a ≡ o
        → standing_in table (option_map (spawned_look table edits a) o) ≡ standing_by table (history_of edits a)
    by_spawn None e = rw e refl
    by_spawn (Some s) e =
        ap (λ (r : Reach). then_some (lives edits a)
        (record {
          x = value_of table edits a 1;
          y = value_of table edits a 2;
          reach = r;
          dormant = is_dormant edits a;
        }))
        (ap (λ (o : Option Spawned). (class_in table o).reach) (sym e))

-- the owner that a look of a spawned actor names
pub owner_seen : (table : Table) (edits : Edits) (a q : ℕ) → is_some (spawn_of edits a) ≡ true
    → owner_is q (owner_in (look_of table edits a)) ≡ (owner_of edits a == q && not (q == 0))
owner_seen table edits a q h = by_spawn (spawn_of edits a) h
  where
    by_spawn : (o : Option Spawned) → is_some o ≡ true
        → owner_is q (owner_in (option_map (spawned_look table edits a) o)) ≡ (owner_of edits a == q && not (q == 0))
    by_spawn None h = absurd (cc)
    by_spawn (Some s) h = sym (owner_test (owner_of edits a) q)

named_player : (n : ℕ) (z : Bool) → (n == 0) ≡ z → n ≤ player_limit
    → IfSome (then_some (not z) n) (λ p. is_player p ≡ true)
named_player n true e most = search rules
named_player n false e most = let h : is_player n ≡ true = grind (arith, nat_tests) in h

-- and that owner is a player
pub owner_player : (table : Table) (edits : Edits) (a : ℕ) → owner_of edits a ≤ player_limit
    → IfSome (owner_in (look_of table edits a)) (λ p. is_player p ≡ true)
owner_player table edits a most = by_spawn (spawn_of edits a)
  where
    by_spawn : (o : Option Spawned)
        → IfSome (owner_in (option_map (spawned_look table edits a) o)) (λ p. is_player p ≡ true)
    by_spawn None = search rules
    by_spawn (Some s) = named_player (owner_of edits a) (owner_of edits a == 0) refl most
