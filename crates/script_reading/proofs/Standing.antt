-- What is kept stands for the lines before, from one line to the next.
use Rattle.std.proofs.Common.{◌≡◌, ℕ, zero, suc, ◌+◌, ◌-◌, ◌*◌, ◌≤◌, List, [], ◌∷◌, length, refl, sym, ◌∙◌, ap, arith, Bool, true, false, not, ◌||◌, nat_eq, Option, Some, None, option_map, cond, Err, ℤ, pos, negsuc}
use Rattle.std.specs.Prelude.{slice_get}
use Rattle.std.specs.List.{list_any}
use Rattle.std.proofs.lemmas.Bool.Decides.{nat_tests}
use Rattle.std.proofs.lemmas.Option.{slice_get_past}
use Rattle.protocol_model.specs.declared.LineWhy.TheVariants.{NoActor}
use Rattle.protocol_model.specs.Limits.{spawn_limit}
use Rattle.protocol_model.specs.Value.{Table}
use Rattle.protocol_model.specs.World as world
use Rattle.protocol_model.specs.World.{Edits, Edit, Spawned, spawn_count, spawn_of, class_at, destroys, lives}
use Rattle.script_model.specs.ScriptRules.{Before, is_actor, guid_of, class_at_line, is_from_to}
use Rattle.script_reading.specs.Kept.{Kept, Actor}
use Rattle.script_reading.specs.Judging.{actor_of, allowed}
use Rattle.script_reading.specs.Stands.{Stands, seen_at, seen_in}
use Rattle.script_reading.proofs.Judged.{found}

-- no actor has guid 0
pub none_at_0 : (edits : Edits) → spawn_of edits 0 ≡ None
none_at_0 [] = refl
none_at_0 (world.Spawn class x y ∷ edits) =
    let e : nat_eq 0 (2 * (spawn_count edits + 1)) ≡ false = grind (arith, nat_tests) in rw (e, none_at_0 edits) refl
none_at_0 (world.Destroy a ∷ edits) = none_at_0 edits
none_at_0 (world.Set a h v ∷ edits) = none_at_0 edits
none_at_0 (world.Own a p ∷ edits) = none_at_0 edits
none_at_0 (world.View p x y ∷ edits) = none_at_0 edits
none_at_0 (world.Add a p on ∷ edits) = none_at_0 edits
none_at_0 (world.Dormant a ∷ edits) = none_at_0 edits
none_at_0 (world.Wake a ∷ edits) = none_at_0 edits
none_at_0 (world.Flush a ∷ edits) = none_at_0 edits
none_at_0 (world.Switch a h on ∷ edits) = none_at_0 edits
none_at_0 (world.Team p t ∷ edits) = none_at_0 edits
none_at_0 (world.Give a t ∷ edits) = none_at_0 edits

-- an actor that wasn't spawned may not be named
absent : (table : Table) (edits : Edits) (joined : List ℕ) (destroyed : Bool) (z : ℤ)
    → spawn_of edits (guid_of z) ≡ None
    → Err NoActor ≡ found (is_actor edits (z, destroyed)) (guid_of z)
    (class_at_line table (record { edits = edits; joined = joined }) z)
absent table edits joined true z h = rw h refl
absent table edits joined false z h = rw h refl

-- one that was spawned may be, unless it is destroyed
present : (table : Table) (before : Before) (destroyed : Bool) (n : ℕ) (spawned : Spawned)
    → spawn_of before.edits (2 * n) ≡ Some spawned
    → found (destroyed || not (list_any (destroys (2 * n)) before.edits)) (2 * n) (class_at table spawned.class)
    ≡ found (is_actor before.edits (pos n, destroyed)) (2 * n) (class_at_line table before (pos n))
present table before true n spawned h = rw h refl
present table before false n spawned h = rw h refl

-- nobody is seen who wasn't spawned
pub not_spawned : (table : Table) (edits : Edits) (a : ℕ) → seen_at table edits a ≡ None → spawn_of edits a ≡ None
not_spawned table edits a h = by_spawn (spawn_of edits a) h
  where
    by_spawn : (o : Option Spawned) → option_map (seen_in table edits a) o ≡ None → o ≡ None
    by_spawn None h = refl
    by_spawn (Some s) h = absurd cc

-- an actor that may be named is one of the lines before
pub actor_is : (table : Table) (kept : Kept) (before : Before) (destroyed : Bool) (z : ℤ) → Stands table kept before
    → actor_of kept destroyed z
    ≡ found (is_actor before.edits (z, destroyed)) (guid_of z) (class_at_line table before z)
unfolding actor_of
actor_is table kept before destroyed (negsuc n) s =
    absent table before.edits before.joined destroyed (negsuc n) (none_at_0 before.edits)
actor_is table kept before destroyed (pos zero) s =
    absent table before.edits before.joined destroyed (pos zero) (none_at_0 before.edits)
actor_is table kept before destroyed (pos (suc n)) s = by_test (is_from_to 1 spawn_limit (pos (suc n))) refl
  where
    here : suc n - 1 ≡ n
    here = omega arith

    kept_is : slice_get kept.actors (suc n - 1) ≡ seen_at table before.edits (2 * suc n)
    kept_is =
        let e : 2 * (n + 1) ≡ 2 * suc n = omega arith in
        ap (slice_get kept.actors) here ∙ s.actors n ∙ ap (seen_at table before.edits) e

    by_spawn : (o : Option Spawned) → spawn_of before.edits (2 * suc n) ≡ o
        → slice_get kept.actors (suc n - 1) ≡ option_map (seen_in table before.edits (2 * suc n)) o
        → allowed destroyed (option_map (λ (a : Actor). (2 * suc n, a)) (slice_get kept.actors (suc n - 1)))
        ≡ found (is_actor before.edits (pos (suc n), destroyed)) (2 * suc n) (class_at_line table before (pos (suc n)))
    by_spawn None h e = rw e (absent table before.edits before.joined destroyed (pos (suc n)) h)
    by_spawn (Some spawned) h e = rw e (present table before destroyed (suc n) spawned h)

    by_test : (t : Bool) → is_from_to 1 spawn_limit (pos (suc n)) ≡ t
        → allowed destroyed (cond t (option_map (λ (a : Actor). (2 * suc n, a))
        (slice_get kept.actors (suc n - 1))) None)
        ≡ found (is_actor before.edits (pos (suc n), destroyed)) (2 * suc n) (class_at_line table before (pos (suc n)))
    by_test true h = by_spawn (spawn_of before.edits (2 * suc n)) refl kept_is
    by_test false h =
        let past : length kept.actors ≤ suc n - 1 = grind (arith, nat_tests, s.few) in
        absent table before.edits before.joined destroyed (pos (suc n))
        (not_spawned table before.edits (2 * suc n) (sym kept_is ∙ slice_get_past kept.actors (suc n - 1) past))
