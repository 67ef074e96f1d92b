-- What is kept after a line stands for the lines with it.
use Rattle.std.proofs.Common.{◌≡◌, ℕ, zero, suc, ◌+◌, ◌-◌, ◌*◌, ◌/◌, ◌≤◌, ◌<◌, List, [], ◌∷◌, ◌++◌, length, refl, sym, ◌∙◌, ap, subst, arith, Bool, true, false, not, ◌&&◌, ◌||◌, ◌==◌, nat_le, nat_eq, Option, Some, None, is_some, is_none, option_map, unwrap_or, cond, ℤ}
use Rattle.std.specs.Prelude.{slice_get}
use Rattle.std.specs.List.{list_any}
use Rattle.std.proofs.lemmas.Bool.Decides.{nat_tests}
use Rattle.std.proofs.lemmas.List.{length-append}
use Rattle.std.proofs.lemmas.List.Sums.{sum_by-cons}
use Rattle.std.proofs.lemmas.Option.{slice_get_past}
use Rattle.protocol_model.specs.Limits.{spawn_limit}
use Rattle.protocol_model.specs.Payload.{natural}
use Rattle.protocol_model.specs.Value.{Table, Call}
use Rattle.protocol_model.specs.World as world
use Rattle.protocol_model.specs.World.{Edits, Edit, Spawned, spawn_count, spawn_of, class_at, destroys, is_spawn}
use Rattle.script_model.specs.Script.{Spelled, Join, Spawn, Destroy, Set, Own, View, Add, Dormant, Wake, Flush, Switch, Team, Give, Tick, ClientTick, Deliver, DeliverNew, CallTo, CallAll, Dump, AskSettled, Forge}
use Rattle.script_model.specs.ScriptRules.{Before, is_actor, actor_in, guid_of, is_in_range, is_live, has_joined, player_in, joining_player, class_named, class_in, named_in, call_in, goes_right, has_value, is_past_last, if_there, refusal_of, line_of, after_spelled}
use Rattle.script_reading.specs.Kept.{Kept, Actor, nothing, destroyed_at, kept_after}
use Rattle.script_reading.specs.Stands.{Stands, seen_at, seen_in}
use Rattle.script_reading.proofs.Judged.{chain}
use Rattle.script_reading.proofs.Standing.{none_at_0, not_spawned}

-- ---- a line that isn't refused

-- an actor that may not be named, or one too many
no_reason : (a b c d e f g h i j : Bool) → chain a b c d e f g h i j ≡ None → (f ≡ false) × (j ≡ false)
no_reason true b c d e f g h i j is = absurd cc
no_reason false true c d e f g h i j is = absurd cc
no_reason false false true d e f g h i j is = absurd cc
no_reason false false false true e f g h i j is = absurd cc
no_reason false false false false true f g h i j is = absurd cc
no_reason false false false false false true g h i j is = absurd cc
no_reason false false false false false false true h i j is = absurd cc
no_reason false false false false false false false true i j is = absurd cc
no_reason false false false false false false false false true j is = absurd cc
no_reason false false false false false false false false false true is = absurd cc
no_reason false false false false false false false false false false is = (refl, refl)

holds : (b : Bool) → not b ≡ false → b ≡ true
holds true h = refl
holds false h = absurd cc

-- the line names an actor that it may, and isn't one too many
accepted : (table : Table) (live : Bool) (before : Before) (line : Spelled) → refusal_of table live before line ≡ None
    → (if_there (is_actor before.edits) (actor_in line) ≡ true) × (is_past_last before line ≡ false)
accepted table live before line h =
    let none =
    no_reason (live && not (is_live line)) (not (is_in_range line))
    (not live && not (if_there (has_joined before) (player_in line)))
    (is_some (joining_player line) && if_there (has_joined before) (joining_player line))
    (not (if_there (λ name. is_some (class_named table name)) (class_in line)))
    (not (if_there (is_actor before.edits) (actor_in line))) (is_none (named_in table before line))
    (not (if_there (λ (call : Call). goes_right line call.way) (call_in table before line)))
    (not (has_value table before line)) (is_past_last before line) h in
    (holds (if_there (is_actor before.edits) (actor_in line)) none.0, none.1)

-- ---- one more item

pub get_at : {A : Type 0} (xs : List A) (a : A) (n : ℕ) → n ≡ length xs → slice_get (xs ++ a ∷ []) n ≡ Some a
get_at [] a zero h = refl
get_at [] a (suc n) h = absurd (omega arith)
get_at (x ∷ xs) a zero h = absurd (omega arith)
get_at (x ∷ xs) a (suc n) h = get_at xs a n (omega arith)

pub get_off : {A : Type 0} (xs : List A) (a : A) (n : ℕ) → nat_eq n (length xs) ≡ false
    → slice_get (xs ++ a ∷ []) n ≡ slice_get xs n
get_off [] a zero h = absurd (grind (arith, nat_tests))
get_off [] a (suc n) h = refl
get_off (x ∷ xs) a zero h = refl
get_off (x ∷ xs) a (suc n) h = get_off xs a n (grind (arith, nat_tests))

or_swap : (a b c : Bool) → (a || (b || c)) ≡ (b || (a || c))
or_swap true true c = refl
or_swap true false c = refl
or_swap false true c = refl
or_swap false false c = refl

any_last : (f : ℕ → Bool) (xs : List ℕ) (x : ℕ) → list_any f (xs ++ x ∷ []) ≡ (f x || list_any f xs)
any_last f [] x = refl
any_last f (y ∷ ys) x = ap (λ b. f y || b) (any_last f ys x) ∙ or_swap (f y) (f x) (list_any f ys)

-- ---- an actor that is destroyed

-- an actor, destroyed
abbrev pub killed : Actor → Actor
killed a = record { class = a.class; alive = false }

pub length-destroyed : (k : ℕ) (xs : List Actor) → length (destroyed_at k xs) ≡ length xs
length-destroyed k [] = refl
length-destroyed zero (x ∷ xs) = refl
length-destroyed (suc k) (x ∷ xs) = let e = length-destroyed k xs in omega arith

dead_at : (k : ℕ) (xs : List Actor) → slice_get (destroyed_at k xs) k ≡ option_map killed (slice_get xs k)
dead_at k [] = refl
dead_at zero (x ∷ xs) = refl
dead_at (suc k) (x ∷ xs) = dead_at k xs

dead_off : (k : ℕ) (xs : List Actor) (n : ℕ) → nat_eq n k ≡ false → slice_get (destroyed_at k xs) n ≡ slice_get xs n
dead_off k [] n h = refl
dead_off zero (x ∷ xs) zero h = absurd (grind (arith, nat_tests))
dead_off zero (x ∷ xs) (suc n) h = refl
dead_off (suc k) (x ∷ xs) zero h = refl
dead_off (suc k) (x ∷ xs) (suc n) h = dead_off k xs n (grind (arith, nat_tests))

-- ---- joins, spawns and destroyed actors

joined_stands : (table : Table) (kept : Kept) (before : Before) (p : ℕ) → Stands table kept before
    → Stands table (record kept { players = kept.players ++ p ∷ [] })
    (record { edits = before.edits; joined = p ∷ before.joined })
joined_stands table kept before p s = record {
  count = s.count;
  few = s.few;
  actors = s.actors;
  fresh = s.fresh;
  players = λ q. any_last (λ k. k == q) kept.players p ∙ ap (λ b. p == q || b) (s.players q);
  joined = (let e = s.joined in let f = length-append kept.players (p ∷ []) in omega arith);
}

spawned_stands : (table : Table) (kept : Kept) (before : Before) (c : ℕ) (x y : ℤ) → Stands table kept before
    → nat_le spawn_limit (spawn_count before.edits) ≡ false
    → Stands table (record kept { actors = kept.actors ++ record { class = class_at table c; alive = true } ∷ [] })
    (record { edits = world.Spawn c x y ∷ before.edits; joined = before.joined })
spawned_stands table kept before c x y s few = record {
  count = longer ∙ (let e = s.count in let f = one_more in omega arith);
  few = (let e = s.count in let f = longer in grind (arith, nat_tests));
  actors = λ n. by_place n (nat_eq n (length kept.actors)) refl;
  fresh = λ n h. s.fresh n (let f = longer in omega arith);
  players = s.players;
  joined = s.joined;
}
  where
    new : Actor
    new = record { class = class_at table c; alive = true }

    one_more : spawn_count (world.Spawn c x y ∷ before.edits) ≡ 1 + spawn_count before.edits
    one_more = sum_by-cons (λ (e : Edit). cond (is_spawn e) 1 0) (world.Spawn c x y) before.edits

    longer : length (kept.actors ++ new ∷ []) ≡ length kept.actors + 1
    longer = length-append kept.actors (new ∷ [])

    by_place : (n : ℕ) (t : Bool) → nat_eq n (length kept.actors) ≡ t
        → slice_get (kept.actors ++ new ∷ []) n ≡ seen_at table (world.Spawn c x y ∷ before.edits) (2 * (n + 1))
    by_place n true h =
        let e : nat_eq (2 * (n + 1)) (2 * (spawn_count before.edits + 1)) ≡ true = grind (arith, nat_tests, s.count) in
        let f : list_any (destroys (2 * (n + 1))) before.edits ≡ false = s.fresh n (grind (arith, nat_tests)) in
        get_at kept.actors new n (grind (arith, nat_tests)) ∙ (rw (e, f) refl)
    by_place n false h =
        let e : nat_eq (2 * (n + 1)) (2 * (spawn_count before.edits + 1)) ≡ false = grind (arith, nat_tests, s.count) in
        get_off kept.actors new n h ∙ s.actors n ∙ (rw e refl)

destroyed_stands : (table : Table) (kept : Kept) (before : Before) (k : ℕ) → Stands table kept before
    → is_some (spawn_of before.edits (2 * suc k)) ≡ true
    → Stands table (record kept { actors = destroyed_at k kept.actors })
    (record { edits = world.Destroy (2 * suc k) ∷ before.edits; joined = before.joined })
destroyed_stands table kept before k s there = record {
  count = length-destroyed k kept.actors ∙ s.count;
  few = (let e = s.few in let f = length-destroyed k kept.actors in omega arith);
  actors = λ n. by_place n (nat_eq n k) refl;
  fresh = λ n h. by_fresh n (let f = length-destroyed k kept.actors in omega arith);
  players = s.players;
  joined = s.joined;
}
  where
    within : k < length kept.actors
    within = by_test (nat_le (length kept.actors) k) refl
      where
        by_test : (t : Bool) → nat_le (length kept.actors) k ≡ t → k < length kept.actors
        by_test false h = grind (arith, nat_tests)
        by_test true h =
            let e : 2 * (k + 1) ≡ 2 * suc k = omega arith in
            let none : seen_at table before.edits (2 * suc k) ≡ None =
            sym (ap (seen_at table before.edits) e) ∙ sym (s.actors k)
            ∙ slice_get_past kept.actors k (grind (arith, nat_tests)) in
            let not_there = not_spawned table before.edits (2 * suc k) none in
            absurd (let f : false ≡ true = sym (ap is_some not_there) ∙ there in cc)

    by_fresh : (n : ℕ) → length kept.actors ≤ n
        → (2 * (n + 1) == 2 * suc k || list_any (destroys (2 * (n + 1))) before.edits) ≡ false
    by_fresh n h =
        let e : nat_eq (2 * (n + 1)) (2 * suc k) ≡ false = grind (arith, nat_tests, within) in rw e (s.fresh n h)

    dies : (n : ℕ) (o : Option Spawned) → nat_eq (2 * (n + 1)) (2 * suc k) ≡ true
        → option_map killed (option_map (seen_in table before.edits (2 * (n + 1))) o)
        ≡ option_map (seen_in table (world.Destroy (2 * suc k) ∷ before.edits) (2 * (n + 1))) o
    dies n None e = refl
    dies n (Some spawned) e = rw e refl

    stays : (n : ℕ) (o : Option Spawned) → nat_eq (2 * (n + 1)) (2 * suc k) ≡ false
        → option_map (seen_in table before.edits (2 * (n + 1))) o
        ≡ option_map (seen_in table (world.Destroy (2 * suc k) ∷ before.edits) (2 * (n + 1))) o
    stays n None e = refl
    stays n (Some spawned) e = rw e refl

    by_place : (n : ℕ) (t : Bool) → nat_eq n k ≡ t
        → slice_get (destroyed_at k kept.actors) n
        ≡ seen_at table (world.Destroy (2 * suc k) ∷ before.edits) (2 * (n + 1))
    by_place n true h =
        let e : n ≡ k = grind (arith, nat_tests) in
        let f : nat_eq (2 * (n + 1)) (2 * suc k) ≡ true = grind (arith, nat_tests) in
        subst (λ m. slice_get (destroyed_at k kept.actors) m ≡ option_map killed (slice_get kept.actors m)) (sym e)
        (dead_at k kept.actors) ∙ ap (option_map killed) (s.actors n) ∙ dies n (spawn_of before.edits (2 * (n + 1))) f
    by_place n false h =
        let f : nat_eq (2 * (n + 1)) (2 * suc k) ≡ false = grind (arith, nat_tests) in
        dead_off k kept.actors n h ∙ s.actors n ∙ stays n (spawn_of before.edits (2 * (n + 1))) f

-- ---- any line

and_left : (a b : Bool) → (a && b) ≡ true → a ≡ true
and_left true b h = refl
and_left false b h = absurd cc

pub after_is : (table : Table) (live : Bool) (kept : Kept) (before : Before) (line : Spelled) → Stands table kept before
    → refusal_of table live before line ≡ None
    → Stands table (kept_after table kept (line_of table before line)) (after_spelled table before line)
after_is table live kept before (Join version player budget) s h = joined_stands table kept before (natural player) s
after_is table live kept before (Spawn class x y) s h =
    let named = accepted table live before (Spawn class x y) h in
    spawned_stands table kept before (unwrap_or (class_named table class) 0) x y s named.1
after_is table live kept before (Destroy actor) s h =
    let named = accepted table live before (Destroy actor) h in
    by_spawn (natural actor) refl (and_left (is_some (spawn_of before.edits (guid_of actor)))
    (not (list_any (destroys (guid_of actor)) before.edits)) named.0)
  where
    by_spawn : (m : ℕ) → natural actor ≡ m → is_some (spawn_of before.edits (guid_of actor)) ≡ true
        → Stands table (kept_after table kept (line_of table before (Destroy actor)))
        (after_spelled table before (Destroy actor))
    by_spawn zero e there =
        absurd (let f : false ≡ true = sym (ap is_some (none_at_0 before.edits))
        ∙ sym (ap (λ m. is_some (spawn_of before.edits (2 * m))) e) ∙ there in cc)
    by_spawn (suc k) e there =
        let half : 2 * natural actor / 2 - 1 ≡ k = grind (arith) in
        let guid : 2 * natural actor ≡ 2 * suc k = omega arith in
        subst (λ n. Stands table (record kept { actors = destroyed_at n kept.actors })
        (after_spelled table before (Destroy actor)))
        (sym half)
        (subst (λ g. Stands table (record kept { actors = destroyed_at k kept.actors })
        (record { edits = world.Destroy g ∷ before.edits; joined = before.joined })) (sym guid)
        (destroyed_stands table kept before k s (ap (λ g. is_some (spawn_of before.edits g)) (sym guid) ∙ there)))
after_is table live kept before (Set actor name value) s h =
    record { count = s.count; few = s.few; actors = s.actors; fresh = s.fresh; players = s.players; joined = s.joined }
after_is table live kept before (Own actor player) s h =
    record { count = s.count; few = s.few; actors = s.actors; fresh = s.fresh; players = s.players; joined = s.joined }
after_is table live kept before (View player x y) s h =
    record { count = s.count; few = s.few; actors = s.actors; fresh = s.fresh; players = s.players; joined = s.joined }
after_is table live kept before (Add on actor player) s h =
    record { count = s.count; few = s.few; actors = s.actors; fresh = s.fresh; players = s.players; joined = s.joined }
after_is table live kept before (Dormant actor) s h =
    record { count = s.count; few = s.few; actors = s.actors; fresh = s.fresh; players = s.players; joined = s.joined }
after_is table live kept before (Wake actor) s h =
    record { count = s.count; few = s.few; actors = s.actors; fresh = s.fresh; players = s.players; joined = s.joined }
after_is table live kept before (Flush actor) s h =
    record { count = s.count; few = s.few; actors = s.actors; fresh = s.fresh; players = s.players; joined = s.joined }
after_is table live kept before (Switch actor name on) s h =
    record { count = s.count; few = s.few; actors = s.actors; fresh = s.fresh; players = s.players; joined = s.joined }
after_is table live kept before (Team player team) s h =
    record { count = s.count; few = s.few; actors = s.actors; fresh = s.fresh; players = s.players; joined = s.joined }
after_is table live kept before (Give actor team) s h =
    record { count = s.count; few = s.few; actors = s.actors; fresh = s.fresh; players = s.players; joined = s.joined }
after_is table live kept before Tick s h =
    record { count = s.count; few = s.few; actors = s.actors; fresh = s.fresh; players = s.players; joined = s.joined }
after_is table live kept before (ClientTick player) s h =
    record { count = s.count; few = s.few; actors = s.actors; fresh = s.fresh; players = s.players; joined = s.joined }
after_is table live kept before (Deliver to player number) s h =
    record { count = s.count; few = s.few; actors = s.actors; fresh = s.fresh; players = s.players; joined = s.joined }
after_is table live kept before (DeliverNew to player every) s h =
    record { count = s.count; few = s.few; actors = s.actors; fresh = s.fresh; players = s.players; joined = s.joined }
after_is table live kept before (CallTo from player actor name args) s h =
    record { count = s.count; few = s.few; actors = s.actors; fresh = s.fresh; players = s.players; joined = s.joined }
after_is table live kept before (CallAll actor name args) s h =
    record { count = s.count; few = s.few; actors = s.actors; fresh = s.fresh; players = s.players; joined = s.joined }
after_is table live kept before (Dump player) s h =
    record { count = s.count; few = s.few; actors = s.actors; fresh = s.fresh; players = s.players; joined = s.joined }
after_is table live kept before (AskSettled player actor) s h =
    record { count = s.count; few = s.few; actors = s.actors; fresh = s.fresh; players = s.players; joined = s.joined }
after_is table live kept before (Forge to player bytes) s h =
    record { count = s.count; few = s.few; actors = s.actors; fresh = s.fresh; players = s.players; joined = s.joined }

-- before the first line
pub nothing_stands : (table : Table) → Stands table nothing (record { edits = []; joined = [] })
nothing_stands table = record {
  count = refl;
  few = omega arith;
  actors = λ n. refl;
  fresh = λ n h. refl;
  players = λ p. refl;
  joined = refl;
}
