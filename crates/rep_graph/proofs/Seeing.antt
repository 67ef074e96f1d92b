-- What a look tells of who sees the actor.
use Rattle.std.proofs.Common.{◌≡◌, ◌∙◌, ℕ, ℤ, pos, negsuc, ◌+◌, ◌-◌, ◌*◌, ◌<◌, ◌≤◌, min, List, [], ◌∷◌, ◌++◌, length, take, filter, get_or, Bool, true, false, nat_le, ◌||◌, Option, Some, None, option_map, ◌-ℤ◌, ◌*ℤ◌, refl, sym, ap, arith, cond}
use Rattle.std.specs.Prelude.{unsigned_abs}
use Rattle.std.proofs.lemmas.List.{take_more}
use Rattle.std.proofs.lemmas.Bool.Decides.{nat_tests}
use Rattle.std.proofs.lemmas.Option.{same_Some}
use Rattle.std.proofs.Math.Nat.{mul-le-mul_left}
use Rattle.protocol_model.specs.declared.Reach.TheVariants.{Near}
use Rattle.graph_model.specs.Nodes.{Viewer, viewer_at}
use Rattle.protocol_model.specs.Sight.{reaches, are_teamed}
use Rattle.protocol_model.specs.Value.{Table}
use Rattle.protocol_model.specs.World.{Edits, Spawned, owns, is_added, spawn_of, value_of, owner_of}
use Rattle.world_table.specs.Answers.{look_of, spawned_look}
use Rattle.world_table.specs.declared.edit.Look.{Look}
use Rattle.rep_graph.specs.Standings.{owner_is, is_near_to, then_one}
use Rattle.rep_graph.proofs.Looks.{owner_test}

-- ---- distances

-- the square of a difference, by how much it is
squared : (z : ℤ) → z *ℤ z ≡ pos (unsigned_abs z * unsigned_abs z)
squared (pos n) = refl
squared (negsuc n) = refl

saturated : (a b : ℕ) → b < 18446744073709551615 → nat_le (min a 18446744073709551615) b ≡ nat_le a b
saturated a b h = grind (arith, nat_tests)

pub near_is : (x y from_x from_y : ℤ) (cull m n s : ℕ) → m ≡ unsigned_abs (x -ℤ from_x) → n ≡ unsigned_abs (y -ℤ from_y)
    → s ≡ min (m * m + n * n) 18446744073709551615 → cull ≤ 4294967295
    → nat_le s (cull * cull) ≡ is_near_to x y from_x from_y cull
near_is x y from_x from_y cull m n s dx dy sum most =
    let h = mul-le-mul_left cull most in
    let below : cull * cull < 18446744073709551615 = omega arith in
    rw (squared (x -ℤ from_x), squared (y -ℤ from_y), ← dx, ← dy, sum) (saturated (m * m + n * n) (cull * cull) below)

-- ---- one of four reasons

pub third : (o n t a : Bool) → t ≡ true → true ≡ (o || n || t || a)
third true n t a h = refl
third false true t a h = refl
third false false t a h = rw h refl

pub last : (o n t a : Bool) → o ≡ false → n ≡ false → t ≡ false → a ≡ (o || n || t || a)
last o n t a h k l = rw (h, k, l) refl

turned : (o n t a : Bool) → (o || n || t || a) ≡ (o || a || t || n)
turned true n t a = refl
turned false true true true = refl
turned false true true false = refl
turned false true false true = refl
turned false true false false = refl
turned false false true true = refl
turned false false true false = refl
turned false false false true = refl
turned false false false false = refl

-- ---- a look

look_fields : (table : Table) (edits : Edits) (a : ℕ) (l : Look) → look_of table edits a ≡ Some l
    → (s : Spawned) × (spawn_of edits a ≡ Some s) × (spawned_look table edits a s ≡ l)
look_fields table edits a l h = by_spawn (spawn_of edits a) refl h
  where
    by_spawn : (o : Option Spawned) → spawn_of edits a ≡ o → option_map (spawned_look table edits a) o ≡ Some l
        → (s : Spawned) × (spawn_of edits a ≡ Some s) × (spawned_look table edits a s ≡ l)
    by_spawn None e h = absurd (cc)
    by_spawn (Some s) e h = (s, e, same_Some (spawned_look table edits a s) l h)

pub look_owns : (table : Table) (edits : Edits) (a q : ℕ) (l : Look) → look_of table edits a ≡ Some l
    → owner_is q l.owner ≡ owns edits q a
look_owns table edits a q l h =
    let f = look_fields table edits a l h in
    ap (λ (k : Look). owner_is q k.owner) (sym f.2) ∙ sym (owner_test (owner_of edits a) q)

pub look_near : (table : Table) (edits : Edits) (a : ℕ) (l : Look) (v : Viewer) (player cull : ℕ)
    → look_of table edits a ≡ Some l → v ≡ viewer_at edits player
    → (owner_is player l.owner || is_near_to l.x l.y v.x v.y cull || are_teamed edits player a
    || is_added edits a player)
    ≡ reaches (Near cull) table edits player a
look_near table edits a l v player cull h view =
    let f = look_fields table edits a l h in
    ap (λ (o : Bool). o || is_near_to l.x l.y v.x v.y cull || are_teamed edits player a || is_added edits a player)
    (look_owns table edits a player l h)
    ∙ ap (λ (k : Look). owns edits player a || is_near_to k.x k.y v.x v.y cull || are_teamed edits player a
    || is_added edits a player)
    (sym f.2)
    ∙ ap (λ (w : Viewer). owns edits player a || is_near_to (value_of table edits a 1)
    (value_of table edits a 2) w.x w.y cull
    || are_teamed edits player a || is_added edits a player) view
    ∙ turned (owns edits player a) _ (are_teamed edits player a) (is_added edits a player)

-- ---- one actor more

filter_one : (p : ℕ → Bool) (xs : List ℕ) (x : ℕ) → filter p (xs ++ x ∷ []) ≡ filter p xs ++ then_one (p x) x
filter_one p [] x = by_test (p x)
  where
    by_test : (t : Bool) → cond t (x ∷ []) [] ≡ then_one t x
    by_test true = refl
    by_test false = refl
filter_one p (y ∷ xs) x = by_test (p y) (filter_one p xs x)
  where
    by_test : (t : Bool) → filter p (xs ++ x ∷ []) ≡ filter p xs ++ then_one (p x) x
        → cond t (y ∷ filter p (xs ++ x ∷ [])) (filter p (xs ++ x ∷ []))
        ≡ cond t (y ∷ filter p xs) (filter p xs) ++ then_one (p x) x
    by_test true h = ap (λ (zs : List ℕ). y ∷ zs) h
    by_test false h = h

pub kept_more : (p : ℕ → Bool) (xs : List ℕ) (i x : ℕ) → i < length xs → x ≡ get_or xs i x
    → filter p (take (i + 1) xs) ≡ filter p (take i xs) ++ then_one (p x) x
kept_more p xs i x within is =
    ap (filter p) (take_more xs i x within ∙ ap (λ (y : ℕ). take i xs ++ y ∷ []) (sym is))
    ∙ filter_one p (take i xs) x
