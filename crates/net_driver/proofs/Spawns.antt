-- What was spawned stays spawned, as the same class.
use Rattle.std.proofs.Common.{◌≡◌, ◌≢◌, ℕ, ◌+◌, ◌*◌, ◌<◌, ◌==◌, [], ◌∷◌, Bool, true, false, refl, ap, ◌∙◌, arith, Some, None, cond, ℤ}
use Rattle.std.proofs.lemmas.Bool.{ne_eqb, eqb-true}
use Rattle.std.proofs.lemmas.List.Sums.{sum_by-cons}
use Rattle.protocol_model.specs.Value.{Table}
use Rattle.protocol_model.specs.World.{Edit, Edits, Spawn, Destroy, Set, Own, View, Add, Dormant, Wake, Flush, Switch, Team, Give, is_spawn, spawn_count, spawn_of, class_in, class_of}

count_more : (class : ℕ) (x y : ℤ) (edits : Edits) → spawn_count (Spawn class x y ∷ edits) ≡ 1 + spawn_count edits
count_more class x y edits = sum_by-cons (λ (e : Edit). cond (is_spawn e) 1 0) (Spawn class x y) edits

count_other : (e : Edit) (edits : Edits) → is_spawn e ≡ false → spawn_count (e ∷ edits) ≡ spawn_count edits
count_other e edits h = sum_by-cons (λ (e : Edit). cond (is_spawn e) 1 0) e edits ∙ rw h (omega arith)

-- an actor above the last spawned wasn't
pub none_spawned : (edits : Edits) (a : ℕ) → 2 * spawn_count edits < a → spawn_of edits a ≡ None
none_spawned [] a h = refl
none_spawned (Spawn class x y ∷ edits) a h =
    let more = count_more class x y edits in
    let other : (a == 2 * (spawn_count edits + 1))
    ≡ false = ne_eqb a (2 * (spawn_count edits + 1)) (λ e. absurd (omega (arith, e, h, more))) in
    rw other (none_spawned edits a (omega (arith, h, more)))
none_spawned (Destroy b ∷ edits) a h = none_spawned edits a (omega (arith, h, count_other (Destroy b) edits refl))
none_spawned (Set b k v ∷ edits) a h = none_spawned edits a (omega (arith, h, count_other (Set b k v) edits refl))
none_spawned (Own b p ∷ edits) a h = none_spawned edits a (omega (arith, h, count_other (Own b p) edits refl))
none_spawned (View p x y ∷ edits) a h = none_spawned edits a (omega (arith, h, count_other (View p x y) edits refl))
none_spawned (Add b p on ∷ edits) a h = none_spawned edits a (omega (arith, h, count_other (Add b p on) edits refl))
none_spawned (Dormant b ∷ edits) a h = none_spawned edits a (omega (arith, h, count_other (Dormant b) edits refl))
none_spawned (Wake b ∷ edits) a h = none_spawned edits a (omega (arith, h, count_other (Wake b) edits refl))
none_spawned (Flush b ∷ edits) a h = none_spawned edits a (omega (arith, h, count_other (Flush b) edits refl))
none_spawned (Switch b k on ∷ edits) a h = none_spawned edits a
    (omega (arith, h, count_other (Switch b k on) edits refl))
none_spawned (Team p t ∷ edits) a h = none_spawned edits a (omega (arith, h, count_other (Team p t) edits refl))
none_spawned (Give b t ∷ edits) a h = none_spawned edits a (omega (arith, h, count_other (Give b t) edits refl))

-- an edit leaves what was spawned before
pub spawn_stays : (edit : Edit) (edits : Edits) (a : ℕ) → spawn_of edits a ≢ None
    → spawn_of (edit ∷ edits) a ≡ spawn_of edits a
spawn_stays (Spawn class x y) edits a h = by (a == 2 * (spawn_count edits + 1)) refl
  where
    by : (b : Bool) → (a == 2 * (spawn_count edits + 1)) ≡ b
        → cond b (Some (record { class = class; x = x; y = y })) (spawn_of edits a) ≡ spawn_of edits a
    by true e = absurd (h (none_spawned edits a (omega (arith, eqb-true a (2 * (spawn_count edits + 1)) e))))
    by false e = refl
spawn_stays (Destroy b) edits a h = refl
spawn_stays (Set b k v) edits a h = refl
spawn_stays (Own b p) edits a h = refl
spawn_stays (View p x y) edits a h = refl
spawn_stays (Add b p on) edits a h = refl
spawn_stays (Dormant b) edits a h = refl
spawn_stays (Wake b) edits a h = refl
spawn_stays (Flush b) edits a h = refl
spawn_stays (Switch b k on) edits a h = refl
spawn_stays (Team p t) edits a h = refl
spawn_stays (Give b t) edits a h = refl

pub class_stays : (table : Table) (edit : Edit) (edits : Edits) (a : ℕ) → spawn_of edits a ≢ None
    → class_of table (edit ∷ edits) a ≡ class_of table edits a
class_stays table edit edits a h = ap (class_in table) (spawn_stays edit edits a h)
