-- A number that counts as a lesser one is out of every range, and so is that one.
use Rattle.std.proofs.Common.{◌≡◌, ℕ, ◌-◌, ◌<◌, min, refl, sym, ◌∙◌, ap, arith, Bool, true, false, ◌&&◌, nat_le, ◌^◌, None, option_map, Ok, Err, ℤ, pos, negsuc}
use Rattle.std.specs.Prelude.{slice_get}
use Rattle.std.specs.Bool.{if◌then◌else◌}
use Rattle.std.proofs.lemmas.Bool.Decides.{nat_tests}
use Rattle.protocol_model.specs.declared.LineWhy.TheVariants.{Range, NoActor}
use Rattle.protocol_model.specs.Limits.{budget_limit, player_limit, spawn_limit, team_limit}
use Rattle.protocol_model.specs.Payload.{natural}
use Rattle.protocol_model.specs.Side.{AtServer, AtClient}
use Rattle.protocol_model.specs.Value.{Table}
use Rattle.script_model.specs.Script.{Spelled, Join, Spawn, Destroy, Set, Own, View, Add, Dormant, Wake, Flush, Switch, Team, Give, Tick, ClientTick, Deliver, DeliverNew, CallTo, CallAll, Dump, AskSettled, Forge}
use Rattle.script_model.specs.ScriptRules.{is_from_to, is_coordinate, guid_of}
use Rattle.script_spelling.specs.Capped.{capped, most_size}
use Rattle.script_spelling.specs.SpelledBy.{capped_line}
use Rattle.script_reading.specs.Kept.{Kept, Actor}
use Rattle.script_reading.specs.Judging.{judged, player_of, within, coordinate_of, joined_in, numbered_in, actor_of, allowed}

and_false : (b : Bool) → (b && false) ≡ false
and_false true = refl
and_false false = refl

-- what is made of a number in range
capped_in : {A : Type 0} (low high : ℕ) (z : ℤ) (make : Bool → ℤ → A) (none : A) → high < most_size
    → ((z : ℤ) → make false z ≡ none)
    → make (is_from_to low high (capped z)) (capped z) ≡ make (is_from_to low high z) z
capped_in low high (negsuc n) make none few same = same (capped (negsuc n)) ∙ sym (same (negsuc n))
capped_in low high (pos n) make none few same = by_test (nat_le n most_size) refl
  where
    by_test : (t : Bool) → nat_le n most_size ≡ t
        → make (is_from_to low high (pos (min most_size n))) (pos (min most_size n))
        ≡ make (is_from_to low high (pos n)) (pos n)
    by_test true h = let e : min most_size n ≡ n = grind (arith, nat_tests) in rw e refl
    by_test false h =
        let e : min most_size n ≡ most_size = grind (arith, nat_tests) in
        let f : nat_le n high ≡ false = grind (arith, nat_tests) in
        let g : nat_le most_size high ≡ false = grind (arith, nat_tests) in
        ap (λ m. make (is_from_to low high (pos m)) (pos m)) e
        ∙ ap (λ b. make b (pos most_size)) (ap (λ b. nat_le low most_size && b) g ∙ and_false (nat_le low most_size))
        ∙ same (pos most_size) ∙ sym (same (pos n))
        ∙ sym (ap (λ b. make b (pos n)) (ap (λ b. nat_le low n && b) f ∙ and_false (nat_le low n)))

player_capped : (z : ℤ) → player_of (capped z) ≡ player_of z
unfolding player_of
player_capped z =
    capped_in 1 player_limit z (λ b z. if b then Ok (natural z) else Err Range) (Err Range) (omega arith) (λ z. refl)

within_capped : (low high : ℕ) (z : ℤ) → high < most_size → within low high (capped z) ≡ within low high z
unfolding within
within_capped low high z few =
    capped_in low high z (λ b z. if b then Ok (natural z) else Err Range) (Err Range) few (λ z. refl)

actor_capped : (kept : Kept) (destroyed : Bool) (z : ℤ) → actor_of kept destroyed (capped z) ≡ actor_of kept destroyed z
unfolding actor_of
actor_capped kept destroyed z =
    capped_in 1 spawn_limit z
    (λ b z. allowed destroyed
    (if b then option_map (λ (a : Actor). (guid_of z, a)) (slice_get kept.actors (natural z - 1)) else None))
    (Err NoActor) (omega arith) (λ z. refl)

coordinate_capped : (z : ℤ) → coordinate_of (capped z) ≡ coordinate_of z
unfolding coordinate_of
coordinate_capped (pos n) = by_test (nat_le n most_size) refl
  where
    by_test : (t : Bool) → nat_le n most_size ≡ t
        → (if is_coordinate (pos (min most_size n)) then Ok (pos (min most_size n)) else Err Range)
        ≡ (if is_coordinate (pos n) then Ok (pos n) else Err Range)
    by_test true h = let e : min most_size n ≡ n = grind (arith, nat_tests) in rw e refl
    by_test false h =
        let e : min most_size n ≡ most_size = grind (arith, nat_tests) in
        let f : nat_le n (2 ^ 31 - 1) ≡ false = grind (arith, nat_tests) in rw (e, f) refl
coordinate_capped (negsuc n) = by_test (nat_le n (most_size - 1)) refl
  where
    by_test : (t : Bool) → nat_le n (most_size - 1) ≡ t
        → (if is_coordinate (negsuc (min (most_size - 1) n)) then Ok (negsuc (min (most_size - 1) n)) else Err Range)
        ≡ (if is_coordinate (negsuc n) then Ok (negsuc n) else Err Range)
    by_test true h = let e : min (most_size - 1) n ≡ n = grind (arith, nat_tests) in rw e refl
    by_test false h =
        let e : min (most_size - 1) n ≡ most_size - 1 = grind (arith, nat_tests) in
        let f : nat_le n (2 ^ 31 - 1) ≡ false = grind (arith, nat_tests) in rw (e, f) refl

joined_capped : (live : Bool) (kept : Kept) (z : ℤ) → joined_in live kept (capped z) ≡ joined_in live kept z
unfolding joined_in
joined_capped live kept z = rw (player_capped z) refl

numbered_capped : (live : Bool) (kept : Kept) (low high : ℕ) (z n : ℤ) → high < most_size
    → numbered_in live kept low high (capped z) (capped n) ≡ numbered_in live kept low high z n
unfolding numbered_in
numbered_capped live kept low high z n few = rw (player_capped z, within_capped low high n few) refl

-- a line is judged by its numbers as far as they are told apart
pub capped_is : (table : Table) (live : Bool) (kept : Kept) (line : Spelled)
    → judged table live kept (capped_line line) ≡ judged table live kept line
capped_is table live kept (Join version player budget) =
    rw (player_capped player, within_capped 1 budget_limit budget (omega arith)) refl
capped_is table live kept (Spawn class x y) = rw (coordinate_capped x, coordinate_capped y) refl
capped_is table live kept (Destroy actor) = rw (actor_capped kept false actor) refl
capped_is table live kept (Dormant actor) = rw (actor_capped kept false actor) refl
capped_is table live kept (Wake actor) = rw (actor_capped kept false actor) refl
capped_is table live kept (Flush actor) = rw (actor_capped kept false actor) refl
capped_is table live kept (Set actor name value) = rw (actor_capped kept false actor) refl
capped_is table live kept (Switch actor name on) = rw (actor_capped kept false actor) refl
capped_is table live kept (Own actor player) =
    rw (within_capped 0 player_limit player (omega arith), actor_capped kept false actor) refl
capped_is table live kept (View player x y) = rw (player_capped player, coordinate_capped x, coordinate_capped y) refl
capped_is table live kept (Add on actor player) = rw (player_capped player, actor_capped kept false actor) refl
capped_is table live kept (Team player team) =
    rw (player_capped player, within_capped 0 team_limit team (omega arith)) refl
capped_is table live kept (Give actor team) =
    rw (within_capped 0 team_limit team (omega arith), actor_capped kept false actor) refl
capped_is table live kept Tick = refl
capped_is table live kept (ClientTick player) = rw (joined_capped live kept player) refl
capped_is table live kept (Dump player) = rw (joined_capped live kept player) refl
capped_is table live kept (Forge to player bytes) = rw (joined_capped live kept player) refl
capped_is table live kept (Deliver to player number) =
    rw (numbered_capped live kept 1 1000000 player number (omega arith)) refl
capped_is table live kept (DeliverNew to player every) =
    rw (numbered_capped live kept 0 1000 player every (omega arith)) refl
capped_is table live kept (AskSettled player actor) =
    rw (joined_capped live kept player, actor_capped kept true actor) refl
capped_is table live kept (CallTo AtServer player actor name args) =
    rw (player_capped player, actor_capped kept false actor) refl
capped_is table live kept (CallTo AtClient player actor name args) =
    rw (joined_capped live kept player, actor_capped kept true actor) refl
capped_is table live kept (CallAll actor name args) = rw (actor_capped kept false actor) refl
