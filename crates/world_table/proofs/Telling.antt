-- What one more edit tells of an actor, and what it leaves as it was.
use Rattle.std.proofs.Common.{◌≡◌, ◌≢◌, ℕ, ℤ, ◌+◌, ◌*◌, List, ◌∷◌, Bool, true, false, ◌==◌, Option, Some, unwrap_or, refl, ap, arith, if◌then◌else◌}
use Rattle.std.specs.Prelude.{slice_get}
use Rattle.std.specs.Bool.{then_some}
use Rattle.std.specs.List.{cons_option, filter_map}
use Rattle.std.proofs.Math.Path.{fun_ext}
use Rattle.std.proofs.lemmas.List.Sums.{sum_by-cons}
use Rattle.protocol_model.specs.World.{Edit, Edits, Spawn, Destroy, Set, Own, View, Add, Dormant, Wake, Flush, Switch, Team, Give, is_spawn, spawn_count, spawn_of, is_added, value_in, switch_in, flushes}
use Rattle.world_table.specs.Stands.{History, history_of, seat_of}
use Rattle.world_table.proofs.Numbers.{same, other}

-- what is found first is in the newest edit, or else in the others
newest : {A : Type 0} (found : Bool) (x : A) (older : List A)
    → slice_get (cons_option (then_some found x) older) 0 ≡ (if found then Some x else slice_get older 0)
newest true x older = refl
newest false x older = refl

pub newest_or : {A : Type 0} (found : Bool) (x d : A) (older : List A)
    → unwrap_or (slice_get (cons_option (then_some found x) older) 0) d
    ≡ (if found then x else unwrap_or (slice_get older 0) d)
newest_or true x d older = refl
newest_or false x d older = refl

-- an edit tells of this actor alone, and of no player
pub record TellsOnly (e : Edit) (a : ℕ) (edits : Edits) : Type 0 where
  pub count : spawn_count (e ∷ edits) ≡ spawn_count edits
  pub others : (b : ℕ) → b ≢ a → history_of (e ∷ edits) b ≡ history_of edits b
  pub seats : (player : ℕ) → seat_of (e ∷ edits) player ≡ seat_of edits player
  pub added : (b player : ℕ) → is_added (e ∷ edits) b player ≡ is_added edits b player

-- ---- an actor's end

pub destroy_tells : (edits : Edits) (a : ℕ) → TellsOnly (Destroy a) a edits
destroy_tells edits a =
    record { count = refl; others = λ b h. rw (other a b h) refl; seats = λ player. refl; added = λ b player. refl }

pub destroy_told : (edits : Edits) (a : ℕ)
    → history_of (Destroy a ∷ edits) a ≡ record (history_of edits a) { destroyed = true }
destroy_told edits a = rw (same a) refl

-- ---- a value

pub set_tells : (edits : Edits) (a h : ℕ) (v : ℤ) → TellsOnly (Set a h v) a edits
set_tells edits a h v =
    record { count = refl; others = λ b h. rw (other a b h) refl; seats = λ player. refl; added = λ b player. refl }

-- what is set once the handle is given the value
abbrev pub with_set : History → (handle : ℕ) → ℤ → History
with_set told h v = record told { set = λ k. if k == h then Some v else told.set k }

pub set_told : (edits : Edits) (a h : ℕ) (v : ℤ) → history_of (Set a h v ∷ edits) a ≡ with_set (history_of edits a) h v
set_told edits a h v =
    rw (same a)
    (ap (λ (f : ℕ → Option ℤ). record (history_of edits a) { set = f })
    (fun_ext (λ (k : ℕ). newest (k == h) v (filter_map (value_in a k) edits))))

-- ---- an owner

pub own_tells : (edits : Edits) (a player : ℕ) → TellsOnly (Own a player) a edits
own_tells edits a player =
    record { count = refl; others = λ b h. rw (other a b h) refl; seats = λ p. refl; added = λ b p. refl }

pub own_told : (edits : Edits) (a player : ℕ)
    → history_of (Own a player ∷ edits) a ≡ record (history_of edits a) { owner = player }
own_told edits a player = rw (same a) refl

-- ---- sleep and flushes

pub dormant_tells : (edits : Edits) (a : ℕ) → TellsOnly (Dormant a) a edits
dormant_tells edits a =
    record { count = refl; others = λ b h. rw (other a b h) refl; seats = λ player. refl; added = λ b player. refl }

pub dormant_told : (edits : Edits) (a : ℕ) → history_of (Dormant a ∷ edits) a ≡ record (history_of edits a) { dormant = true }
dormant_told edits a = rw (same a) refl

pub wake_tells : (edits : Edits) (a : ℕ) → TellsOnly (Wake a) a edits
wake_tells edits a =
    record { count = refl; others = λ b h. rw (other a b h) refl; seats = λ player. refl; added = λ b player. refl }

pub wake_told : (edits : Edits) (a : ℕ) → history_of (Wake a ∷ edits) a ≡ record (history_of edits a) { dormant = false }
wake_told edits a = rw (same a) refl

pub flush_tells : (edits : Edits) (a : ℕ) → TellsOnly (Flush a) a edits
flush_tells edits a =
    record { count = refl; others = λ b h. rw (other a b h) refl; seats = λ player. refl; added = λ b player. refl }

pub flush_told : (edits : Edits) (a : ℕ)
    → history_of (Flush a ∷ edits) a ≡ record (history_of edits a) { flush = (history_of edits a).flush + 1 }
flush_told edits a =
    let more = sum_by-cons (λ (e : Edit). if flushes a e then 1 else 0) (Flush a) edits in
    let one : ◌≡◌ {A = ℕ} (if a == a then 1 else 0) 1 = rw (same a) refl in
    ap (λ (n : ℕ). record (history_of edits a) { flush = n }) (omega (arith, more, one))

-- ---- a switch

pub switch_tells : (edits : Edits) (a h : ℕ) (on : Bool) → TellsOnly (Switch a h on) a edits
switch_tells edits a h on =
    record { count = refl; others = λ b h. rw (other a b h) refl; seats = λ player. refl; added = λ b player. refl }

-- how the switches stand once the handle's is set
abbrev pub with_switch : History → (handle : ℕ) → Bool → History
with_switch told h on = record told { on = λ k. if k == h then on else told.on k }

pub switch_told : (edits : Edits) (a h : ℕ) (on : Bool)
    → history_of (Switch a h on ∷ edits) a ≡ with_switch (history_of edits a) h on
switch_told edits a h on =
    rw (same a)
    (ap (λ (f : ℕ → Bool). record (history_of edits a) { on = f })
    (fun_ext (λ (k : ℕ). newest_or (k == h) on true (filter_map (switch_in a k) edits))))

-- ---- a team

pub give_tells : (edits : Edits) (a team : ℕ) → TellsOnly (Give a team) a edits
give_tells edits a team =
    record { count = refl; others = λ b h. rw (other a b h) refl; seats = λ player. refl; added = λ b player. refl }

pub give_told : (edits : Edits) (a team : ℕ)
    → history_of (Give a team ∷ edits) a ≡ record (history_of edits a) { given = team }
give_told edits a team = rw (same a) refl

-- ---- a spawn

pub spawn_counts : (edits : Edits) (class : ℕ) (x y : ℤ) → spawn_count (Spawn class x y ∷ edits) ≡ spawn_count edits + 1
spawn_counts edits class x y =
    let more = sum_by-cons (λ (e : Edit). if is_spawn e then 1 else 0) (Spawn class x y) edits in omega (arith, more)

pub spawn_told : (edits : Edits) (class a : ℕ) (x y : ℤ)
    → history_of (Spawn class x y ∷ edits) a
    ≡ record (history_of edits a) {
      spawn = if a == 2 * (spawn_count edits + 1) then Some
          (record { class = class; x = x; y = y }) else spawn_of edits a;
    }
spawn_told edits class a x y = refl

-- ---- players

pub view_tells : (edits : Edits) (player : ℕ) (x y : ℤ) (a : ℕ) → history_of (View player x y ∷ edits) a ≡ history_of edits a
view_tells edits player x y a = refl

pub team_tells : (edits : Edits) (player team a : ℕ) → history_of (Team player team ∷ edits) a ≡ history_of edits a
team_tells edits player team a = refl

pub add_tells : (edits : Edits) (a player : ℕ) (on : Bool) (b : ℕ)
    → history_of (Add a player on ∷ edits) b ≡ history_of edits b
add_tells edits a player on b = refl
