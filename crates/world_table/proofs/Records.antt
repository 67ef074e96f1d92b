-- The records of actors by their guids.
use Rattle.std.proofs.Common.{◌≡◌, ◌≢◌, ◌∙◌, ℕ, ◌+◌, ◌*◌, ◌<◌, ◌≤◌, List, [], ◌∷◌, ◌++◌, length, Bool, true, false, ◌==◌, Option, Some, None, option_and_then, option_map, unwrap_or, refl, sym, ap, subst, arith, if◌then◌else◌}
use Rattle.std.specs.Prelude.{slice_get, slice_set, IsSome}
use Rattle.std.specs.Bool.{then_some}
use Rattle.std.proofs.lemmas.Bool.Decides.{nat_tests}
use Rattle.std.proofs.lemmas.Option.{slice_get_within}
use Rattle.world_table.specs.declared.actor.Actor.{Actor}
use Rattle.world_table.specs.Kept.{place_of, actor_at, if_living}
use Rattle.world_table.proofs.Numbers.{same_number, other_number}
use Rattle.world_table.proofs.Lists.{slice_get-set_same, slice_get-set_other, slice_get-append_end, slice_get-append_other, some_within}

-- a place is the one of the guid that is twice its number
pub guid_of_place : (a n : ℕ) → place_of a ≡ Some n → a ≡ 2 * (n + 1)
guid_of_place a n h = grind (arith, nat_tests)

pub place_of_guid : (n : ℕ) → place_of (2 * (n + 1)) ≡ Some n
place_of_guid n = grind (arith, nat_tests)

-- ---- a record that is put in the place of another

set_elsewhere : (actors : List Actor) (n : ℕ) (r : Actor) (o : Option ℕ) → ((m : ℕ) → o ≡ Some m → m ≢ n)
    → option_and_then (slice_get (slice_set actors n r)) o ≡ option_and_then (slice_get actors) o
set_elsewhere actors n r None h = refl
set_elsewhere actors n r (Some m) h = slice_get-set_other actors n m r (h m refl)

put_at : (t : Bool) (actors : List Actor) (a n b : ℕ) (r : Actor) → (b == a) ≡ t → place_of a ≡ Some n
    → n < length actors
    → actor_at (slice_set actors n r) b ≡ (if t then Some r else actor_at actors b)
put_at true actors a n b r e place h =
    ap (λ (c : ℕ). actor_at (slice_set actors n r) c) (same_number b a e)
    ∙ ap (option_and_then (slice_get (slice_set actors n r))) place ∙ slice_get-set_same actors n r h
put_at false actors a n b r e place h =
    set_elsewhere actors n r (place_of b)
    (λ m is same. other_number b a e
    (guid_of_place b m is ∙ ap (λ (k : ℕ). 2 * (k + 1)) same ∙ sym (guid_of_place a n place)))

pub put_each : (actors : List Actor) (a n b : ℕ) (r : Actor) → place_of a ≡ Some n → IsSome (actor_at actors a)
    → actor_at (slice_set actors n r) b ≡ (if b == a then Some r else actor_at actors b)
put_each actors a n b r place h =
    put_at (b == a) actors a n b r refl place
    (some_within actors n (subst (λ (o : Option ℕ). IsSome (option_and_then (slice_get actors) o)) place h))

-- ---- a record that is appended

-- the guid of each record is at most twice their number
pub guid_within : (actors : List Actor) (a : ℕ) (r : Actor) → actor_at actors a ≡ Some r → a ≤ 2 * length actors
guid_within actors a r h = of (place_of a) refl h
  where
    of : (o : Option ℕ) → place_of a ≡ o → option_and_then (slice_get actors) o ≡ Some r → a ≤ 2 * length actors
    of None e k = absurd (cc)
    of (Some n) e k = omega (arith, guid_of_place a n e, slice_get_within actors n r k)

push_elsewhere : (actors : List Actor) (r : Actor) (o : Option ℕ) → ((m : ℕ) → o ≡ Some m → m ≢ length actors)
    → option_and_then (slice_get (actors ++ r ∷ [])) o ≡ option_and_then (slice_get actors) o
push_elsewhere actors r None h = refl
push_elsewhere actors r (Some m) h = slice_get-append_other actors r m (h m refl)

push_at : (t : Bool) (actors : List Actor) (b : ℕ) (r : Actor) → (b == 2 * (length actors + 1)) ≡ t
    → actor_at (actors ++ r ∷ []) b ≡ (if t then Some r else actor_at actors b)
push_at true actors b r e =
    ap (actor_at (actors ++ r ∷ [])) (same_number b (2 * (length actors + 1)) e)
    ∙ ap (option_and_then (slice_get (actors ++ r ∷ []))) (place_of_guid (length actors))
    ∙ slice_get-append_end actors r
push_at false actors b r e =
    push_elsewhere actors r (place_of b)
    (λ m is same. other_number b (2 * (length actors + 1)) e (guid_of_place b m is ∙ ap (λ (k : ℕ). 2 * (k + 1)) same))

pub push_each : (actors : List Actor) (b : ℕ) (r : Actor)
    → actor_at (actors ++ r ∷ []) b ≡ (if b == 2 * (length actors + 1) then Some r else actor_at actors b)
push_each actors b r = push_at (b == 2 * (length actors + 1)) actors b r refl

-- ---- a record of a living actor

pub living_is : (o : Option Actor) (r : Actor) → option_and_then if_living o ≡ Some r
    → (o ≡ Some r) × (r.look.alive ≡ true)
living_is None r h = absurd (cc)
living_is (Some s) r h = of s.look.alive refl h
  where
    of : (t : Bool) → s.look.alive ≡ t → then_some t s ≡ Some r → (Some s ≡ Some r) × (r.look.alive ≡ true)
    of true e k = (
      k,
      ap (λ (o : Option Actor). unwrap_or (option_map (λ (q : Actor). q.look.alive) o) false) (sym k)
          ∙ e,
    )
    of false e k = absurd (cc)
