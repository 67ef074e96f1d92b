-- What is kept in memory, where an actor is destroyed.
use Rattle.std.proofs.Common.{◌≡◌, ℕ, zero, suc, ◌≤◌, List, [], ◌∷◌, map, length, refl, ap, arith, false, slice_set}
use Rattle.std.specs.Prelude.{slice_index_or}
use Rattle.protocol_model.specs.Value.{Table}
use Rattle.protocol_model.specs.World.{class_at}
use Rattle.script_reading.specs.Kept.{Kept, Actor, destroyed_at}
use Rattle.script_reading.specs.KeptIn.{actor_seen}
use Rattle.script_reading.specs.declared.known.Seen.{Seen}

pub destroyed_set : (table : Table) (xs : List Seen) (n : ℕ) (seen : Seen) → seen ≡ slice_index_or xs n seen
    → map (actor_seen table) (slice_set xs n (record { class = seen.class; alive = false }))
    ≡ destroyed_at n (map (actor_seen table) xs)
destroyed_set table [] n seen h = refl
destroyed_set table (x ∷ xs) zero seen h =
    ap (λ (s : Seen). record { class = class_at table s.class; alive = false } ∷ map (actor_seen table) xs) h
destroyed_set table (x ∷ xs) (suc n) seen h =
    ap (λ actors. actor_seen table x ∷ actors) (destroyed_set table xs n seen h)

pub destroyed_past : (table : Table) (xs : List Seen) (n : ℕ) → length xs ≤ n
    → map (actor_seen table) xs ≡ destroyed_at n (map (actor_seen table) xs)
destroyed_past table [] n h = refl
destroyed_past table (x ∷ xs) zero h = absurd (omega arith)
destroyed_past table (x ∷ xs) (suc n) h =
    ap (λ actors. actor_seen table x ∷ actors) (destroyed_past table xs n (omega arith))

-- these actors, and the players as they are
abbrev with_actors : List ℕ → List Actor → Kept
with_actors players actors = record { actors = actors; players = players }

pub kept_destroyed : (table : Table) (xs : List Seen) (players : List ℕ) (n : ℕ) (seen : Seen)
    → seen ≡ slice_index_or xs n seen
    → with_actors players (map (actor_seen table) (slice_set xs n (record { class = seen.class; alive = false })))
    ≡ with_actors players (destroyed_at n (map (actor_seen table) xs))
kept_destroyed table xs players n seen h = ap (with_actors players) (destroyed_set table xs n seen h)
