-- What is gathered is the relevant actors, and the looks are as many as the actors listed.
use Rattle.std.proofs.Common.{◌≡◌, ◌∙◌, ℕ, ◌+◌, ◌*◌, ◌<◌, ◌≤◌, List, [], ◌∷◌, length, filter, Bool, true, false, ◌==◌, Option, Some, refl, sym, ap, subst, arith, if◌then◌else◌}
use Rattle.std.specs.Prelude.{Contains, ◌↔◌, is_some}
use Rattle.std.specs.List.Sorted.{IsStrictlyIncreasing}
use Rattle.std.proofs.lemmas.Bool.{and_parts}
use Rattle.std.proofs.lemmas.List.Sums.{length-filter}
use Rattle.protocol_model.specs.Sight.{is_relevant}
use Rattle.protocol_model.specs.Value.{Table}
use Rattle.protocol_model.specs.World.{Edits, Spawn, Destroy, Set, Own, View, Add, Dormant, Wake, Flush, Switch, Team, Give, Spawned, actors_of, lives, spawn_of, spawn_count}
use Rattle.graph_model.specs.Nodes.{Viewer, viewer_at}
use Rattle.graph_model.specs.Listed.{is_listed, listed_count}
use Rattle.actor_lists.specs.Shared.{count_of}
use Rattle.world_table.proofs.Numbers.{same_number}
use Rattle.world_table.proofs.Telling.{spawn_counts}
use Rattle.rep_graph.specs.Graph.{IsLawful}
use Rattle.rep_graph.proofs.Lawful.{was_spawned}
use Rattle.rep_graph.proofs.Listing.{IsListed, is_listed_if, listed_if}
use Rattle.rep_graph.proofs.Rising.{counted, contained, filter_passes, filter_keeps, filter_twice, rising_of, rising_filter, rising_actors, has_actor, same_lists}

-- ---- a spawned actor is one of the world's

spawned_if : {P : Type 0} (found : Bool) (s : Spawned) (o : Option Spawned) → (found ≡ true → P)
    → (is_some o ≡ true → P)
    → is_some (if found then Some s else o) ≡ true → P
spawned_if true s o here there h = here refl
spawned_if false s o here there h = there h

-- the number of a spawn
abbrev IsNumbered : Edits → (actor : ℕ) → Type 0
IsNumbered edits a = (k : ℕ) × (a ≡ 2 * k) × (1 ≤ k) × (k < 1 + spawn_count edits)

numbered : (edits : Edits) (a : ℕ) → is_some (spawn_of edits a) ≡ true → IsNumbered edits a
numbered [] a h = absurd (cc)
numbered (Spawn class x y ∷ edits) a h =
    let n = spawn_counts edits class x y in
    spawned_if {P = IsNumbered (Spawn class x y ∷ edits) a} (a == 2 * (spawn_count edits + 1))
    (record { class = class; x = x; y = y }) (spawn_of edits a)
    (λ e. (spawn_count edits + 1, same_number a (2 * (spawn_count edits + 1)) e, omega arith, omega arith))
    (λ e. let k = numbered edits a e in let m = k.3 in (k.0, k.1, k.2, omega arith)) h
numbered (Destroy b ∷ edits) a h = numbered edits a h
numbered (Set b k v ∷ edits) a h = numbered edits a h
numbered (Own b p ∷ edits) a h = numbered edits a h
numbered (View p x y ∷ edits) a h = numbered edits a h
numbered (Add b p on ∷ edits) a h = numbered edits a h
numbered (Dormant b ∷ edits) a h = numbered edits a h
numbered (Wake b ∷ edits) a h = numbered edits a h
numbered (Flush b ∷ edits) a h = numbered edits a h
numbered (Switch b k on ∷ edits) a h = numbered edits a h
numbered (Team p team ∷ edits) a h = numbered edits a h
numbered (Give b team ∷ edits) a h = numbered edits a h

is_actor : (edits : Edits) (a : ℕ) → is_some (spawn_of edits a) ≡ true → 0 < count_of a (actors_of edits)
is_actor edits a h =
    let k = numbered edits a h in
    subst (λ (n : ℕ). 0 < count_of n (actors_of edits)) (sym k.1) (has_actor 1 (spawn_count edits) k.0 k.2 k.3)

-- ---- what is listed and what is gathered

-- a rising list of exactly the actors that the nodes' rules give is those that are listed
pub listed_is : (table : Table) (edits : Edits) (player : ℕ) (v : Viewer) (actors : List ℕ)
    → v ≡ viewer_at edits player → IsLawful edits → IsStrictlyIncreasing actors
    → ((a : ℕ) → Contains actors a ↔ IsListed table edits v a)
    → actors ≡ filter (is_listed table edits player) (actors_of edits)
listed_is table edits player v actors view lawful rises tells =
    same_lists actors (filter (is_listed table edits player) (actors_of edits)) (rising_of actors rises)
    (rising_filter (is_listed table edits player) (actors_of edits) (rising_actors 1 (spawn_count edits)))
    (λ a some.
    let yes = is_listed_if table edits player a
    (subst (λ (w : Viewer). IsListed table edits w a) view ((tells a).0 (contained actors a some))) in
    filter_keeps (is_listed table edits player) (actors_of edits) a
    (is_actor edits a (was_spawned edits a (and_parts (lives edits a) _ yes).0)) yes)
    (λ a some.
    counted actors a ((tells a).1 (subst (λ (w : Viewer). IsListed table edits w a) (sym view)
    (listed_if table edits player a lawful
    (filter_passes (is_listed table edits player) (actors_of edits) a some)))))

-- of those that are listed the relevant ones are all that are relevant, where none is missed
pub gathered_is : (table : Table) (edits : Edits) (player asked : ℕ) (listed relevant : List ℕ)
    → ((a : ℕ) → is_relevant table edits player a ≡ true → is_listed table edits player a ≡ true)
    → listed ≡ filter (is_listed table edits player) (actors_of edits)
    → relevant ≡ filter (is_relevant table edits player) listed → player ≡ asked
    → relevant ≡ filter (is_relevant table edits asked) (actors_of edits)
gathered_is table edits player asked listed relevant misses listed_are relevant_are is =
    relevant_are
    ∙ ap (filter (is_relevant table edits player)) listed_are
    ∙ filter_twice (is_listed table edits player) (is_relevant table edits player) (actors_of edits) misses
    ∙ ap (λ (p : ℕ). filter (is_relevant table edits p) (actors_of edits)) is

pub listed_length : (table : Table) (edits : Edits) (player asked : ℕ) (listed : List ℕ)
    → listed ≡ filter (is_listed table edits player) (actors_of edits) → player ≡ asked
    → length listed ≡ listed_count table edits asked
listed_length table edits player asked listed are is =
    ap (λ (xs : List ℕ). length xs) are
    ∙ length-filter (is_listed table edits player) (actors_of edits)
    ∙ ap (λ (p : ℕ). listed_count table edits p) is
