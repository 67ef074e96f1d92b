-- What accepted edits keep.
use Rattle.std.proofs.Common.{◌≡◌, ◌≢◌, ◌∙◌, ℕ, ℤ, ◌+◌, ◌*◌, ◌≤◌, ◌<◌, [], ◌∷◌, Bool, true, false, not, ◌&&◌, ◌||◌, ◌==◌, Option, Some, None, refl, sym, ap, arith, if◌then◌else◌}
use Rattle.std.specs.Prelude.{is_some}
use Rattle.std.specs.List.{filter_map}
use Rattle.std.proofs.lemmas.Bool.{and_parts}
use Rattle.std.proofs.lemmas.Bool.Decides.{nat_tests}
use Rattle.protocol_model.specs.Limits.{player_limit, spawn_limit}
use Rattle.protocol_model.specs.Search.{or_else}
use Rattle.protocol_model.specs.Value.{Table}
use Rattle.protocol_model.specs.World.{Edit, Edits, EditRefusal, NoActor, OutOfRange, ActorsFull, Spawn, Destroy, Set, Own, View, Add, Dormant, Wake, Flush, Switch, Team, Give, Spawned, spawn_of, spawn_count, lives, owner_of, owner_in, is_added, added_in, is_player, names_living, named_actor, is_in_range, is_past_last, refusal_of}
use Rattle.world_table.specs.Answers.{edit_of, refusal_in}
use Rattle.world_table.specs.Stands.{History, history_of, untold}
use Rattle.world_table.specs.declared.edit.Edit.{Edit as Given}
use Rattle.world_table.proofs.Numbers.{other, same_number}
use Rattle.world_table.proofs.Telling.{TellsOnly, newest_or, destroy_tells, set_tells, own_tells, dormant_tells, wake_tells, flush_tells, switch_tells, give_tells, spawn_counts}
use Rattle.rep_graph.specs.Graph.{IsLawful}

-- what holds of an edit that is accepted
pub record IsAccepted (table : Table) (edits : Edits) (e : Edit) : Type 0 where
  pub living : names_living edits (named_actor e) ≡ true
  pub range : is_in_range table edits e ≡ true
  pub room : is_past_last edits e ≡ false

first_none : (o p : Option EditRefusal) → or_else o p ≡ None → o ≡ None
first_none None p h = refl
first_none (Some r) p h = absurd (cc)

by_tests : (l r p : Bool)
    → (if not l then Some NoActor else if not r then Some OutOfRange else if p then Some ActorsFull else None) ≡ None
    → (l ≡ true) × (r ≡ true) × (p ≡ false)
by_tests true true false h = (refl, refl, refl)
by_tests true true true h = absurd (cc)
by_tests true false p h = absurd (cc)
by_tests false r p h = absurd (cc)

pub accepted : (table : Table) (edits : Edits) (e : Given) → refusal_in table edits e ≡ None
    → IsAccepted table edits (edit_of e)
accepted table edits e h =
    let t = by_tests (names_living edits (named_actor (edit_of e))) (is_in_range table edits (edit_of e))
    (is_past_last edits (edit_of e)) (first_none (refusal_of table edits (edit_of e)) _ h) in
    record { living = t.0; range = t.1; room = t.2 }

-- a living actor was spawned
pub was_spawned : (edits : Edits) (a : ℕ) → lives edits a ≡ true → is_some (spawn_of edits a) ≡ true
was_spawned edits a h = (and_parts (is_some (spawn_of edits a)) _ h).0

is_apart : (edits : Edits) (a b : ℕ) → is_some (spawn_of edits b) ≡ true → spawn_of edits a ≡ None → a ≢ b
is_apart edits a b some none e = let k : is_some (spawn_of edits b) ≡ false = rw (← e, none) refl in absurd (cc)

-- ---- an edit of one actor that was spawned

named : (edits : Edits) (e : Edit) (x : ℕ) → TellsOnly e x edits
    → ((a : ℕ) → spawn_of (e ∷ edits) a ≡ spawn_of edits a) → is_some (spawn_of edits x) ≡ true
    → ((a : ℕ) → owner_of (e ∷ edits) a ≤ player_limit) → IsLawful edits → IsLawful (e ∷ edits)
named edits e x tells spawns there owners lawful = record {
  fresh = λ a none.
      let before = sym (spawns a) ∙ none in
      tells.others a (is_apart edits a x there before) ∙ lawful.fresh a before;
  unadded = λ a p none. tells.added a p ∙ lawful.unadded a p (sym (spawns a) ∙ none);
  added = λ a p h. lawful.added a p (sym (tells.added a p) ∙ h);
  owners = owners;
  few = rw tells.count lawful.few;
}

-- ---- an owner

owner_least : (found : Bool) (x o : ℕ) → x ≤ player_limit → o ≤ player_limit → (if found then x else o) ≤ player_limit
owner_least true x o h k = h
owner_least false x o h k = k

own_owners : (edits : Edits) (x player a : ℕ) → (player == 0 || is_player player) ≡ true
    → owner_of edits a ≤ player_limit
    → owner_of (Own x player ∷ edits) a ≤ player_limit
own_owners edits x player a range before =
    let most : player ≤ player_limit = grind (arith, nat_tests) in
    rw (newest_or (a == x) player 0 (filter_map (owner_in a) edits))
    (owner_least (a == x) player (owner_of edits a) most before)

-- ---- a pair that is added

pub added_is : (edits : Edits) (x player : ℕ) (on : Bool) (a p : ℕ)
    → is_added (Add x player on ∷ edits) a p ≡ (if a == x && p == player then on else is_added edits a p)
added_is edits x player on a p = newest_or (a == x && p == player) on false (filter_map (added_in a p) edits)

add_unadded : (edits : Edits) (x player : ℕ) (on : Bool) (a p : ℕ) → a ≢ x → is_added edits a p ≡ false
    → is_added (Add x player on ∷ edits) a p ≡ false
add_unadded edits x player on a p apart before = rw (added_is edits x player on a p, other x a apart) before

add_added : (edits : Edits) (x player : ℕ) (on : Bool) (a p : ℕ) → is_player player ≡ true
    → (is_added edits a p ≡ true → is_player p ≡ true) → is_added (Add x player on ∷ edits) a p ≡ true
    → is_player p ≡ true
add_added edits x player on a p range before h =
    by_test (a == x && p == player) (is_added edits a p) refl before (sym (added_is edits x player on a p) ∙ h)
  where
    by_test : (t old : Bool) → (a == x && p == player) ≡ t → (old ≡ true → is_player p ≡ true)
        → (if t then on else old) ≡ true → is_player p ≡ true
    by_test true old e before h = let q : p ≡ player = grind (arith, nat_tests) in rw q range
    by_test false old e before h = before h

-- ---- a spawn

next_spawn : (edits : Edits) (class a : ℕ) (x y : ℤ) → spawn_of (Spawn class x y ∷ edits) a ≡ None
    → ((a == 2 * (spawn_count edits + 1)) ≡ false) × (spawn_of edits a ≡ None)
next_spawn edits class a x y h = by_test (a == 2 * (spawn_count edits + 1)) h
  where
    by_test : (t : Bool) → (if t then Some (record { class = class; x = x; y = y }) else spawn_of edits a) ≡ None
        → (t ≡ false) × (spawn_of edits a ≡ None)
    by_test true h = absurd (cc)
    by_test false h = (refl, h)

spawn_fresh : (edits : Edits) (class a : ℕ) (x y : ℤ) → IsLawful edits → spawn_of (Spawn class x y ∷ edits) a ≡ None
    → history_of (Spawn class x y ∷ edits) a ≡ untold
spawn_fresh edits class a x y lawful h =
    let n = next_spawn edits class a x y h in
    ap (λ (o : Option Spawned). record (history_of edits a) { spawn = o }) h
    ∙ ap (λ (t : History). record t { spawn = None }) (lawful.fresh a n.1)

spawn_few : (edits : Edits) (class : ℕ) (x y : ℤ) → is_past_last edits (Spawn class x y) ≡ false
    → spawn_count (Spawn class x y ∷ edits) ≤ spawn_limit
spawn_few edits class x y room =
    let n = spawn_counts edits class x y in
    let below : spawn_count edits < spawn_limit = grind (arith, nat_tests) in
    omega arith

-- ---- any accepted edit

more : (table : Table) (edits : Edits) (e : Edit) → IsAccepted table edits e → IsLawful edits → IsLawful (e ∷ edits)
more table edits (Spawn class x y) ok lawful = record {
  fresh = λ a none. spawn_fresh edits class a x y lawful none;
  unadded = λ a p none. lawful.unadded a p (next_spawn edits class a x y none).1;
  added = lawful.added;
  owners = lawful.owners;
  few = spawn_few edits class x y ok.room;
}
more table edits (Destroy a) ok lawful =
    named edits (Destroy a) a (destroy_tells edits a) (λ b. refl) (was_spawned edits a ok.living) lawful.owners lawful
more table edits (Set a h v) ok lawful =
    named edits (Set a h v) a (set_tells edits a h v) (λ b. refl) (was_spawned edits a ok.living) lawful.owners lawful
more table edits (Own a player) ok lawful =
    named edits (Own a player) a (own_tells edits a player) (λ b. refl) (was_spawned edits a ok.living)
    (λ b. own_owners edits a player b ok.range (lawful.owners b)) lawful
more table edits (View player x y) ok lawful = record {
  fresh = lawful.fresh;
  unadded = lawful.unadded;
  added = lawful.added;
  owners = lawful.owners;
  few = lawful.few;
}
more table edits (Add a player on) ok lawful = record {
  fresh = lawful.fresh;
  unadded = λ b p none. add_unadded edits a player on b p
      (is_apart edits b a (was_spawned edits a ok.living) none) (lawful.unadded b p none);
  added = λ b p h. add_added edits a player on b p ok.range (lawful.added b p) h;
  owners = lawful.owners;
  few = lawful.few;
}
more table edits (Dormant a) ok lawful =
    named edits (Dormant a) a (dormant_tells edits a) (λ b. refl) (was_spawned edits a ok.living) lawful.owners lawful
more table edits (Wake a) ok lawful =
    named edits (Wake a) a (wake_tells edits a) (λ b. refl) (was_spawned edits a ok.living) lawful.owners lawful
more table edits (Flush a) ok lawful =
    named edits (Flush a) a (flush_tells edits a) (λ b. refl) (was_spawned edits a ok.living) lawful.owners lawful
more table edits (Switch a h on) ok lawful =
    named edits (Switch a h on) a (switch_tells edits a h on) (λ b. refl) (was_spawned edits a ok.living)
    lawful.owners lawful
more table edits (Team player team) ok lawful = record {
  fresh = lawful.fresh;
  unadded = lawful.unadded;
  added = lawful.added;
  owners = lawful.owners;
  few = lawful.few;
}
more table edits (Give a team) ok lawful =
    named edits (Give a team) a (give_tells edits a team) (λ b. refl) (was_spawned edits a ok.living)
    lawful.owners lawful

pub lawful_more : (table : Table) (edits : Edits) (e : Given) → refusal_in table edits e ≡ None → IsLawful edits
    → IsLawful (edit_of e ∷ edits)
lawful_more table edits e h lawful = more table edits (edit_of e) (accepted table edits e h) lawful

-- ---- the guid of the next actor is free

spawned_at : (found : Bool) (s : Spawned) (o : Option Spawned) (P : Type 0) → (found ≡ true → P)
    → (is_some o ≡ true → P)
    → is_some (if found then Some s else o) ≡ true → P
spawned_at true s o P here there h = here refl
spawned_at false s o P here there h = there h

below_count : (edits : Edits) (a : ℕ) → is_some (spawn_of edits a) ≡ true → a ≤ 2 * spawn_count edits
below_count [] a h = absurd (cc)
below_count (Spawn class x y ∷ edits) a h =
    let n = spawn_counts edits class x y in
    spawned_at (a == 2 * (spawn_count edits + 1)) (record { class = class; x = x; y = y }) (spawn_of edits a)
    (a ≤ 2 * spawn_count (Spawn class x y ∷ edits))
    (λ e. let k = same_number a (2 * (spawn_count edits + 1)) e in omega arith)
    (λ e. let k = below_count edits a e in omega arith) h
below_count (Destroy b ∷ edits) a h = below_count edits a h
below_count (Set b k v ∷ edits) a h = below_count edits a h
below_count (Own b p ∷ edits) a h = below_count edits a h
below_count (View p x y ∷ edits) a h = below_count edits a h
below_count (Add b p on ∷ edits) a h = below_count edits a h
below_count (Dormant b ∷ edits) a h = below_count edits a h
below_count (Wake b ∷ edits) a h = below_count edits a h
below_count (Flush b ∷ edits) a h = below_count edits a h
below_count (Switch b k on ∷ edits) a h = below_count edits a h
below_count (Team p team ∷ edits) a h = below_count edits a h
below_count (Give b team ∷ edits) a h = below_count edits a h

none_or : (o : Option Spawned) → (is_some o ≡ true → ⊥) → o ≡ None
none_or None h = refl
none_or (Some s) h = absurd (h refl)

pub next_free : (edits : Edits) → spawn_of edits (2 * (spawn_count edits + 1)) ≡ None
next_free edits = none_or (spawn_of edits (2 * (spawn_count edits + 1)))
    (λ h. let k = below_count edits (2 * (spawn_count edits + 1)) h in omega arith)
