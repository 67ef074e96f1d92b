-- Each entry of a sight can be spelled.
use Rattle.std.proofs.Common.{◌≡◌, ℕ, ℤ, zero, suc, ◌<◌, ◌≤◌, ◌+◌, ◌*◌, ◌==◌, List, [], ◌∷◌, Bool, true, false, not, ◌&&◌, cond, nat_le, Option, Some, None, slice_get, filter, map, refl, sym, ap, ◌∙◌, subst, arith, length}
use Rattle.std.specs.List.{filter_map, cons_option, range_with_len}
use Rattle.std.proofs.lemmas.Bool.Decides.{nat_tests}
use Rattle.std.proofs.lemmas.Bool.{ltb-true}
use Rattle.protocol_model.specs.Search.{is_among}
use Rattle.protocol_model.specs.Value.{Class, Table, Pair}
use Rattle.protocol_model.specs.World.{Edits, Spawn, Destroy, Set, Own, View, Add, Dormant, Wake, Flush, Switch, Team, Give, Spawned, spawn_count, spawn_of, actors_of, class_at, class_in, class_of, lives}
use Rattle.protocol_model.specs.Sight.{Seen, seen_of, destroyed_of, entry_of, is_relevant, sight}
use Rattle.table_model.specs.Facts.{IsTable}
use Rattle.table_model.specs.Rules.{Entry}
use Rattle.table_model.specs.Grammar.{table_of}
use Rattle.connection_model.specs.Feed.{Past}
use Rattle.connection_model.specs.Carry.{is_updatable, updatable_pairs, is_due_pair, due_pairs}
use Rattle.payload_laws.specs.Limits.{HasLimits, IsActor, AreValues}
use Rattle.payload_laws.specs.Accepted.{AreAccepted, StandsIn, IsShown}
use Rattle.payload_laws.proofs.WorldValues.{same_some, taken, count_more, count_other}
use Rattle.payload_laws.proofs.SightValues.{actor_sound, visible_fit}

-- ---- some of the values

-- values above a handle are above each lower one
lower_fits : (class : Class) (last h : ℕ) (values : List Pair) → last ≤ h → AreValues class h values → AreValues class last values
lower_fits class last h [] l v = tt
lower_fits class last h (p ∷ pairs) l v = let above = v.0 in (omega (arith, l, above), v.1, v.2, v.3)

-- a filter keeps values that ascend and fit
filter_fits : (class : Class) (last : ℕ) (test : Pair → Bool) (values : List Pair) → AreValues class last values → AreValues class last (filter test values)
filter_fits class last test [] v = tt
filter_fits class last test (p ∷ pairs) v = by_test (test p) (filter_fits class p.handle test pairs v.3)
  where
    by_test : (t : Bool) → AreValues class p.handle (filter test pairs) → AreValues class last (cond t (p ∷ filter test pairs) (filter test pairs))
    by_test true later = (v.0, v.1, v.2, later)
    by_test false later = let above = v.0 in lower_fits class last p.handle (filter test pairs) (omega (arith, above)) later

-- the due handles with their values
pub due_fit : (past : Past) (seen : Seen) → AreValues seen.class 0 seen.values → AreValues seen.class 0 (due_pairs past seen)
due_fit past seen v = filter_fits seen.class 0 (is_due_pair past seen.actor) (updatable_pairs seen) (filter_fits seen.class 0 (is_updatable seen) seen.values v)

-- ---- spawned actors

few_by : (b : Bool) (n : ℕ) → (true && nat_le 8192 n) ≡ false → n < 8192
few_by b n h = grind (arith, nat_tests)

-- at most 8,192 actors are spawned
pub spawns_few : (table : Table) (edits : Edits) → AreAccepted table edits → spawn_count edits ≤ 8192
spawns_few table [] ok = omega arith
spawns_few table (Spawn class x y ∷ edits) ok =
    let before : spawn_count edits < 8192 = few_by true (spawn_count edits) (taken table edits (Spawn class x y) ok.0).few in
    omega (arith, before, count_more class x y edits)
spawns_few table (Destroy b ∷ edits) ok = omega (arith, spawns_few table edits ok.2, count_other (Destroy b) edits refl)
spawns_few table (Set b k v ∷ edits) ok = omega (arith, spawns_few table edits ok.2, count_other (Set b k v) edits refl)
spawns_few table (Own b p ∷ edits) ok = omega (arith, spawns_few table edits ok.2, count_other (Own b p) edits refl)
spawns_few table (View p x y ∷ edits) ok = omega (arith, spawns_few table edits ok.2, count_other (View p x y) edits refl)
spawns_few table (Add b p on ∷ edits) ok = omega (arith, spawns_few table edits ok.2, count_other (Add b p on) edits refl)
spawns_few table (Dormant b ∷ edits) ok = omega (arith, spawns_few table edits ok.2, count_other (Dormant b) edits refl)
spawns_few table (Wake b ∷ edits) ok = omega (arith, spawns_few table edits ok.2, count_other (Wake b) edits refl)
spawns_few table (Flush b ∷ edits) ok = omega (arith, spawns_few table edits ok.2, count_other (Flush b) edits refl)
spawns_few table (Switch b k on ∷ edits) ok = omega (arith, spawns_few table edits ok.2, count_other (Switch b k on) edits refl)
spawns_few table (Team p t ∷ edits) ok = omega (arith, spawns_few table edits ok.2, count_other (Team p t) edits refl)
spawns_few table (Give b t ∷ edits) ok = omega (arith, spawns_few table edits ok.2, count_other (Give b t) edits refl)

-- an actor that was spawned, of a class of the table
pub record Spawns (table : Table) (edits : Edits) (a : ℕ) : Type 0 where
  pub spawned : Spawned
  pub is : spawn_of edits a ≡ Some spawned
  pub class_there : spawned.class < length table

spawns_here : (table : Table) (edits : Edits) (k class : ℕ) (x y : ℤ) (t : Bool) → (2 * k == 2 * (spawn_count edits + 1)) ≡ t → class < length table → k ≤ spawn_count edits + 1 → (k ≤ spawn_count edits → Spawns table edits (2 * k)) → Spawns table (Spawn class x y ∷ edits) (2 * k)
spawns_here table edits k class x y true e there most later = record { spawned = record { class = class; x = x; y = y }; is = rw e refl; class_there = there }
spawns_here table edits k class x y false e there most later =
    let less : k ≤ spawn_count edits = below k (spawn_count edits) most e in
    let s = later less in
    record { spawned = s.spawned; is = rw e s.is; class_there = s.class_there }
  where
    below : (k n : ℕ) → k ≤ n + 1 → (2 * k == 2 * (n + 1)) ≡ false → k ≤ n
    below k n m e = grind (arith, nat_tests)

-- each actor up to the count was spawned
spawns : (table : Table) (edits : Edits) (k : ℕ) → AreAccepted table edits → 1 ≤ k → k ≤ spawn_count edits → Spawns table edits (2 * k)
spawns table [] k ok one most = absurd (omega (arith, one, most))
spawns table (Spawn class x y ∷ edits) k ok one most =
    spawns_here table edits k class x y (2 * k == 2 * (spawn_count edits + 1)) refl (ltb-true class (length table) (taken table edits (Spawn class x y) ok.0).range) (omega (arith, most, count_more class x y edits)) (λ less. spawns table edits k ok.2 one less)
spawns table (Destroy b ∷ edits) k ok one most = let s = spawns table edits k ok.2 one (omega (arith, most, count_other (Destroy b) edits refl)) in record { spawned = s.spawned; is = s.is; class_there = s.class_there }
spawns table (Set b h v ∷ edits) k ok one most = let s = spawns table edits k ok.2 one (omega (arith, most, count_other (Set b h v) edits refl)) in record { spawned = s.spawned; is = s.is; class_there = s.class_there }
spawns table (Own b p ∷ edits) k ok one most = let s = spawns table edits k ok.2 one (omega (arith, most, count_other (Own b p) edits refl)) in record { spawned = s.spawned; is = s.is; class_there = s.class_there }
spawns table (View p x y ∷ edits) k ok one most = let s = spawns table edits k ok.2 one (omega (arith, most, count_other (View p x y) edits refl)) in record { spawned = s.spawned; is = s.is; class_there = s.class_there }
spawns table (Add b p on ∷ edits) k ok one most = let s = spawns table edits k ok.2 one (omega (arith, most, count_other (Add b p on) edits refl)) in record { spawned = s.spawned; is = s.is; class_there = s.class_there }
spawns table (Dormant b ∷ edits) k ok one most = let s = spawns table edits k ok.2 one (omega (arith, most, count_other (Dormant b) edits refl)) in record { spawned = s.spawned; is = s.is; class_there = s.class_there }
spawns table (Wake b ∷ edits) k ok one most = let s = spawns table edits k ok.2 one (omega (arith, most, count_other (Wake b) edits refl)) in record { spawned = s.spawned; is = s.is; class_there = s.class_there }
spawns table (Flush b ∷ edits) k ok one most = let s = spawns table edits k ok.2 one (omega (arith, most, count_other (Flush b) edits refl)) in record { spawned = s.spawned; is = s.is; class_there = s.class_there }
spawns table (Switch b h on ∷ edits) k ok one most = let s = spawns table edits k ok.2 one (omega (arith, most, count_other (Switch b h on) edits refl)) in record { spawned = s.spawned; is = s.is; class_there = s.class_there }
spawns table (Team p t ∷ edits) k ok one most = let s = spawns table edits k ok.2 one (omega (arith, most, count_other (Team p t) edits refl)) in record { spawned = s.spawned; is = s.is; class_there = s.class_there }
spawns table (Give b t ∷ edits) k ok one most = let s = spawns table edits k ok.2 one (omega (arith, most, count_other (Give b t) edits refl)) in record { spawned = s.spawned; is = s.is; class_there = s.class_there }

-- a class of the table stands in it
class_stands : (entries : List Entry) (n : ℕ) → n < length (table_of entries) → StandsIn entries (class_at (table_of entries) n)
class_stands [] n h = absurd (omega (arith, h))
class_stands (e ∷ entries) zero h = ([], e, entries, refl, refl)
class_stands (e ∷ entries) (suc n) h = let s = class_stands entries n (omega (arith, h)) in (e ∷ s.0, s.1, s.2, ap (λ (xs : List Entry). e ∷ xs) s.3, s.4)

-- ---- a sight

-- where an item that is found comes from
pub record From {A B : Type 0} (f : A → Option B) (xs : List A) (y : B) : Type 0 where
  pub place : ℕ
  pub item : A
  pub there : slice_get xs place ≡ Some item
  pub gives : f item ≡ Some y

from_where : {A B : Type 0} (f : A → Option B) (x : A) (xs : List A) (n : ℕ) (y : B) (o : Option B) → f x ≡ o → ((m : ℕ) → slice_get (filter_map f xs) m ≡ Some y → From f xs y) → slice_get (cons_option o (filter_map f xs)) n ≡ Some y → From f (x ∷ xs) y
from_where f x xs n y None e later h = let r = later n h in record { place = suc r.place; item = r.item; there = r.there; gives = r.gives }
from_where f x xs zero y (Some z) e later h = record { place = 0; item = x; there = refl; gives = e ∙ h }
from_where f x xs (suc n) y (Some z) e later h = let r = later n h in record { place = suc r.place; item = r.item; there = r.there; gives = r.gives }

-- an item of a filtered list comes from one of the list
pub from : {A B : Type 0} (f : A → Option B) (xs : List A) (n : ℕ) (y : B) → slice_get (filter_map f xs) n ≡ Some y → From f xs y
from f [] n y h = absurd (cc)
from f (x ∷ xs) n y h = from_where f x xs n y (f x) refl (λ m k. from f xs m y k) h

-- an actor's number among those spawned
pub record Numbered (a low many : ℕ) : Type 0 where
  pub number : ℕ
  pub is : a ≡ 2 * number
  pub least : low ≤ number
  pub most : number < low + many

-- an actor's guid among those spawned is twice its number
pub numbered : (a low many n : ℕ) → slice_get (map (λ n. 2 * n) (range_with_len low many)) n ≡ Some a → Numbered a low many
numbered a low zero n h = absurd (cc)
numbered a low (suc many) zero h = record { number = low; is = sym (same_some (2 * low) a h); least = omega arith; most = omega arith }
numbered a low (suc many) (suc n) h =
    let r = numbered a (low + 1) many n h in
    let least = r.least in
    let most = r.most in
    record { number = r.number; is = r.is; least = omega (arith, least); most = omega (arith, most) }

-- what every entry of a sight keeps
pub record CanSpell (entries : List Entry) (seen : Seen) : Type 0 where
  pub actor : IsActor seen.actor
  pub limits : HasLimits seen.class
  pub stands : StandsIn entries seen.class
  pub all_fit : AreValues seen.class 0 seen.values

-- so does the class of a spawned actor
stands_of : (entries : List Entry) (edits : Edits) (a : ℕ) → Spawns (table_of entries) edits a → StandsIn entries (class_of (table_of entries) edits a)
stands_of entries edits a s =
    let there = class_stands entries s.spawned.class s.class_there in
    (there.0, there.1, there.2, there.3, there.4 ∙ ap (λ (o : Option Spawned). class_in (table_of entries) o) (sym s.is))

entry_by : (entries : List Entry) (edits : Edits) (player a : ℕ) (seen : Seen) (r d : Bool) → IsTable entries → AreAccepted (table_of entries) edits → IsActor a → Spawns (table_of entries) edits a
    → cond r (Some (seen_of (table_of entries) edits player a)) (cond d (Some (destroyed_of (table_of entries) edits a)) None) ≡ Some seen → CanSpell entries seen
entry_by entries edits player a seen true d is ok actor s h =
    let here : CanSpell entries (seen_of (table_of entries) edits player a) = record {
      actor = actor;
      limits = (actor_sound entries edits a is).limits;
      stands = stands_of entries edits a s;
      all_fit = visible_fit entries edits player a s.spawned is ok s.is;
    } in
    subst (λ (x : Seen). CanSpell entries x) (same_some _ seen h) here
entry_by entries edits player a seen false true is ok actor s h =
    let here : CanSpell entries (destroyed_of (table_of entries) edits a) = record {
      actor = actor;
      limits = (actor_sound entries edits a is).limits;
      stands = stands_of entries edits a s;
      all_fit = tt;
    } in
    subst (λ (x : Seen). CanSpell entries x) (same_some _ seen h) here
entry_by entries edits player a seen false false is ok actor s h = absurd (cc)

-- each entry of a sight can be spelled
pub sight_spells : (entries : List Entry) (edits : Edits) (player : ℕ) (earlier : List ℕ) (n : ℕ) (seen : Seen) → IsTable entries → AreAccepted (table_of entries) edits → slice_get (sight (table_of entries) edits player earlier) n ≡ Some seen → CanSpell entries seen
sight_spells entries edits player earlier n seen is ok h =
    let table : Table = table_of entries in
    let r = from (entry_of table edits player earlier) (actors_of edits) n seen h in
    let k = numbered r.item 1 (spawn_count edits) r.place r.there in
    let is_twice = k.is in
    let least = k.least in
    let most = k.most in
    let few = spawns_few table edits ok in
    let actor : IsActor r.item = record { even = omega (arith, is_twice); least = omega (arith, is_twice, least); below = omega (arith, is_twice, most, few) } in
    let s : Spawns table edits r.item = subst (λ (a : ℕ). Spawns table edits a) (sym k.is) (spawns table edits k.number ok least (omega (arith, most))) in
    entry_by entries edits player r.item seen (is_relevant table edits player r.item) (not (lives edits r.item) && is_among r.item earlier) is ok actor s r.gives

-- so can what is shown
pub shown_spells : (entries : List Entry) (edits : Edits) (player : ℕ) (seen : Seen) → IsShown entries edits player seen → CanSpell entries seen
shown_spells entries edits player seen h = sight_spells entries edits player h.earlier h.place seen h.is_table h.accepted h.there
