-- Each actor that was spawned has a class of the table.
use Rattle.std.proofs.Common.{◌≡◌, ℕ, ◌+◌, ◌*◌, ◌<◌, ◌==◌, ◌∷◌, length, Bool, true, false, cond, not, ℤ, Option, Some, None, refl, sym, subst, if◌then◌else◌}
use Rattle.std.proofs.lemmas.Bool.{ltb-true}
use Rattle.std.proofs.lemmas.Option.{none-some, same_Some}
use Rattle.protocol_model.specs.Search.{or_else}
use Rattle.protocol_model.specs.Value.{Table}
use Rattle.protocol_model.specs.World.{Edit, Edits, EditRefusal, NoActor, OutOfRange, ActorsFull, Spawn, Destroy, Set, Own, View, Add, Dormant, Wake, Flush, Switch, Team, Give, Spawned, spawn_of, spawn_count, names_living, named_actor, is_in_range, is_past_last, refusal_of}
use Rattle.world_table.specs.Answers.{edit_of, refusal_in}
use Rattle.world_table.specs.declared.edit.Edit.{Edit as Given}
use Rattle.net_driver.specs.Serves.{AreThere}

first_none : (o p : Option EditRefusal) → or_else o p ≡ None → o ≡ None
first_none None p h = refl
first_none (Some r) p h = absurd (none-some r (sym h))

by_tests : (l r p : Bool)
    → (if not l then Some NoActor else if not r then Some OutOfRange else if p then Some ActorsFull else None) ≡ None
    → r ≡ true
by_tests true true p h = refl
by_tests true false p h = absurd (none-some OutOfRange (sym h))
by_tests false r p h = absurd (none-some NoActor (sym h))

in_range : (table : Table) (edits : Edits) (e : Given) → refusal_in table edits e ≡ None
    → is_in_range table edits (edit_of e) ≡ true
in_range table edits e h =
    by_tests (names_living edits (named_actor (edit_of e))) (is_in_range table edits (edit_of e))
    (is_past_last edits (edit_of e)) (first_none (refusal_of table edits (edit_of e)) _ h)

there_spawned : (table : Table) (edits : Edits) (class : ℕ) (x y : ℤ) → AreThere table edits → class < length table
    → AreThere table (Spawn class x y ∷ edits)
there_spawned table edits class x y h lt a spawned e = by (a == 2 * (spawn_count edits + 1)) e
  where
    by : (b : Bool) → cond b (Some (record { class = class; x = x; y = y })) (spawn_of edits a) ≡ Some spawned
        → spawned.class < length table
    by true e = subst (λ (s : Spawned). s.class < length table)
        (same_Some (record { class = class; x = x; y = y }) spawned e) lt
    by false e = h a spawned e

there_more : (table : Table) (edits : Edits) (edit : Edit) → AreThere table edits
    → is_in_range table edits edit ≡ true → AreThere table (edit ∷ edits)
there_more table edits (Spawn class x y) h r =
    there_spawned table edits class x y h (ltb-true class (length table) r)
there_more table edits (Destroy b) h r = h
there_more table edits (Set b k v) h r = h
there_more table edits (Own b p) h r = h
there_more table edits (View p x y) h r = h
there_more table edits (Add b p on) h r = h
there_more table edits (Dormant b) h r = h
there_more table edits (Wake b) h r = h
there_more table edits (Flush b) h r = h
there_more table edits (Switch b k on) h r = h
there_more table edits (Team p t) h r = h
there_more table edits (Give b t) h r = h

-- an edit that was taken leaves it so
pub there_edited : (table : Table) (edits : Edits) (e : Given) → AreThere table edits
    → refusal_in table edits e ≡ None → AreThere table (edit_of e ∷ edits)
there_edited table edits e h accepted = there_more table edits (edit_of e) h (in_range table edits e accepted)
