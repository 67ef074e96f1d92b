-- The built-in handles of an actor that stands so.
use Rattle.std.proofs.Common.{◌≡◌, ℕ, ◌++◌, ◌∷◌, [], List, Bool, Option, Some, None, refl, sym, ap}
use Rattle.std.specs.Prelude.{option_map, unwrap_or}
use Rattle.std.proofs.lemmas.Option.{none-some}
use Rattle.protocol_model.specs.Value.{Table, Prop, numbered_from}
use Rattle.protocol_model.specs.World.{Edits, Spawned, spawn_of, class_of, owns, value_of}
use Rattle.protocol_model.specs.Sight.{visible_pairs}
use Rattle.value_codec.specs.declared.value.Value.{Value}
use Rattle.value_codec.specs.declared.pair.Pair.{Pair as PairValue}
use Rattle.world_table.specs.declared.edit.Look.{Look}
use Rattle.world_table.specs.Answers.{look_of, spawned_look}
use Rattle.sender_records.specs.Handles.{pairs_of}
use Rattle.actor_sights.specs.Visible.{visible_among}

some_is : {A : Type 0} {x y : A} → Some x ≡ Some y → x ≡ y
some_is {A} {x} h = ap (λ o. unwrap_or o x) h

pub looks : (table : Table) (edits : Edits) (a : ℕ) (look : Look) → look_of table edits a ≡ Some look
    → (look.x ≡ value_of table edits a 1) × (look.y ≡ value_of table edits a 2)
looks table edits a look h = by (spawn_of edits a) h
  where
    by : (s : Option Spawned) → option_map (spawned_look table edits a) s ≡ Some look
        → (look.x ≡ value_of table edits a 1) × (look.y ≡ value_of table edits a 2)
    by None h = absurd (none-some look h)
    by (Some s) h = (ap (λ (l : Look). l.x) (sym (some_is h)), ap (λ (l : Look). l.y) (sym (some_is h)))

-- x, y and the role behind no pairs, and then the class's own
pub built_in_first : (table : Table) (edits : Edits) (player a : ℕ) (look : Look) (own : Bool) (props : List Prop)
    (none pairs : List PairValue)
    → look_of table edits a ≡ Some look → own ≡ owns edits player a → (class_of table edits a).props ≡ props
    → pairs_of none ≡ []
    → pairs ≡ none ++ record { prop = 1; value = Value.I32 look.x } ∷ record {
      prop = 2;
      value =
          Value.I32 look.y;
    } ∷ record { prop = 3; value = Value.Bool own } ∷ []
    → pairs_of pairs ++ visible_among table edits player a (numbered_from 4 props) ≡ visible_pairs table edits player a
built_in_first table edits player a look own props [] pairs h mine is e grown =
    rw grown (rw ((looks table edits a look h).0, (looks table edits a look h).1, mine, sym is) refl)
built_in_first table edits player a look own props (p ∷ none) pairs h mine is e grown = absurd (cc)
