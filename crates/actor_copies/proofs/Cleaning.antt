-- Where there is no copy nothing was applied: each payload leaves it so.
use Rattle.std.proofs.Common.{◌≡◌, ℕ, ◌==◌, List, [], ◌∷◌, Bool, true, false, cond, Option, Some, None, refl, sym, ap, ◌∙◌}
use Rattle.std.specs.Bool.{then_some}
use Rattle.std.proofs.lemmas.Bool.{eqb-true}
use Rattle.protocol_model.specs.Search.{newest_of, items_since}
use Rattle.protocol_model.specs.Value.{Class, value_among}
use Rattle.protocol_model.specs.Payload.{Message, Opens, Closes, Updates, Calls, Gone}
use Rattle.connection_model.specs.Feed.{Past, Delivered}
use Rattle.connection_model.specs.Copies.{delivered_of, removes, since_removed, class_opened, copy_class, value_applied}
use Rattle.connection_laws.proofs.Searches.{newest_hit, newest_miss}
use Rattle.payload_laws.specs.Applied.{Applied}
use Rattle.actor_copies.specs.Stands.{IsClean}

never : {A B : Type 0} (x : A) → None ≡ Some x → B
never x e = absurd (cc)

-- an update is read of an actor that has a copy
abbrev pub HasCopies : Past → Message → Type 0
HasCopies past (Updates actor class values) = (c : Class) × (copy_class past actor ≡ Some c)
HasCopies past (Opens exports actor class values) = Unit {0}
HasCopies past (Closes actor sleeps) = Unit {0}
HasCopies past (Calls actor number call args) = Unit {0}
HasCopies past (Gone actor) = Unit {0}

nothing_applied : (past : Past) (a h : ℕ) (d : Delivered) (m : Message) → d.message ≡ m → HasCopies past m
    → class_opened a d ≡ None → copy_class past a ≡ None → value_applied a h d ≡ None
nothing_applied past a h d (Opens exports actor class values) m has none lacks = rw m (by (actor == a) (rw m at none))
  where
    by : (b : Bool) → then_some b class ≡ None → cond b (value_among values h) None ≡ None
    by true e = never class (sym e)
    by false e = refl
nothing_applied past a h d (Updates actor class values) m has none lacks = rw m (by (actor == a) refl)
  where
    by : (b : Bool) → (actor == a) ≡ b → cond b (value_among values h) None ≡ None
    by true e = never has.0 (sym lacks ∙ ap (copy_class past) (sym (eqb-true actor a e)) ∙ has.1)
    by false e = refl
nothing_applied past a h d (Closes actor sleeps) m has none lacks = rw m refl
nothing_applied past a h d (Calls actor number call args) m has none lacks = rw m refl
nothing_applied past a h d (Gone actor) m has none lacks = rw m refl

pub clean_after : (past later : Past) (d : Delivered) → IsClean past → Applied past later d
    → HasCopies past d.message → IsClean later
clean_after past later d clean e has = record { none = λ a h lacks. by_removed a h (removes a d) refl lacks }
  where
    by_class : (a h : ℕ) (o : Option Class) → class_opened a d ≡ o
        → newest_of (class_opened a) (d ∷ since_removed past a) ≡ None
        → newest_of (value_applied a h) (d ∷ since_removed past a) ≡ None
    by_class a h (Some class) o lacks = never class
        (sym lacks ∙ newest_hit (class_opened a) d (since_removed past a) class o)
    by_class a h None o lacks =
        let before : copy_class past a ≡ None =
        sym (newest_miss (class_opened a) d (since_removed past a) o) ∙ lacks in
        newest_miss (value_applied a h) d (since_removed past a)
        (nothing_applied past a h d d.message refl has o before) ∙ clean.none a h before

    by_removed : (a h : ℕ) (b : Bool) → removes a d ≡ b → copy_class later a ≡ None
        → newest_of (value_applied a h) (since_removed later a) ≡ None
    by_removed a h true r lacks = ap (λ (ds : List Delivered). newest_of (value_applied a h)
        (items_since (removes a) ds)) e ∙ rw r refl
    by_removed a h false r lacks =
        let since : since_removed later a ≡ d ∷ since_removed past a = ap (items_since (removes a)) e ∙ rw r refl in
        ap (newest_of (value_applied a h)) since
        ∙ by_class a h (class_opened a d) refl (sym (ap (newest_of (class_opened a)) since) ∙ lacks)

-- before anything was done, and where nothing more was handed on
pub clean_first : IsClean []
clean_first = record { none = λ a h lacks. refl }

pub clean_still : (past later : Past) → delivered_of later ≡ delivered_of past → IsClean past → IsClean later
clean_still past later e clean = record {
  none = λ a h lacks.
      ap (λ (ds : List Delivered). newest_of (value_applied a h) (items_since (removes a) ds)) e
      ∙ clean.none a h (sym (ap (λ (ds : List Delivered). newest_of (class_opened a) (items_since (removes a) ds)) e)
      ∙ lacks);
}
