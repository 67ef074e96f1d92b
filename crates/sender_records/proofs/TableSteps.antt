-- Tables of handles: what a comparison makes of each handle.
use Rattle.std.proofs.Common.{◌≡◌, ◌≢◌, ℕ, zero, suc, ◌<◌, ◌≤◌, List, [], ◌∷◌, map, length, Bool, true, false, cond, ◌==◌, nat_lt, refl, sym, ap, ◌∙◌, subst, arith, Option, Some, None, ℤ}
use Rattle.std.proofs.lemmas.Bool.{false≢true, eqb-true, ltb-true, ltb-false}
use Rattle.std.proofs.lemmas.List.{get_or_past}
use Rattle.protocol_model.specs.Value.{Class, Pair, value_among}
use Rattle.change_model.specs.Changes.{Sample, changes_since}
use Rattle.value_codec.specs.declared.pair.Pair.{Pair as PairValue}
use Rattle.shadow_changes.specs.Samples.{change_value}
use Rattle.shadow_changes.specs.declared.change.Change.{Change}
use Rattle.connection_model.specs.Feed.{Past}
use Rattle.connection_model.specs.Carry.{is_due_pair}
use Rattle.sender_laws.specs.Values.{place_of, value_by, value_now, AreInTurn, IsCurrent}
use Rattle.sender_laws.proofs.Samples.{value_stays}
use Rattle.sender_records.specs.declared.handle.HandleRecord.{HandleRecord}
use Rattle.sender_records.specs.Handles.{no_handle, handle_in, by_value, pair_value, AllBelow, Agrees, KeepsHandle, handle_changed, handle_compared, names_change, newest_change, is_updatable_in}
use Rattle.sender_records.proofs.HandleSteps.{compared_keeps, marked_due, due_is}
use Rattle.sender_records.proofs.Changed.{current, unnamed_stays}

-- a handle that has a value is below what bounds all
pub value_below : (n : ℕ) (values : List PairValue) (h : ℕ) (v : ℤ) → AllBelow n values
    → value_among (map pair_value values) h ≡ Some v → h < n
value_below n [] h v all e = absurd (let no : (let o : Option ℤ = None in o) ≡ Some v = e in cc)
value_below n (p ∷ values) h v all e =
    by (p.prop == h) refl e (λ q. value_below n values h v (λ i x at. all (suc i) x at) q)
  where
    by : (b : Bool) → (p.prop == h) ≡ b
        → cond b (Some (pair_value p).value) (value_among (map pair_value values) h) ≡ Some v
        → (value_among (map pair_value values) h ≡ Some v → h < n) → h < n
    by true q e ih = (let low : p.prop < n = all zero p refl in omega (arith, eqb-true p.prop h q, low))
    by false q e ih = ih e

-- handle 0 is never updatable
pub updatable_some : (class : Class) (owns : Bool) (h : ℕ) → is_updatable_in class owns h ≡ true → 1 ≤ h
updatable_some class owns zero e = absurd (false≢true e)
updatable_some class owns (suc h) e = omega arith

-- a handle once it was marked where it changed, and compared
pub record ComparedAs (f : HandleRecord → ℤ → HandleRecord) (changes : List Change) (values : List PairValue) (h : ℕ)
    (k later : HandleRecord) : Type 0 where
  pub named : Bool
  pub names : (v : ℤ) → value_among (map pair_value values) h ≡ Some v → named ≡ names_change changes h
  pub is : later ≡ by_value f (handle_changed named k) (value_among (map pair_value values) h)

-- a handle is grown to, marked where it changed, and compared
pub compared_as : (f : HandleRecord → ℤ → HandleRecord) (grown marked final : List HandleRecord)
    (changes : List Change) (values : List PairValue) (h : ℕ) (k : HandleRecord)
    → handle_in grown h ≡ k → AllBelow (length grown) values → length marked ≡ length grown
    → (h < length grown → handle_in marked h ≡ handle_changed (names_change changes h) (handle_in grown h))
    → handle_in final h ≡ by_value f (handle_in marked h) (value_among (map pair_value values) h)
    → ComparedAs f changes values h k (handle_in final h)
compared_as f grown marked final changes values h k same room len marks compares = by (nat_lt h (length grown)) refl
  where
    by : (b : Bool) → nat_lt h (length grown) ≡ b → ComparedAs f changes values h k (handle_in final h)
    by true e = record {
      named = names_change changes h;
      names = λ v at. refl;
      is = compares ∙ ap (λ (x : HandleRecord). by_value f x (value_among (map pair_value values) h))
          (marks (ltb-true h (length grown) e) ∙ ap (handle_changed (names_change changes h)) same);
    }
    by false e =
        let over : length grown ≤ h = ltb-false h (length grown) e in
        let none : k ≡ no_handle = sym same ∙ get_or_past grown h no_handle over in
        record {
          named = false;
          names = λ v at. absurd (omega (arith, over, value_below (length grown) values h v room at));
          is = compares ∙ ap (λ (x : HandleRecord). by_value f x (value_among (map pair_value values) h))
              (get_or_past marked h no_handle (omega (arith, len, over)) ∙ ap (handle_changed false) (sym none));
        }

-- a comparison leaves the packet in which the handle went last
pub packet_stays : (last tick : ℕ) (updatable role : Bool) (changes : List Change) (values : List PairValue) (h : ℕ)
    (k later : HandleRecord) → ComparedAs (handle_compared last tick updatable role) changes values h k later
    → later.packet ≡ k.packet
packet_stays last tick updatable role changes values h k later c =
    ap (λ (x : HandleRecord). x.packet) c.is ∙ by updatable (value_among (map pair_value values) h)
  where
    by : (u : Bool) (o : Option ℤ)
        → (by_value (handle_compared last tick u role) (handle_changed c.named k) o).packet ≡ k.packet
    by u None = refl
    by true (Some v) = refl
    by false (Some v) = refl

-- the values that agree with the newest sample are those that were compared last
pub agreed_by : (samples : List Sample) (values : List Pair) (compared h : ℕ) → Agrees samples values
    → IsCurrent samples compared
    → (v : ℤ) → value_among values h ≡ Some v → h ≢ 3 → value_by samples compared (place_of h) ≡ Some v
agreed_by samples values compared h agrees now v e ne =
    let a = agrees h v e ne in
    sym (value_stays samples compared (place_of h) (now (place_of h) a.0)) ∙ a.1

module _ (past : Past) (samples : List Sample) (a compared last tick h : ℕ) (class : Class) (owns : Bool)
    (changes : List Change) (values : List PairValue) (k later : HandleRecord)
    (keeps : KeepsHandle past samples a compared last h k) (agrees : Agrees samples (map pair_value values))
    (is : map change_value changes ≡ changes_since samples compared)
    (c : ComparedAs (handle_compared last tick (is_updatable_in class owns h) (h == 3)) changes values h k later) where
  stays : (v : ℤ) → value_among (map pair_value values) h ≡ Some v → is_updatable_in class owns h ≡ true → h ≢ 3
      → c.named ≡ false
      → value_now samples (place_of h) ≡ value_by samples compared (place_of h)
  stays v e u ne unnamed =
      unnamed_stays samples compared h changes is (updatable_some class owns h u) ne (agrees h v e ne).0
      (sym (c.names v e) ∙ unnamed)

  pub table_compared : last < tick → AreInTurn samples
      → KeepsHandle past samples a (newest_change compared changes) tick h later
  table_compared newer turn =
      subst (KeepsHandle past samples a (newest_change compared changes) tick h) (sym c.is)
      (compared_keeps past samples a compared (newest_change compared changes) last tick h k c.named
      (is_updatable_in class owns h) (value_among (map pair_value values) h) keeps newer
      (λ v e ne. (agrees h v e ne).1) stays
      (λ v e ne. value_stays samples (newest_change compared changes) (place_of h)
      (current samples compared changes is turn (place_of h) (agrees h v e ne).0)))

  pub table_due : (v : ℤ) → value_among (map pair_value values) h ≡ Some v → is_updatable_in class owns h ≡ true
      → is_due_pair past a (record { handle = h; value = v }) ≡ later.marked
  table_due v e u =
      due_is past samples a compared last h k keeps v
      ∙ sym (marked_due past samples a compared last h k keeps c.named v (λ ne. (agrees h v e ne).1)
      (λ ne unnamed. stays v e u ne unnamed))
      ∙ ap (λ (b : Bool). (handle_compared last tick b (h == 3) (handle_changed c.named k) v).marked) (sym u)
      ∙ ap (λ (o : Option ℤ). (by_value (handle_compared last tick (is_updatable_in class owns h) (h == 3))
      (handle_changed c.named k) o).marked) (sym e)
      ∙ ap (λ (x : HandleRecord). x.marked) (sym c.is)
