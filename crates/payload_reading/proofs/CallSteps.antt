-- Reading a call step by step.
use Rattle.std.proofs.Common.{◌≡◌, ℕ, zero, suc, ◌-◌, ◌<◌, ◌≤◌, List, [], ◌∷◌, map, length, Bool, true, false, cond, not, ◌&&◌, Option, Some, None, option_map, unwrap_or, Ok, Err, refl, sym, ap, ◌∙◌, arith}
use Rattle.std.specs.Prelude.{slice_get}
use Rattle.std.specs.List.{list_all}
use Rattle.std.specs.Bool.{beq}
use Rattle.std.proofs.lemmas.Bool.{and_parts}
use Rattle.std.proofs.lemmas.Option.{slice_get-map}
use Rattle.protocol_model.specs.declared.Way.{Way}
use Rattle.protocol_model.specs.Reading.{Broken, ◌>>=◌, left, must}
use Rattle.protocol_model.specs.Value as Model
use Rattle.protocol_model.specs.Payload.{Calls}
use Rattle.table_model.specs.Facts.{is_type, is_call}
use Rattle.connection_model.specs.PayloadReading.{number_at, field, is_call_of, no_call, args_at, end_at, call_at_end}
use Rattle.class_layout.specs.Tables.{class_of}
use Rattle.class_members.specs.Members.{call_of}
use Rattle.class_members.specs.declared.members.Call.{Call}
use Rattle.class_layout.specs.declared.class.Class.{Class}
use Rattle.class_layout.specs.declared.class.Segment.{Segment}
use Rattle.payload_reading.specs.TableLimits.{HasTableLimits}
use Rattle.payload_reading.proofs.Stops.{StopsAs}

-- ---- the call of a number

way_as : (up : Bool) (way : Way) → Model.goes_up way ≡ up → cond up Model.goes_up Model.goes_down way ≡ true
way_as true way h = h
way_as false way h = rw h refl

not_way : (up : Bool) (way : Way) → cond up Model.goes_up Model.goes_down way ≡ true → Model.goes_up way ≡ up
not_way true way h = h
not_way false way h = by (Model.goes_up way) h
  where
    by : (b : Bool) → not b ≡ true → b ≡ false
    by true h = absurd (cc)
    by false h = refl

beq_same : (a b : Bool) → a ≡ b → beq a b ≡ true
beq_same true true h = refl
beq_same true false h = absurd (cc)
beq_same false true h = absurd (cc)
beq_same false false h = refl

beq_of : (a b : Bool) → beq a b ≡ true → a ≡ b
beq_of true true h = refl
beq_of true false h = absurd (cc)
beq_of false true h = absurd (cc)
beq_of false false h = refl

at_number : (segments : List Segment) (c : Class) (n : ℕ) → 1 ≤ n
    → Model.call_at (class_of segments c) n ≡ option_map call_of (slice_get c.calls (n - 1))
at_number segments c zero l = absurd (omega (arith, l))
at_number segments c (suc k) l =
    let index : k ≡ suc k - 1 = omega arith in slice_get-map call_of c.calls k
    ∙ ap (λ (i : ℕ). option_map call_of (slice_get c.calls i)) index

pub found_at : (segments : List Segment) (c : Class) (n : ℕ) (call : Call) → 1 ≤ n
    → slice_get c.calls (n - 1) ≡ Some call → Model.call_at (class_of segments c) n ≡ Some (call_of call)
found_at segments c n call l e = at_number segments c n l ∙ ap (option_map call_of) e

both : (a b : Bool) → a ≡ true → b ≡ true → (a && b) ≡ true
both a b h k = rw (h, k) refl

-- what is found is a call of the class
pub found_rule : (segments : List Segment) (c : Class) (n : ℕ) (up reliable : Bool) (call : Call) → 1 ≤ n
    → slice_get c.calls (n - 1) ≡ Some call → Model.goes_up call.way ≡ up → call.reliable ≡ reliable
    → is_call_of (class_of segments c) (cond up Model.goes_up Model.goes_down) reliable n ≡ true
found_rule segments c n up reliable call l e w r =
    ap (λ (o : Option Model.Call). unwrap_or (option_map
    (λ (call : Model.Call). cond up Model.goes_up Model.goes_down call.way && beq call.reliable reliable) o)
    false) (found_at segments c n call l e)
    ∙ both (cond up Model.goes_up Model.goes_down call.way) (beq call.reliable reliable)
    (way_as up call.way w) (beq_same call.reliable reliable r)

-- where none is found there is none
pub lost_rule : (segments : List Segment) (c : Class) (n : ℕ) (up reliable : Bool)
    → ((call : Call) → 1 ≤ n → slice_get c.calls (n - 1) ≡ Some call → Model.goes_up call.way ≡ up →
    call.reliable ≡ reliable → ⊥)
    → is_call_of (class_of segments c) (cond up Model.goes_up Model.goes_down) reliable n ≡ false
lost_rule segments c zero up reliable none = refl
lost_rule segments c (suc k) up reliable none =
    ap (λ (o : Option Model.Call). unwrap_or (option_map
    (λ (call : Model.Call). cond up Model.goes_up Model.goes_down call.way && beq call.reliable reliable) o)
    false) (slice_get-map call_of c.calls k)
    ∙ by (slice_get c.calls k) refl
  where
    index : suc k - 1 ≡ k
    index = omega arith

    low : 1 ≤ suc k
    low = omega arith

    test : (call : Call) (b : Bool)
        → (cond up Model.goes_up Model.goes_down call.way && beq call.reliable reliable) ≡ b
        → slice_get c.calls k ≡ Some call → b ≡ false
    test call false e s = refl
    test call true e s =
        absurd (none call low (ap (slice_get c.calls) index ∙ s) (not_way up call.way (and_parts _ _ e).0)
        (beq_of call.reliable reliable (and_parts _ _ e).1))

    by : (o : Option Call) → slice_get c.calls k ≡ o
        → unwrap_or (option_map (λ (call : Model.Call). cond up Model.goes_up Model.goes_down call.way && beq
        call.reliable reliable) (option_map call_of o)) false ≡ false
    by None e = refl
    by (Some call) e = test call _ refl e

-- ---- limits

all_at : (calls : List Call) (i : ℕ) (call : Call) → list_all is_call (map call_of calls) ≡ true
    → slice_get calls i ≡ Some call → is_call (call_of call) ≡ true
all_at [] i call h e = absurd (cc)
all_at (x ∷ calls) zero call h e =
    let same : x ≡ call = cc in ap (λ (c : Call). is_call (call_of c)) (sym same) ∙ (and_parts _ _ h).0
all_at (x ∷ calls) (suc i) call h e = all_at calls i call (and_parts _ _ h).1 e

pub args_readable : (c : Class) (i : ℕ) (call : Call) → HasTableLimits c → slice_get c.calls i ≡ Some call
    → list_all (is_type true) call.args ≡ true
args_readable c i call r e =
    (and_parts _ _ (and_parts _ _ (and_parts _ _ (all_at c.calls i call r.calls e)).0).0).1

pub within_list : {A : Type 0} (xs : List A) (i : ℕ) (x : A) → slice_get xs i ≡ Some x → i < length xs
within_list [] i x e = absurd (cc)
within_list (y ∷ xs) zero x e = omega arith
within_list (y ∷ xs) (suc i) x e = let h = within_list xs i x e in omega (arith, h)

-- ---- the steps

broken_field : (rule : ℕ → Bool) (bits : List Bool) (n : ℕ) (rest : List Bool) → number_at bits ≡ Ok (n, rest)
    → rule n ≡ false → field number_at rule bits ≡ Err (Broken (length bits) None)
broken_field rule bits n rest e h = rw (must, ◌>>=◌, left, e, h) refl

kept_field : (rule : ℕ → Bool) (bits : List Bool) (n : ℕ) (rest : List Bool) → number_at bits ≡ Ok (n, rest)
    → rule n ≡ true → field number_at rule bits ≡ Ok (n, rest)
kept_field rule bits n rest e h = rw (must, ◌>>=◌, left, e, h) refl

pub call_lost : (class : Model.Class) (actor : ℕ) (way : Way → Bool) (reliable : Bool) (bits : List Bool)
    (n : ℕ) (rest : List Bool)
    → number_at bits ≡ Ok (n, rest) → is_call_of class way reliable n ≡ false
    → call_at_end class actor way reliable bits ≡ Err (Broken (length bits) None)
call_lost class actor way reliable bits n rest e h =
    rw (◌>>=◌, broken_field (is_call_of class way reliable) bits n rest e h) refl

pub call_args_stop : (class : Model.Class) (actor : ℕ) (way : Way → Bool) (reliable : Bool) (bits : List Bool)
    (n : ℕ) (mid : List Bool) (call : Model.Call)
    → number_at bits ≡ Ok (n, mid) → is_call_of class way reliable n ≡ true
    → Model.call_at class n ≡ Some call
    → StopsAs (args_at call.args) mid (call_at_end class actor way reliable) bits
call_args_stop class actor way reliable bits n mid call e h at fault f =
    let args : args_at (unwrap_or (Model.call_at class n) no_call).args mid ≡ Err fault = ap
    (λ (o : Option Model.Call). args_at (unwrap_or o no_call).args mid) at
    ∙ f in
    rw (◌>>=◌, kept_field (is_call_of class way reliable) bits n mid e h, args) refl

pub call_end_stop : (class : Model.Class) (actor : ℕ) (way : Way → Bool) (reliable : Bool) (bits : List Bool)
    (n : ℕ) (mid : List Bool) (call : Model.Call) (args : List Model.Arg) (rest : List Bool)
    → number_at bits ≡ Ok (n, mid) → is_call_of class way reliable n ≡ true
    → Model.call_at class n ≡ Some call → args_at call.args mid ≡ Ok (args, rest)
    → StopsAs end_at rest (call_at_end class actor way reliable) bits
call_end_stop class actor way reliable bits n mid call args rest e h at f fault g =
    let read : args_at (unwrap_or (Model.call_at class n) no_call).args mid ≡ Ok (args, rest) = ap
    (λ (o : Option Model.Call). args_at (unwrap_or o no_call).args mid) at
    ∙ f in
    rw (◌>>=◌, kept_field (is_call_of class way reliable) bits n mid e h, read, g) refl

pub call_read : (class : Model.Class) (actor : ℕ) (way : Way → Bool) (reliable : Bool) (bits : List Bool)
    (n : ℕ) (mid : List Bool) (call : Model.Call) (args : List Model.Arg) (rest : List Bool) (k : ℕ)
    (last : List Bool)
    → number_at bits ≡ Ok (n, mid) → is_call_of class way reliable n ≡ true
    → Model.call_at class n ≡ Some call → args_at call.args mid ≡ Ok (args, rest) → end_at rest ≡ Ok (k, last)
    → call_at_end class actor way reliable bits ≡ Ok
    (Calls actor n (unwrap_or (Model.call_at class n) no_call) args, last)
call_read class actor way reliable bits n mid call args rest k last e h at f g =
    let read : args_at (unwrap_or (Model.call_at class n) no_call).args mid ≡ Ok (args, rest) = ap
    (λ (o : Option Model.Call). args_at (unwrap_or o no_call).args mid) at
    ∙ f in
    rw (◌>>=◌, kept_field (is_call_of class way reliable) bits n mid e h, read, g) refl
