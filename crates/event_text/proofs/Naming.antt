-- Names of the class at a place of the table.
use Rattle.std.proofs.Common.{◌≡◌, ℕ, zero, suc, ◌-◌, List, [], ◌∷◌, map, true, false, nat_le, nat_eq, Option, Some, None, option_map, unwrap_or, refl, sym, arith}
use Rattle.std.specs.Prelude.{slice_get, slice_index_or}
use Rattle.std.specs.Borrow.{Bor}
use Rattle.std.specs.Option.{option_copied}
use Rattle.std.proofs.lemmas.Bool.Decides.{nat_tests}
use Rattle.protocol_model.specs.Value as Model
use Rattle.protocol_model.specs.World.{class_at, no_class}
use Rattle.table_model.specs.Rules.{Entry}
use Rattle.class_members.specs.Members.{prop_of, call_of}
use Rattle.class_members.specs.declared.members.Prop.{Prop}
use Rattle.class_members.specs.declared.members.Call.{Call}
use Rattle.class_layout.specs.Tables.{Layout, class_of, entry_of, table_in}
use Rattle.class_layout.specs.declared.class.Class.{Class}
use Rattle.class_layout.specs.declared.class.Segment.{Segment}
use Rattle.class_layout.proofs.InMemory.{class_in_memory}
use Rattle.script_lines.specs.ReportOf.{handle_name, call_name}
use Rattle.event_text.specs.Found.{called_at, class_name, prop_name, own_name, called_name}

-- the class that was found; one that the table hasn't is no class
abbrev pub found_class : List Segment → Option (Bor Class) → Model.Class
found_class segments None = no_class
found_class segments (Some c) = class_of segments c.now

none-there : (segments : List Segment) (classes : List Class) (n : ℕ) → slice_get classes n ≡ None
    → slice_index_or (map (λ (e : Entry). e.class) (map (entry_of segments) classes)) n no_class ≡ no_class
none-there segments [] n h = refl
none-there segments (c ∷ classes) zero h = absurd cc
none-there segments (c ∷ classes) (suc n) h = none-there segments classes n h

-- the class that is found is the table's
pub found-is : (layout : Layout) (n : ℕ) (o : Option (Bor Class)) → option_copied o ≡ slice_get layout.classes n
    → found_class layout.segments o ≡ class_at (table_in layout) n
found-is layout n None h = sym (none-there layout.segments layout.classes n (sym h))
found-is layout n (Some c) h = sym (class_in_memory layout.segments layout.classes n c.now (sym h))

-- its name
pub class-named : (segments : List Segment) (o : Option (Bor Class)) → class_name o ≡ (found_class segments o).name
class-named segments None = refl
class-named segments (Some c) = refl

own-named : (props : List Prop) (k : ℕ)
    → unwrap_or (option_map (λ (p : Model.Prop). p.name) (slice_get (map prop_of props) k)) []
    ≡ prop_name (slice_get props k)
own-named [] k = refl
own-named (p ∷ props) zero = refl
own-named (p ∷ props) (suc k) = own-named props k

call-named : (calls : List Call) (k : ℕ)
    → unwrap_or (option_map (λ (c : Model.Call). c.name) (slice_get (map call_of calls) k)) []
    ≡ called_name (slice_get calls k)
call-named [] k = refl
call-named (c ∷ calls) zero = refl
call-named (c ∷ calls) (suc k) = call-named calls k

-- the name of a handle
pub handle-named : (segments : List Segment) (o : Option (Bor Class)) (h : ℕ)
    → own_name o h ≡ handle_name (found_class segments o) h
handle-named segments None zero = refl
handle-named segments (Some c) zero = refl
handle-named segments None (suc zero) = refl
handle-named segments (Some c) (suc zero) = refl
handle-named segments None (suc (suc zero)) = refl
handle-named segments (Some c) (suc (suc zero)) = refl
handle-named segments None (suc (suc (suc zero))) = refl
handle-named segments (Some c) (suc (suc (suc zero))) = refl
handle-named segments None (suc (suc (suc (suc k)))) =
    let one : nat_eq (suc (suc (suc (suc k)))) 1 ≡ false = grind (arith, nat_tests) in
    let two : nat_eq (suc (suc (suc (suc k)))) 2 ≡ false = grind (arith, nat_tests) in
    let three : nat_eq (suc (suc (suc (suc k)))) 3 ≡ false = grind (arith, nat_tests) in
    let le : nat_le 4 (suc (suc (suc (suc k)))) ≡ true = grind (arith, nat_tests) in rw (one, two, three, le) refl
handle-named segments (Some c) (suc (suc (suc (suc k)))) =
    let one : nat_eq (suc (suc (suc (suc k)))) 1 ≡ false = grind (arith, nat_tests) in
    let two : nat_eq (suc (suc (suc (suc k)))) 2 ≡ false = grind (arith, nat_tests) in
    let three : nat_eq (suc (suc (suc (suc k)))) 3 ≡ false = grind (arith, nat_tests) in
    let le : nat_le 4 (suc (suc (suc (suc k)))) ≡ true = grind (arith, nat_tests) in
    let index : suc (suc (suc (suc k))) - 4 ≡ k = omega arith in
    rw (one, two, three, le, index) (sym (own-named c.now.props k))

-- the name of a call
pub number-named : (segments : List Segment) (o : Option (Bor Class)) (n : ℕ)
    → called_name (called_at o n) ≡ call_name (found_class segments o) n
number-named segments None zero = refl
number-named segments (Some c) zero = refl
number-named segments None (suc k) =
    let le : nat_le 1 (suc k) ≡ true = grind (arith, nat_tests) in rw le refl
number-named segments (Some c) (suc k) =
    let le : nat_le 1 (suc k) ≡ true = grind (arith, nat_tests) in
    let index : suc k - 1 ≡ k = omega arith in
    rw (le, index) (sym (call-named c.now.calls k))
