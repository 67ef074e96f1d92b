-- What an answer says, in other words.
use Rattle.std.proofs.Common.{◌≡◌, sym, ◌∙◌}
use Rattle.std.specs.Prelude.{Result, Ok, Err, IfOk, OnOk}
use Rattle.table_model.specs.Checked.{Refusal}
use Rattle.class_members.specs.Agreement.{RefusedAs}
use Rattle.class_members.specs.declared.refusal.TableRefusal.{TableRefusal}

-- what holds of the value of an Ok gives what else holds of it
pub if_ok : {A E : Type 0} {P Q : A → Type 0} (r : Result A E) → IfOk r P → ((a : A) → P a → Q a) → IfOk r Q
if_ok (Ok a) h f = f a h
if_ok (Err e) h f = h

-- what holds on an Ok gives what else holds on it
pub on_ok : {A E P Q : Type 0} (r : Result A E) → OnOk r P → (P → Q) → OnOk r Q
on_ok (Ok a) h f = f h
on_ok (Err e) h f = h

-- what holds on an Ok and of its value
pub if_on_ok : {A E P : Type 0} {Q R : A → Type 0} (r : Result A E) → OnOk r P → IfOk r Q → ((a : A) → P → Q a → R a)
    → IfOk r R
if_on_ok (Ok a) h k f = f a h k
if_on_ok (Err e) h k f = k

-- a refusal is that of an equal definition
pub same_refusal : {B : Type 0} (refusal : TableRefusal) {told same : Result B Refusal}
    → told ≡ same → RefusedAs refusal told → RefusedAs refusal same
same_refusal (TableRefusal.BadTable place why) is h = sym is ∙ h
same_refusal TableRefusal.Memory is h = tt
