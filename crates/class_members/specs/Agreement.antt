-- What code answers beside what the definitions say.
use Rattle.std.specs.Prelude.{◌≡◌, Result, Ok, Err, ⊤}
use Rattle.table_model.specs.Checked.{Refusal}
use Rattle.table_model.specs.declared.Place.{Place}
use Rattle.table_model.specs.declared.TableWhy.{TableWhy}
use Rattle.class_members.specs.declared.refusal.Fault.{Fault}
use Rattle.class_members.specs.declared.refusal.TableRefusal.{TableRefusal}

-- the rule that is broken is the one that the definition names; want of memory says nothing
abbrev pub BreaksAs : {B : Type 0} → Fault → Result B TableWhy → Type 0
BreaksAs (Fault.Broken why) told = told ≡ Err why
BreaksAs Fault.Memory told = ⊤

-- the value is the definition's under f, or a rule is broken as it says
abbrev pub Gives : {A B : Type 0} → (A → B) → Result A Fault → Result B TableWhy → Type 0
Gives f (Ok value) told = told ≡ Ok (f value)
Gives f (Err fault) told = BreaksAs fault told

-- the same of a whole table, with the place of the rule
abbrev pub RefusedAs : {B : Type 0} → TableRefusal → Result B Refusal → Type 0
RefusedAs (TableRefusal.BadTable place why) told = told ≡ Err (record { place = place; why = why })
RefusedAs TableRefusal.Memory told = ⊤

abbrev pub Reads : {A B : Type 0} → (A → B) → Result A TableRefusal → Result B Refusal → Type 0
Reads f (Ok value) told = told ≡ Ok (f value)
Reads f (Err refusal) told = RefusedAs refusal told

-- a fault at a place
abbrev pub refusal_at : Place → Fault → TableRefusal
refusal_at place (Fault.Broken why) = TableRefusal.BadTable place why
refusal_at place Fault.Memory = TableRefusal.Memory
