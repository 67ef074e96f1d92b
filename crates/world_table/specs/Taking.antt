-- How a world goes along with an edit: each method that takes one answers so.
use Rattle.std.specs.Prelude.{ℕ, ◌∷◌, Option, Result, OnOk}
use Rattle.protocol_model.specs.World.{Edits}
use Rattle.class_layout.specs.Tables.{table_in}
use Rattle.world_table.specs.declared.edit.Edit.{Edit}
use Rattle.world_table.specs.declared.edit.EditRefusal.{EditRefusal}
use Rattle.world_table.specs.Answers.{edit_of, refusal_in, spawned_guid, IsAnswer}
use Rattle.world_table.specs.Kept.{Kept}
use Rattle.world_table.specs.Stands.{Stands}

-- where the edit is taken, the world is what the edits leave with it in front of them
abbrev pub GoesAlong : (old : Kept) → Edit → (new : Kept) → Result (Option ℕ) EditRefusal → Type 0
GoesAlong old e new result = OnOk result ((edits : Edits) → Stands old edits → Stands new (edit_of e ∷ edits))

-- the answer is the one that the definitions give after these edits
abbrev pub Answers : (old : Kept) → Edit → Result (Option ℕ) EditRefusal → Type 0
Answers old e result =
    (edits : Edits) → Stands old edits
    → IsAnswer (refusal_in (table_in old.layout) edits e) (spawned_guid edits e) result
