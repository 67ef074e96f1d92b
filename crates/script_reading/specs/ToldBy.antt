-- Whether a line's edit or arguments have the tags of their kinds, by the classes that are kept.
use Rattle.std.specs.Prelude.{◌≡◌, ℕ, List, [], ◌∷◌, length, Bool, true, not, ◌==◌, Option, Some, None}
use Rattle.protocol_model.specs.Value.{Table}
use Rattle.protocol_model.specs.World.{Edits, spawn_count, class_of}
use Rattle.value_codec.specs.Values.{args_are_of}
use Rattle.value_codec.specs.declared.args.Arg.{Arg}
use Rattle.world_table.specs.Answers.{has_tag}
use Rattle.world_table.specs.declared.edit.Edit.{Edit}
use Rattle.script_lines.specs.ToldRight.{kinds_of, are_told_right, edits_with}
use Rattle.script_lines.specs.declared.line.Line.{Line}
use Rattle.script_lines.specs.declared.line.Line.TheVariants.{Call, Multi, ClientCall}
use Rattle.script_lines.specs.declared.line.Line.TheVariants as line
use Rattle.script_reading.specs.Kept.{Kept, class_kept}

-- none, or not player 0
abbrev pub may_own : Option ℕ → Bool
may_own None = true
may_own (Some player) = not (player == 0)

-- a value that is set has its property's tag
abbrev pub is_edit_told : Kept → Edit → Bool
is_edit_told kept (Edit.Set actor prop value) = has_tag (class_kept kept actor) prop value
is_edit_told kept (Edit.Own actor player) = may_own player
is_edit_told kept edit = true

-- the arguments of a call of the actor have their kinds' tags
abbrev pub are_args_told : Kept → (actor number : ℕ) → List Arg → Bool
are_args_told kept a n args = args_are_of (kinds_of (class_kept kept a) n) args

-- the line's edit or arguments have the right tags
abbrev pub is_told_by : Kept → Line → Bool
is_told_by kept (line.Edit edit) = is_edit_told kept edit
is_told_by kept (Call player actor call args) = are_args_told kept actor call args
is_told_by kept (Multi actor call args) = are_args_told kept actor call args
is_told_by kept (ClientCall player actor call args) = are_args_told kept actor call args
is_told_by kept line = true

-- what is kept has a class for each actor, the one that it was spawned as
pub record KeepsClasses (table : Table) (kept : Kept) (edits : Edits) : Type 0 where
  pub count : length kept.actors ≡ spawn_count edits
  pub classes : (a : ℕ) → class_kept kept a ≡ class_of table edits a

-- the edits with those of the lines
abbrev pub edits_through : Edits → List Line → Edits
edits_through edits [] = edits
edits_through edits (line ∷ lines) = edits_through (edits_with edits line) lines

-- the lines so far have the right tags, and what is kept has their actors' classes
pub record Told (table : Table) (kept : Kept) (lines : List Line) : Type 0 where
  pub right : are_told_right table [] lines ≡ true
  pub classes : KeepsClasses table kept (edits_through [] lines)
