-- What the lines of the definitions can't tell: that edits and arguments have the tags of their kinds.
use Rattle.std.specs.Prelude.{ℕ, List, [], ◌∷◌, Bool, true, ◌&&◌, unwrap_or, option_map}
use Rattle.protocol_model.specs.declared.Kind.{Kind}
use Rattle.protocol_model.specs.Value.{Table, Class, Call as CallSpec, call_at}
use Rattle.protocol_model.specs.World.{Edits, class_of}
use Rattle.value_codec.specs.Values.{args_are_of}
use Rattle.value_codec.specs.declared.args.Arg.{Arg}
use Rattle.world_table.specs.Answers.{edit_of}
use Rattle.world_table.specs.Answers as world
use Rattle.script_lines.specs.declared.line.Line.{Line}
use Rattle.script_lines.specs.declared.line.Line.TheVariants.{Call, Multi, ClientCall}
use Rattle.script_lines.specs.declared.line.Line.TheVariants as line

-- the kinds of a call's arguments
abbrev pub kinds_of : Class → (number : ℕ) → List Kind
kinds_of class n = unwrap_or (option_map (λ (c : CallSpec). c.args) (call_at class n)) []

-- the arguments of a call of the actor have their kinds' tags
abbrev pub has_tags : Table → Edits → (actor number : ℕ) → List Arg → Bool
has_tags table edits a n args = args_are_of (kinds_of (class_of table edits a) n) args

-- the line's edit or arguments have the right tags, after these edits
abbrev pub is_told_right : Table → Edits → Line → Bool
is_told_right table edits (line.Edit edit) = world.is_told_right table edits edit
is_told_right table edits (Call player actor call args) = has_tags table edits actor call args
is_told_right table edits (Multi actor call args) = has_tags table edits actor call args
is_told_right table edits (ClientCall player actor call args) = has_tags table edits actor call args
is_told_right table edits line = true

-- the edits with the line's, if it is one
abbrev pub edits_with : Edits → Line → Edits
edits_with edits (line.Edit edit) = edit_of edit ∷ edits
edits_with edits line = edits

-- each of the lines, one after another
abbrev pub are_told_right : Table → Edits → List Line → Bool
are_told_right table edits [] = true
are_told_right table edits (line ∷ lines) =
    is_told_right table edits line && are_told_right table (edits_with edits line) lines
