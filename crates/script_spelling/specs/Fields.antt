-- Fields, read one after another.
use Rattle.std.specs.Prelude.{ℕ, List, [], ◌∷◌, Bool, true, false, Option, Some, None, option_map, ℤ}
use Rattle.std.specs.Borrow.{Bor}
use Rattle.script_model.specs.Lines.{Text}
use Rattle.script_model.specs.Script.{pieces, number_of, name_of}
use Rattle.script_spelling.specs.Capped.{capped}

-- the pieces of the bytes after a separator; none where there was no separator
abbrev pub pieces_after : (separator : ℕ) → Option (Bor (List ℕ)) → List Text
pieces_after separator None = []
pieces_after separator (Some rest) = pieces separator rest.now

-- there are no fields
abbrev pub is_nil : List Text → Bool
is_nil [] = true
is_nil (field ∷ fields) = false

-- the first field where it is a number, and the fields after it
abbrev pub take_number : List Text → Option (ℤ × List Text)
take_number [] = None
take_number (field ∷ fields) = option_map (λ z. (capped z, fields)) (number_of field)

-- the first field where it is a name, and the fields after it
abbrev pub take_name : List Text → Option (Text × List Text)
take_name [] = None
take_name (field ∷ fields) = option_map (λ name. (name, fields)) (name_of field)
