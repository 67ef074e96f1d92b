-- Fields of the shapes that lines have, with numbers as far as they are told apart.
use Rattle.std.specs.Prelude.{List, [], ◌∷◌, Option, Some, None, is_some, ℤ}
use Rattle.std.specs.Bool.{then_some}
use Rattle.script_model.specs.Lines.{Text}
use Rattle.script_model.specs.Script.{datagram_of, ◌>>=◌}
use Rattle.script_spelling.specs.Fields.{is_nil, take_number, take_name}

-- a number
abbrev pub one_in : List Text → Option ℤ
one_in fields = do
  a ← take_number fields
  then_some (is_nil a.1) a.0

-- two numbers
abbrev pub two_in : List Text → Option (ℤ × ℤ)
two_in fields = do
  a ← take_number fields
  b ← one_in a.1
  Some (a.0, b)

-- three numbers
abbrev pub three_in : List Text → Option (ℤ × ℤ × ℤ)
three_in fields = do
  a ← take_number fields
  b ← two_in a.1
  Some (a.0, b.0, b.1)

-- a name and two numbers
abbrev pub place_in : List Text → Option (Text × ℤ × ℤ)
place_in fields = do
  name ← take_name fields
  place ← two_in name.1
  Some (name.0, place.0, place.1)

-- the only field
abbrev pub last_in : List Text → Option Text
last_in [] = None
last_in (field ∷ fields) = then_some (is_nil fields) field

-- a number, a name and one more field
abbrev pub text_in : List Text → Option (ℤ × Text × Text)
text_in fields = do
  a ← take_number fields
  name ← take_name a.1
  text ← last_in name.1
  Some (a.0, name.0, text)

-- a number, a name and any more fields
abbrev pub named_in : List Text → Option (ℤ × Text × List Text)
named_in fields = do
  a ← take_number fields
  name ← take_name a.1
  Some (a.0, name.0, name.1)

-- two numbers, a name and any more fields
abbrev pub called_in : List Text → Option (ℤ × ℤ × Text × List Text)
called_in fields = do
  a ← take_number fields
  named ← named_in a.1
  Some (a.0, named.0, named.1, named.2)

-- a number, and a field that spells a datagram
abbrev pub datagram_in : List Text → Option (ℤ × Text)
datagram_in fields = do
  a ← take_number fields
  text ← last_in a.1
  then_some (is_some (datagram_of text)) (a.0, text)
