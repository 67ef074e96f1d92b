-- Why a class table or a script is refused, as it is written.
use Rattle.std.specs.Prelude.{ℕ, List, [], ◌∷◌, ◌++◌, codes, decimal}
use Rattle.protocol_model.specs.declared.LineWhy.{LineWhy}
use Rattle.protocol_model.specs.declared.LineWhy.TheVariants as line
use Rattle.script_model.specs.Lines.{Text}
use Rattle.script_model.specs.Reports.{words}
use Rattle.table_model.specs.Checked.{Refusal}
use Rattle.table_model.specs.declared.Place.{Place as TablePlace}
use Rattle.table_model.specs.declared.Place.TheVariants as place
use Rattle.table_model.specs.declared.TableWhy.{TableWhy}
use Rattle.table_model.specs.declared.TableWhy.TheVariants.{TooLong, Json, Shape, Range, Name, Twice, Parent, BadType, TooMany, TooBig}

-- a place in a class table
abbrev pub place_words : TablePlace → List Text
place_words place.Table = codes "table" ∷ []
place_words (place.Class k) = codes "class" ∷ decimal k ∷ []
place_words (place.Property k j) = codes "class" ∷ decimal k ∷ codes "property" ∷ decimal j ∷ []
place_words (place.Call k j) = codes "class" ∷ decimal k ∷ codes "call" ∷ decimal j ∷ []

-- the name of the reason
abbrev pub table_word : TableWhy → Text
table_word TooLong = codes "TooLong"
table_word Json = codes "Json"
table_word Shape = codes "Shape"
table_word Range = codes "Range"
table_word Name = codes "Name"
table_word Twice = codes "Twice"
table_word Parent = codes "Parent"
table_word BadType = codes "BadType"
table_word TooMany = codes "TooMany"
table_word TooBig = codes "TooBig"

-- a refused table, by its first broken rule
abbrev pub table_refused_text : Refusal → Text
table_refused_text refusal =
    codes "unet: class table refused at " ++ words (place_words refusal.place) ++ codes ": "
    ++ table_word refusal.why ++ 10 ∷ []

-- the name of the reason
abbrev pub line_word : LineWhy → Text
line_word line.TooLong = codes "TooLong"
line_word line.NotText = codes "NotText"
line_word line.Shape = codes "Shape"
line_word line.Place = codes "Place"
line_word line.Range = codes "Range"
line_word line.NoPlayer = codes "NoPlayer"
line_word line.Taken = codes "Taken"
line_word line.NoClass = codes "NoClass"
line_word line.NoActor = codes "NoActor"
line_word line.NoName = codes "NoName"
line_word line.Kind = codes "Kind"
line_word line.Value = codes "Value"
line_word line.Full = codes "Full"

-- a refused script, by its first bad line
abbrev pub script_refused_text : ℕ × LineWhy → Text
script_refused_text bad =
    codes "unet: script refused at line " ++ decimal bad.0 ++ codes ": " ++ line_word bad.1 ++ 10 ∷ []
