-- The summary of a class table.
use Rattle.std.specs.Prelude.{ℕ, List, [], ◌∷◌, ◌++◌, length, codes, decimal}
use Rattle.std.specs.List.{flat_map}
use Rattle.sha1.specs.Sha1.{sha1}
use Rattle.protocol_model.specs.Value.{Class, Table, handle_count}
use Rattle.script_model.specs.Lines.{Text}
use Rattle.script_model.specs.Reports.{words, hex_of}

-- words as a line
abbrev pub line : List Text → Text
line ws = words ws ++ 10 ∷ []

-- a class with how many handles and calls it has, the inherited ones included
abbrev pub class_line : Class → Text
class_line class =
    line (codes "class" ∷ class.name ∷ codes "handles" ∷ decimal (handle_count class)
    ∷ codes "calls" ∷ decimal (length class.calls) ∷ [])

-- how many classes there are, each of them, and the SHA-1 of the file
abbrev pub check_text : (file : List ℕ) → Table → Text
check_text file table =
    line (codes "classes" ∷ decimal (length table) ∷ []) ++ flat_map class_line table
    ++ line (codes "digest" ∷ hex_of (sha1 file) ∷ [])
