-- A folder: the files that an object of the outside tells.
use Rattle.std.specs.Prelude.{◌≡◌, ℕ, List, [], ◌∷◌, Option, Some, None, IsSome, ⊤, if◌then◌else◌}
use Rattle.std.specs.Str.{bytes_eq}
use Rattle.net_core.specs.declared.outside.mem_files.Entry.{Entry}

-- files with their names, in order; names may repeat
abbrev pub Folder : Type 0
Folder = List Entry

-- the contents of the first file of that name
abbrev pub contents_of : Folder → (name : List ℕ) → Option (List ℕ)
contents_of [] name = None
contents_of (entry ∷ entries) name =
    if bytes_eq entry.name name then Some entry.contents else contents_of entries name

-- a told folder gives these contents for the name
abbrev pub Gives : Option Folder → (name contents : List ℕ) → Type 0
Gives None name contents = ⊤
Gives (Some folder) name contents = contents_of folder name ≡ Some contents

-- a told folder has no file of that name
abbrev pub Lacks : Option Folder → (name : List ℕ) → Type 0
Lacks None name = ⊤
Lacks (Some folder) name = contents_of folder name ≡ None

-- a told folder has a file of that name
abbrev pub Has : Option Folder → (name : List ℕ) → Type 0
Has None name = ⊤
Has (Some folder) name = IsSome (contents_of folder name)
