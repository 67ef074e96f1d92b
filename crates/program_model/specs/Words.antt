-- The words of the program, and what they ask for.
use Rattle.std.specs.Prelude.{ℕ, List, [], ◌∷◌, Bool, true, false, not, ◌&&◌, ◌||◌, ◌==◌, nat_le, Option, None, option_map, option_and_then, codes}
use Rattle.std.specs.Bool.{then_some}
use Rattle.std.specs.Str.{bytes_eq}
use Rattle.protocol_model.specs.declared.Version.{Version}
use Rattle.protocol_model.specs.declared.Version.TheVariants.{One, Two}
use Rattle.script_model.specs.Lines.{Text}
use Rattle.script_model.specs.Script.{natural_of}

-- what the words ask for
pub data Command : Type 0 where
  Replay : (classes script : Text) → Command
  Check : (classes : Text) → Command
  Show : (version : Version) (file : Text) → Command
  Sample : (ticks : ℕ) → Command

-- ---- the fields

-- a name isn't empty and doesn't begin with `-`
abbrev pub is_file_name : Text → Bool
is_file_name [] = false
is_file_name (c ∷ cs) = not (c == 45)

-- `-` stands for the built-in table
abbrev pub is_built_in : Text → Bool
is_built_in word = bytes_eq word (codes "-")

-- a table is a file's name, or `-`
abbrev pub is_table_name : Text → Bool
is_table_name word = is_built_in word || is_file_name word

-- the number, from low to high
abbrev pub within : (low high : ℕ) → ℕ → Option ℕ
within low high n = then_some (nat_le low n && nat_le n high) n

-- a decimal number from low to high, without a sign or leading zeros
abbrev pub number_in : (low high : ℕ) → Text → Option ℕ
number_in low high word = option_and_then (within low high) (natural_of word)

-- ---- the commands, each with its fields

-- a table and a script
abbrev pub replay_in : List Text → Option Command
replay_in (classes ∷ script ∷ []) =
    then_some (is_table_name classes && is_file_name script) (Replay classes script)
replay_in words = None

-- a table
abbrev pub check_in : List Text → Option Command
check_in (classes ∷ []) = then_some (is_table_name classes) (Check classes)
check_in words = None

-- a file of hex lines
abbrev pub show_in : Version → List Text → Option Command
show_in version (file ∷ []) = then_some (is_file_name file) (Show version file)
show_in version words = None

-- a number of ticks, 1 to 2,000
abbrev pub sample_in : List Text → Option Command
sample_in (ticks ∷ []) = option_map (λ n. Sample n) (number_in 1 2000 ticks)
sample_in words = None

-- the commands by their names
abbrev pub commands : List (Text × (List Text → Option Command))
commands =
    (codes "replay", replay_in) ∷ (codes "check", check_in) ∷ (codes "show", show_in One)
    ∷ (codes "show2", show_in Two) ∷ (codes "sample", sample_in) ∷ []

-- the fields by the command of that name
abbrev pub read_by : List (Text × (List Text → Option Command)) → Text → List Text → Option Command
read_by [] name words = None
read_by (c ∷ cs) name words = elim (bytes_eq name c.0) [ true ↦ c.1 words | false ↦ read_by cs name words ]

-- what the words ask for; nothing where they break the rules
abbrev pub command_of : List Text → Option Command
command_of [] = None
command_of (name ∷ words) = read_by commands name words
