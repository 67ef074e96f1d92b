-- What a sink took of a text.
use Rattle.std.specs.Prelude.{ℕ, ◌≤◌, List, length, take, Option}
use Rattle.std.specs.Io.KnownBytes.{Appends}
use Rattle.script_model.specs.Lines.{Text}

-- the sink took a prefix of the text, or all of it
abbrev pub TakesPrefix : (before now : Option (List ℕ)) → Text → Type 0
TakesPrefix before now text = (n : ℕ) × (n ≤ length text) × Appends before now (take n text)
