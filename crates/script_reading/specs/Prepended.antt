-- Lines before others.
use Rattle.std.specs.Prelude.{ℕ, List, ◌++◌, Result, Ok, Err}
use Rattle.protocol_model.specs.declared.LineWhy.{LineWhy}
use Rattle.script_model.specs.Lines.{Line}

-- lines before the others, if these are good
abbrev pub prepended : List Line → Result (List Line) (ℕ × LineWhy) → Result (List Line) (ℕ × LineWhy)
prepended done (Ok lines) = Ok (done ++ lines)
prepended done (Err bad) = Err bad
