-- The datagrams that an end sent.
use Rattle.std.specs.Prelude.{◌≡◌, ℕ, List, ◌++◌}
use Rattle.connection_model.specs.Feed.{End, Past}
use Rattle.connection_model.specs.Past.{sent_bytes}

-- the datagrams sent before stand as they were, and more may stand behind them
abbrev pub SendsMore : End → (before later : Past) → Type 0
SendsMore end before later = (more : List (List ℕ)) × (sent_bytes end later ≡ sent_bytes end before ++ more)
