-- What a sink has taken, where it tells it.
use Rattle.std.specs.Prelude.{ℕ, ◌<◌, List, take, length, Option, Result, MatchResult}
use Rattle.std.specs.Io.KnownBytes.{Appends, Keeps}

-- an answer n appends the first n bytes to what was taken, and a refusal appends nothing
abbrev pub Takes : {E : Type 0} → Option (List ℕ) → Option (List ℕ)
    → Result ℕ E → List ℕ → Type 0
Takes old new answer bytes =
    MatchResult answer (λ n. Appends old new (take n bytes)) (λ _. Keeps old new)

-- a prefix of the bytes, without the last of them, was appended to what was taken
abbrev pub AppendsPrefix : Option (List ℕ) → Option (List ℕ) → List ℕ → Type 0
AppendsPrefix old new bytes = (n : ℕ) × (n < length bytes) × Appends old new (take n bytes)
