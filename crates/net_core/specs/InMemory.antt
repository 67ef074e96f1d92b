-- What the forms in memory are seen as.
use Rattle.std.specs.Prelude.{ℕ, List, []}
use Rattle.net_core.specs.Failing.{Calls}
use Rattle.net_core.specs.Folder.{Folder}

-- a folder in memory, with the calls that read it
pub record MemoryFolder : Type 0 where
  pub entries : Folder
  pub calls : Calls

-- bytes that were taken, with the longest piece that a write takes, the writes, and how many of them had no memory
pub record MemorySink : Type 0 where
  pub bytes : List ℕ
  pub longest : ℕ
  pub calls : Calls
  pub shortages : ℕ

-- a sink that has taken nothing, with the longest piece that a write takes and the calls that are to fail
abbrev pub empty_sink : (longest : ℕ) → (failing : List ℕ) → MemorySink
empty_sink longest failing = record {
  bytes = [];
  longest = longest;
  calls = record { made = 0; faults = 0; failing = failing };
  shortages = 0;
}
