-- The statuses with which a run ends, each by its name.
use Rattle.std.specs.Prelude.{◌≡◌, ℕ, ◌⊎◌, Result, Ok, Err}
use Rattle.net_core.specs.declared.outside.sink.WriteRefusal.{WriteRefusal}
use Rattle.net_core.specs.declared.outside.sink.WriteRefusal.TheVariants as write

-- all was done
abbrev pub all_done : ℕ
all_done = 0

-- the words aren't understood
abbrev pub words_unknown : ℕ
words_unknown = 2

-- there is no file of the name
abbrev pub no_file : ℕ
no_file = 3

-- the class table is refused
abbrev pub bad_table : ℕ
bad_table = 4

-- a line of the script is refused
abbrev pub bad_script : ℕ
bad_script = 5

-- a read or a write failed
abbrev pub outside_failed : ℕ
outside_failed = 6

-- there was no memory
abbrev pub no_memory : ℕ
no_memory = 8

-- a line of the packets' file is bad
abbrev pub bad_packets : ℕ
bad_packets = 9

-- the outside or memory ended the run early
abbrev pub IsEarly : (status : ℕ) → Type 0
IsEarly status = (status ≡ outside_failed) ⊎ (status ≡ no_memory)

-- a file that was read is good, or bad in one of three ways
abbrev pub IsOfFile : (status : ℕ) → Type 0
IsOfFile status =
    (status ≡ all_done) ⊎ (status ≡ bad_table) ⊎ (status ≡ bad_script) ⊎ (status ≡ bad_packets)

-- a command that was done, or whose file is missing
abbrev pub IsOfCommand : (status : ℕ) → Type 0
IsOfCommand status = (status ≡ no_file) ⊎ IsOfFile status

-- one of the statuses of a run
abbrev pub IsStatus : (status : ℕ) → Type 0
IsStatus status = (status ≡ words_unknown) ⊎ IsEarly status ⊎ IsOfCommand status

-- the status of what was done, or of the outside's refusal
abbrev pub status_of : Result ℕ WriteRefusal → ℕ
status_of (Ok status) = status
status_of (Err write.Failed) = outside_failed
status_of (Err write.Memory) = no_memory
