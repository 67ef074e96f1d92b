-- The table of a file, as the code read it.
use Rattle.std.proofs.Common.{◌≡◌, ℕ, List, Result, Ok, Err, refl}
use Rattle.table_model.specs.Checked.{Refusal}
use Rattle.table_model.specs.Rules.{Entry}
use Rattle.table_model.specs.Grammar.{table_in, table_of, entries_of}

-- its classes
pub table_read : (file : List ℕ) (entries : List Entry) → entries_of file ≡ Ok entries → table_in file ≡ Ok (table_of entries)
table_read file entries is = rw (is, table_in) refl

-- or the rule that it breaks
pub table_broken : (file : List ℕ) (refusal : Refusal) → entries_of file ≡ Err refusal → table_in file ≡ Err refusal
table_broken file refusal is = rw (is, table_in) refl
