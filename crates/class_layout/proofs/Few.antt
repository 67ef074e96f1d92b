-- A file of at most 1,000,000 bytes has few enough properties and calls to number them.
use Rattle.std.proofs.Common.{◌≡◌, ℕ, ◌<◌, ◌≤◌, ◌^◌, List, [], length, true, nat_le, Option, Some, None, IfSome, Result, Ok, refl, sym, ◌∙◌, arith, rules}
use Rattle.serde_json.specs.Data.{Data}
use Rattle.table_model.specs.Objects.{ClassObject, classes_of, class_object}
use Rattle.protocol_model.specs.BuiltIn.{built_in_table}
use Rattle.protocol_model.specs.Value.{Table}
use Rattle.table_model.specs.BuiltInFile.{built_in_file}
use Rattle.table_model.specs.Checked.{Refusal}
use Rattle.table_model.specs.Rules.{Entry}
use Rattle.table_model.specs.Grammar.{json_of, entries_of, classes_after, table_of, table_in}
use Rattle.table_model.proofs.BuiltIn.{file_is_table}
use Rattle.table_model.specs.Sizes.{longest_array}
use Rattle.table_model.proofs.Arrays.{json_within}
use Rattle.table_model.proofs.Elements.{classes_within, class_within}
use Rattle.class_layout.specs.Headings.{HasFew, AllHaveFew}

-- a class within the file has few
has_few : (d : Data) → longest_array d ≤ 1000000 → HasFew d
has_few d small = by_object (class_object d) refl
  where
    by_object : (o : Option ClassObject) → class_object d ≡ o
        → IfSome o (λ c. (length c.properties < 2 ^ 30) × (length c.calls < 2 ^ 30))
    by_object None e = tt
    by_object (Some c) e =
        let within = class_within d c 1000000 e small in
        (omega (arith, within.0.count), omega (arith, within.1.count))

-- and so have the classes of a file
pub all_have_few : (bytes : List ℕ) (top : Data) (ds : List Data) → length bytes ≤ 1000000 → json_of bytes ≡ Some top
    → classes_of top ≡ Some ds → AllHaveFew ds
all_have_few bytes top ds short json classes =
    let small : longest_array top ≤ 1000000 = omega (arith, json_within bytes top json, short) in
    let within = classes_within top ds 1000000 classes small in
    λ i d there. has_few d (within.each i d there)

-- the entries of a file whose top is right and whose classes are taken
pub entries_told : (bytes : List ℕ) (top : Data) (ds : List Data) (entries : List Entry) → length bytes ≤ 1000000
    → json_of bytes ≡ Some top → classes_of top ≡ Some ds → 1 ≤ length ds → length ds ≤ 256
    → classes_after [] ds ≡ Ok entries → entries_of bytes ≡ Ok entries
entries_told bytes top ds entries short json classes least most taken =
    rw (
      is_le (length bytes) 1000000 short,
      json,
      classes,
      is_le 1 (length ds) least,
      is_le
          (length ds) 256 most,
      taken,
    ) refl
  where
    is_le : (m n : ℕ) → m ≤ n → nat_le m n ≡ true
    is_le m n h = search (rules, arith)

-- the table that is read from the built-in file
pub built_in_read : (entries : List Entry) → entries_of built_in_file ≡ Ok entries → table_of entries ≡ built_in_table
built_in_read entries h = same_ok _ _ (sym (read_as h) ∙ file_is_table)
  where
    read_as : entries_of built_in_file ≡ Ok entries → table_in built_in_file ≡ Ok (table_of entries)
    read_as h = rw h refl

    same_ok : (s t : Table) → ◌≡◌ {A = Result Table Refusal} (Ok s) (Ok t) → s ≡ t
    same_ok s t e = cc
