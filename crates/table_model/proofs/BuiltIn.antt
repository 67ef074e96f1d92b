-- The built-in table's file, read by computing.
use Rattle.std.proofs.Common.{◌≡◌, refl}
use Rattle.std.specs.Prelude.{Ok}
use Rattle.std.specs.Str.{is_utf8, chars}
use Rattle.serde_json.proofs.OnLiterals.{serde_json_on_literals}
use Rattle.protocol_model.specs.BuiltIn.{built_in_table, pawn, flag, purse}
use Rattle.protocol_model.specs.Bits.{int_width}
use Rattle.table_model.specs.BuiltInFile.{built_in_file}
use Rattle.table_model.specs.Grammar.{table_in}

pub file_is_table : table_in built_in_file ≡ Ok built_in_table
unfolding built_in_file serde_json_on_literals is_utf8 chars pawn flag purse int_width
file_is_table = refl
