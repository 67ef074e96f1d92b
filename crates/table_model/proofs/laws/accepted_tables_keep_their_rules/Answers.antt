use Rattle.table_model.proofs.Tables.{table_keeps_rules}
use Rattle.table_model.proofs.laws.accepted_tables_keep_their_rules.Goals as goal

pub returns-clause-entries : goal.returns-clause-entries
returns-clause-entries c = table_keeps_rules
