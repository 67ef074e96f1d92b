use Rattle.table_model.proofs.Tables.{table_names}
use Rattle.table_model.proofs.laws.names_find_their_class.Goals as goal

pub returns-clause-name : goal.returns-clause-name
returns-clause-name c = table_names
