use Rattle.table_model.proofs.Classes.{class_keeps}
use Rattle.table_model.proofs.laws.accepted_classes_keep_the_rules.Goals as goal

pub returns-clause-one_more : goal.returns-clause-one_more
returns-clause-one_more c = class_keeps
