use Rattle.table_json.proofs.Behind.{stripped}
use Rattle.table_json.proofs.types.behind.Goals as goal

pub returns : goal.returns
returns c = stripped c.args.word.now c.args.text.now c.strip_prefix.result c.strip_prefix.ensures.cases
