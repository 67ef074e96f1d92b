use Rattle.std.proofs.Common.{sym, ◌∙◌, ap}
use Rattle.serde_json.specs.Read.{read}
use Rattle.table_json.proofs.JsonText.{json_of-text, json_of-other}
use Rattle.table_json.proofs.objects.json_of.Goals as goal

pub returns-in_default : goal.returns-in_default
returns-in_default c = sym (json_of-other c.args.bytes.now c.in_default.ensures.cases.0)

pub returns-in-Ok-from_str : goal.returns-in-Ok-from_str
returns-in-Ok-from_str c =
    let h = c.in-Ok.ensures in
    sym c.in-Ok-from_str.ensures.ok ∙ ap read h.cases.0 ∙ sym (json_of-text c.args.bytes.now h.cases.1)
