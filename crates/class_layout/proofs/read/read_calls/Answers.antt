use Rattle.std.proofs.Common.{ap, map}
use Rattle.std.proofs.lemmas.Result.{err_from_is_err_and}
use Rattle.serde_json.specs.View.{view}
use Rattle.table_model.specs.Checked.{each_after}
use Rattle.table_model.specs.Rules.{call_after}
use Rattle.table_model.specs.declared.Place.TheVariants as Place
use Rattle.class_layout.proofs.Answered.{same_refusal}
use Rattle.class_layout.proofs.read.read_calls.Goals as goal

pub returns-in_err-add_calls : goal.returns-in_err-add_calls
returns-in_err-add_calls c segments =
    let p = err_from_is_err_and c.from_residual-in_err-add_calls.result c.from_residual-in_err-add_calls.ensures.1 in
    rw (p.1, p.2) (same_refusal c.in_err-add_calls.field-0.0
    (ap (λ ps. each_after call_after (Place.Call c.args.class) ps 1 (map view c.args.elements.now))
    (c.in_ok-calls.ensures segments))
    c.in_err-add_calls.ensures)
