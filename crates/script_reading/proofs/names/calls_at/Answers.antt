use Rattle.std.proofs.Common.{◌∙◌, ◌≤◌, ap, sym, subst, map, length}
use Rattle.protocol_model.specs.Value.{Class}
use Rattle.class_members.specs.Members.{call_of}
use Rattle.script_reading.proofs.Finding.{class_there, no_class_there, few_calls}
use Rattle.script_reading.proofs.names.calls_at.Goals as goal

pub returns-in-Some-clause-calls : goal.returns-in-Some-clause-calls
returns-in-Some-clause-calls c =
    ap (map call_of) c.as_slice.ensures
    ∙ ap (λ (class : Class). class.calls)
    (class_there c.args.classes.now c.args.class c.in-Some.class.now c.in-Some.ensures)

pub returns-in-Some-clause-few : goal.returns-in-Some-clause-few
returns-in-Some-clause-few c =
    subst (λ items. length items ≤ 64) (sym c.as_slice.ensures)
    (few_calls c.args.classes.now c.args.class c.in-Some.class.now c.keeps_rules.ensures.rules c.in-Some.ensures)

pub returns-in-None-clause-calls : goal.returns-in-None-clause-calls
returns-in-None-clause-calls c =
    ap (λ (class : Class). class.calls) (no_class_there c.args.classes.now c.args.class c.in-None.ensures)
