use Rattle.std.proofs.Common.{◌∙◌, ◌≤◌, ap, sym, subst, map, length}
use Rattle.protocol_model.specs.Value.{Class}
use Rattle.class_members.specs.Members.{prop_of}
use Rattle.script_reading.proofs.Finding.{class_there, no_class_there, few_props}
use Rattle.script_reading.proofs.names.props_at.Goals as goal

pub returns-in-Some-clause-props : goal.returns-in-Some-clause-props
returns-in-Some-clause-props c =
    ap (map prop_of) c.as_slice.ensures
    ∙ ap (λ (class : Class). class.props)
    (class_there c.args.classes.now c.args.class c.in-Some.class.now c.in-Some.ensures)

pub returns-in-Some-clause-few : goal.returns-in-Some-clause-few
returns-in-Some-clause-few c =
    subst (λ items. length items ≤ 200) (sym c.as_slice.ensures)
    (few_props c.args.classes.now c.args.class c.in-Some.class.now c.keeps_rules.ensures.rules c.in-Some.ensures)

pub returns-in-None-clause-props : goal.returns-in-None-clause-props
returns-in-None-clause-props c =
    ap (λ (class : Class). class.props) (no_class_there c.args.classes.now c.args.class c.in-None.ensures)
