use Rattle.std.proofs.Common.{◌∙◌, sym, ap, map}
use Rattle.protocol_model.specs.Value.{Class}
use Rattle.class_members.specs.Members.{prop_of}
use Rattle.class_layout.proofs.Parents.{no_parent}
use Rattle.class_layout.proofs.inherit.inherited_props.Goals as goal

pub returns-in-None-clause-props : goal.returns-in-None-clause-props
returns-in-None-clause-props c segments =
    ap (map prop_of) c.new.ensures
    ∙ sym (ap (λ (k : Class). k.props) (no_parent segments c.args.classes.now c.args.parent (sym c.in-None.ensures)))
