use Rattle.std.proofs.Common.{◌∙◌, sym, ap, map}
use Rattle.protocol_model.specs.Value.{Class}
use Rattle.class_members.specs.Members.{call_of}
use Rattle.class_layout.proofs.Parents.{no_parent}
use Rattle.class_layout.proofs.inherit.inherited_calls.Goals as goal

pub returns-in-None : goal.returns-in-None
returns-in-None c segments =
    ap (map call_of) c.new.ensures
    ∙ sym (ap (λ (k : Class). k.calls) (no_parent segments c.args.classes.now c.args.parent (sym c.in-None.ensures)))
