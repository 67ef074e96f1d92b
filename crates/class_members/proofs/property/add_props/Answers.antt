use Rattle.std.proofs.Common.{◌∙◌, sym, subst, IsTrue, arith}
use Rattle.serde_json.specs.View.{view}
use Rattle.table_model.specs.Rules.{property_after}
use Rattle.table_model.specs.declared.Place.TheVariants as Place
use Rattle.class_members.specs.Members.{prop_of, are_tagged}
use Rattle.value_codec.specs.Values.{is_of}
use Rattle.class_members.specs.declared.members.Prop.{Prop}
use Rattle.class_members.proofs.Each.{each_turn, all_more}
use Rattle.class_members.proofs.property.add_props.Goals as goal

pub loop-element-preserved : goal.loop-element-preserved
loop-element-preserved c = record {
  count = omega (arith, c.loop-element.invariant.count);
  tags = subst (λ ps. IsTrue (are_tagged ps)) (sym c.in_ok-push-in-Ok.ensures.ok)
      (all_more (λ (p : Prop). is_of p.kind p.init) c.loop-element.props c.in-Ok.prop c.loop-element.invariant.tags
      c.in-Ok.ensures.tag);
  left =
      each_turn property_after (Place.Property c.args.class) prop_of view c.loop-element.props _ c.args.elements.now
      c.loop-element.number c.loop-element.element-index c.element-item.result c.in-Ok.prop c.loop-element-test.true
      c.element-item.is c.in-Ok.ensures.gives c.in_ok-push-in-Ok.ensures.ok
      ∙ c.loop-element.invariant.left;
}
