use Rattle.std.proofs.Common.{◌∙◌, arith}
use Rattle.serde_json.specs.View.{view}
use Rattle.table_model.specs.Rules.{call_after}
use Rattle.table_model.specs.declared.Place.TheVariants as Place
use Rattle.class_members.specs.Members.{call_of}
use Rattle.class_members.proofs.Each.{each_turn}
use Rattle.class_members.proofs.call.add_calls.Goals as goal

pub loop-element-preserved : goal.loop-element-preserved
loop-element-preserved c = record {
  count = omega (arith, c.loop-element.invariant.count);
  left =
      each_turn call_after (Place.Call c.args.class) call_of view c.loop-element.calls _ c.args.elements.now
      c.loop-element.number c.loop-element.element-index c.element-item.result c.in-Ok.call c.loop-element-test.true
      c.element-item.is c.in-Ok.ensures c.in_ok-push-in-Ok.ensures.ok
      ∙ c.loop-element.invariant.left;
}
