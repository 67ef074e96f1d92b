use Rattle.std.proofs.Common.{◌≡◌, ◌+◌, map, drop}
use Rattle.serde_json.specs.View.{view}
use Rattle.table_model.specs.Checked.{each_after}
use Rattle.table_model.specs.Rules.{call_after}
use Rattle.table_model.specs.declared.Place.TheVariants as Place
use Rattle.class_members.specs.Members.{call_of}
use Rattle.class_members.proofs.call.add_calls.Given as goal

abbrev pub invariant-loop-element : goal.invariant-loop-element
invariant-loop-element l = record {
  count : l.number ≡ l.element-index + 1;
  left : each_after call_after (Place.Call l.class) (map call_of l.calls) l.number
      (map view (drop l.element-index l.elements))
      ≡ each_after call_after (Place.Call l.class) (map call_of l.initial.calls) 1 (map view l.elements);
}
