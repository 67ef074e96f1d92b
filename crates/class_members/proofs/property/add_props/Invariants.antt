use Rattle.std.proofs.Common.{◌≡◌, ◌+◌, map, drop, IsTrue}
use Rattle.serde_json.specs.View.{view}
use Rattle.table_model.specs.Checked.{each_after}
use Rattle.table_model.specs.Rules.{property_after}
use Rattle.table_model.specs.declared.Place.TheVariants as Place
use Rattle.class_members.specs.Members.{are_tagged, prop_of}
use Rattle.class_members.proofs.property.add_props.Given as goal

abbrev pub invariant-loop-element : goal.invariant-loop-element
invariant-loop-element l = record {
  count : l.number ≡ l.element-index + 1;
  tags : IsTrue (are_tagged l.props);
  left : each_after property_after (Place.Property l.class) (map prop_of l.props) l.number
      (map view (drop l.element-index l.elements))
      ≡ each_after property_after (Place.Property l.class) (map prop_of l.initial.props) 1 (map view l.elements);
}
