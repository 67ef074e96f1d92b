use Rattle.std.proofs.Common.{◌∙◌, sym, ap, map, option_map, arith, rules}
use Rattle.std.proofs.lemmas.List.{length-map}
use Rattle.serde_json.specs.View.{view}
use Rattle.table_model.proofs.Tables.{table_keeps_rules}
use Rattle.class_layout.specs.Tables.{entry_of}
use Rattle.class_layout.proofs.Few.{all_have_few, entries_told}
use Rattle.class_layout.proofs.classes.Classes.read.Goals as goal

pub read_classes-requires-clause-few : goal.read_classes-requires-clause-few
read_classes-requires-clause-few c =
    all_have_few c.args.bytes.now (view c.in-Some.json) (map view c.in-Some-classes_of.elements.now)
    c.if-bytes-gt-TABLE_BYTES.false (sym c.in_ok-json.ensures ∙ ap (option_map view) c.in-Some.is)
    (sym c.in-Some-classes_of.ensures)

pub invariant_of-result : goal.invariant_of-result
invariant_of-result c = record {
  table = table_keeps_rules c.args.bytes.now _
      (entries_told c.args.bytes.now (view c.in-Some.json) (map view c.in-Some-classes_of.elements.now)
      (map (entry_of c.in_ok-classes.segments) c.in_ok-classes.classes)
      c.if-bytes-gt-TABLE_BYTES.false (sym c.in_ok-json.ensures ∙ ap (option_map view) c.in-Some.is)
      (sym c.in-Some-classes_of.ensures)
      (search (rules, arith, length-map c.in-Some-classes_of.elements.now view))
      (omega (arith, length-map c.in-Some-classes_of.elements.now view, c.if-elements-gt-CLASS_LIMIT.false))
      c.in_ok-classes.ensures.reads);
  tags = c.in_ok-classes.ensures.so_far.tags;
  segments = c.in_ok-classes.ensures.so_far.are;
}
