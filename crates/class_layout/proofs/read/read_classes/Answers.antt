use Rattle.std.proofs.Common.{◌+◌, ◌∙◌, ◌∷◌, [], length, sym, ap, map}
use Rattle.std.proofs.lemmas.List.{length-map, length-append}
use Rattle.std.proofs.lemmas.Result.{err_from_is_err_and}
use Rattle.serde_json.specs.View.{view}
use Rattle.class_layout.specs.Tables.{entry_of}
use Rattle.class_layout.proofs.Answered.{same_refusal}
use Rattle.class_members.proofs.Each.{there_at}
use Rattle.class_layout.proofs.SoFar.{class_turn, class_stop, so_far_more}
use Rattle.class_layout.proofs.read.read_classes.Goals as goal

pub class_after-requires-clause-few : goal.class_after-requires-clause-few
class_after-requires-clause-few c =
    c.requires.few c.loop-element.element-index (view c.element-item.result)
    (there_at view c.args.elements.now c.loop-element.element-index c.element-item.result c.loop-element-test.true
    c.element-item.is)

pub returns-in_err-class-clause-reads : goal.returns-in_err-class-clause-reads
returns-in_err-class-clause-reads c =
    let p = err_from_is_err_and c.from_residual.result c.from_residual.ensures.1 in
    rw (p.1, p.2)
    (same_refusal c.in_err-class.field-0.0 c.loop-element.invariant.left
    (class_stop view (map (entry_of c.loop-element.segments) c.loop-element.classes) c.args.elements.now _
    c.loop-element.element-index c.element-item.result c.in_err-class.field-0.0
    (ap (λ n. n + 1) (c.len.ensures ∙ sym (length-map c.loop-element.classes (entry_of c.loop-element.segments))))
    c.loop-element-test.true c.element-item.is c.in_err-class.ensures.reads))

pub loop-element-preserved : goal.loop-element-preserved
loop-element-preserved c = record {
  count = ap length c.in_ok-push.ensures.ok ∙ length-append c.loop-element.classes (c.in_ok-class.class ∷ [])
      ∙ ap (λ n. n + 1) c.loop-element.invariant.count;
  so_far = rw c.in_ok-push.ensures.ok
      (so_far_more c.loop-element.classes c.loop-element.segments c.class_after.new.segments c.in_ok-class.class
      c.loop-element.invariant.so_far c.in_ok-class.ensures.tags c.in_ok-class.ensures.within
      c.in_ok-class.ensures.segments c.in_ok-class.ensures.extends c.in_ok-class.ensures.few);
  left = rw c.in_ok-push.ensures.ok
      (class_turn view c.loop-element.classes c.loop-element.segments c.class_after.new.segments c.in_ok-class.class
      c.args.elements.now _ c.loop-element.element-index c.element-item.result c.loop-element.invariant.so_far
      c.in_ok-class.ensures.extends (ap (λ n. n + 1) c.len.ensures) c.loop-element-test.true c.element-item.is
      c.in_ok-class.ensures.reads
      ∙ c.loop-element.invariant.left);
}
