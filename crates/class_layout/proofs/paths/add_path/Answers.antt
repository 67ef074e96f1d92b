use Rattle.std.proofs.Common.{◌++◌, length, ap, ◌∙◌, arith, rules}
use Rattle.std.proofs.lemmas.List.{append_assoc}
use Rattle.class_layout.proofs.PathSteps.{grown_more, within_more, longer}
use Rattle.class_layout.proofs.paths.add_path.Goals as goal

pub loop-name-preserved : goal.loop-name-preserved
loop-name-preserved c = record {
  count = omega (arith, c.loop-name.invariant.count, c.in_ok-outer.ensures.one);
  extends = (
    c.loop-name.invariant.extends.0 ++ c.in_ok-outer.ensures.extends.0,
    c.in_ok-outer.ensures.extends.1
        ∙ ap (λ s. s ++ c.in_ok-outer.ensures.extends.0) c.loop-name.invariant.extends.1
        ∙ append_assoc c.args.segments.now c.loop-name.invariant.extends.0 c.in_ok-outer.ensures.extends.0,
  );
  within = rw c.in_ok-push.ensures.items
      (within_more (length c.loop-name.segments) _ c.loop-name.path.items c.in_ok-outer.outer
      (longer _ _ c.in_ok-outer.ensures.extends) c.loop-name.invariant.within c.in_ok-outer.ensures.within);
  grown = λ known are. rw c.in_ok-push.ensures.items
      (grown_more c.in_ok-outer.outer _ (c.loop-name.invariant.grown known are) (search (rules, arith)) (c.name-item.is)
      c.loop-name.invariant.within
      c.in_ok-outer.ensures.extends c.in_ok-outer.ensures.guid c.in_ok-outer.ensures.are c.in_ok-outer.ensures.there);
}
