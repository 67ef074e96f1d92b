use Rattle.std.proofs.Common.{◌∙◌, ℕ, ◌++◌, List, ap, sym, arith}
use Rattle.protocol_model.specs.Sight.{is_relevant}
use Rattle.class_layout.specs.Tables.{table_in}
use Rattle.rep_graph.specs.Standings.{then_one}
use Rattle.rep_graph.proofs.Seeing.{kept_more}
use Rattle.rep_graph.proofs.gathering.relevant_of.Goals as goal

pub loop-actor-preserved : goal.loop-actor-preserved
loop-actor-preserved g c = record {
  kept = λ edits world view.
      let p = is_relevant (table_in c.args.world.now.layout) edits c.args.viewer.now.player in
      c.in_ok-keep_relevant.ensures.kept edits world view
      ∙ ap (λ (xs : List ℕ). xs ++ then_one
      (is_relevant (table_in c.args.world.now.layout) edits c.args.viewer.now.player c.actor-item.result)
      c.actor-item.result)
      (c.loop-actor.invariant.kept edits world view)
      ∙ sym (kept_more (is_relevant (table_in c.args.world.now.layout) edits c.args.viewer.now.player)
      c.as_slice-actor-items.result.now
      c.loop-actor.actor-index c.actor-item.result c.loop-actor-test.true c.actor-item.is);
  counted = let s = c.in_ok-keep_relevant.ensures.step in let h = c.loop-actor.invariant.counted in omega arith;
}
