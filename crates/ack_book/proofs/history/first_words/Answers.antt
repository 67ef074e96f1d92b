use Rattle.std.proofs.Common.{arith, rules, ◌∙◌}
use Rattle.std.proofs.lemmas.List.{length-set}
use Rattle.ack_book.proofs.Histories.{kept_step, kept_fits}
use Rattle.ack_book.proofs.history.first_words.Goals as goal

pub loop-w-preserved : goal.loop-w-preserved
loop-w-preserved c = record {
  len = length-set c.loop-w.kept c.loop-w.w _ ∙ c.loop-w.invariant.len;
  fits = λ k. kept_fits c.loop-w.kept c.loop-w.w k _ c.loop-w.invariant.len (omega arith) (search rules) (c.loop-w.invariant.fits k);
  each = λ k within. kept_step c.loop-w.kept c.args.words.now c.loop-w.w k c.loop-w.invariant.len (omega arith) (c.loop-w.invariant.each k within);
}
