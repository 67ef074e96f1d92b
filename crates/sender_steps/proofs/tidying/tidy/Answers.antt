use Rattle.std.proofs.Common.{rules}
use Rattle.std.proofs.lemmas.Fn.{filter_same}
use Rattle.sender_steps.proofs.tidying.tidy.Goals as goal

pub returns : goal.returns
returns c = record {
  pending = filter_same _ _ _ (λ x b f' k. search rules) _ _ c.retain.ensures.filtered;
  live = filter_same _ _ _ (λ x b f' k. search rules) _ _ c.retain-2.ensures.filtered;
}
