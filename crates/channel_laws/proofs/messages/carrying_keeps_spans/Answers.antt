use Rattle.channel_laws.proofs.Growing.{span_with, sum_with}
use Rattle.channel_laws.proofs.messages.carrying_keeps_spans.Goals as goal

pub returns : goal.returns
returns c = record {
  span = λ packet t ch n c items past bunch h. span_with packet t items past ch n bunch h.above h.due c;
  sum = λ packet t ch n items past bunch h. sum_with packet t items past ch n bunch h.above h.due;
}
