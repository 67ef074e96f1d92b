use Rattle.std.proofs.Common.{◌∙◌, ap}
use Rattle.incoming_channels.specs.Channels.{in_at}
use Rattle.incoming_channels.proofs.channels.grow.Goals as goal

pub returns-in_err-push-clause-same : goal.returns-in_err-push-clause-same
returns-in_err-push-clause-same c =
    λ ch. ap (λ xs. in_at xs ch) c.in_err-push.ensures.items ∙ c.loop-count.invariant.same ch
