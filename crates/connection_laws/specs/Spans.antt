-- How far the bunches made are ahead of those that have arrived.
use Rattle.std.specs.Prelude.{ℕ, ◌≤◌}
use Rattle.protocol_model.specs.Limits.{span_limit, span_sum_limit}
use Rattle.connection_model.specs.Feed.{Past}
use Rattle.connection_model.specs.Bunches.{span, span_sum}

-- no index has a span above the limit, nor is the sum of all spans above theirs
pub record SpansFit (past : Past) : Type 0 where
  pub each : (ch : ℕ) → span past ch ≤ span_limit
  pub sum : span_sum past ≤ span_sum_limit
