-- The numbers that an end's packets acknowledge in version One.
use Rattle.std.specs.Prelude.{◌≡◌, ℕ, ◌<◌, true}
use Rattle.protocol_model.specs.Search.{is_among}
use Rattle.connection_model.specs.Feed.{Past, deeds_since_tick}
use Rattle.connection_model.specs.Fates.{taken_of}
use Rattle.connection_laws.specs.Run.{acknowledged_of}

-- what was acknowledged was taken, and what was taken since the last tick is above all that was acknowledged
pub record AcknowledgesTaken (past : Past) : Type 0 where
  pub taken : (x : ℕ) → is_among x (acknowledged_of past) ≡ true → is_among x (taken_of past) ≡ true
  pub order : (x y : ℕ) → is_among x (acknowledged_of past) ≡ true
      → is_among y (taken_of (deeds_since_tick past)) ≡ true → x < y
