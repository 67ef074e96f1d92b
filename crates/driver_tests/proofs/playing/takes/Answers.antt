use Rattle.std.proofs.Common.{inl, inr}
use Rattle.driver_tests.proofs.playing.takes.Goals as goal

pub take-requires : goal.take-requires
take-requires c = elim (c.has_joined.ensures.joined search) [
  | inl spent ↦ inl spent
  | inr r ↦ inr (r.0, r.1, r.2)
]

pub returns : goal.returns
returns c = elim (c.has_joined.ensures.joined search) [
  | inl spent ↦ inl (c.take.ensures.stays spent)
  | inr r ↦ inr (_, c.in_ok-outcome.ensures.serves r.0 r.1, r.3)
]
