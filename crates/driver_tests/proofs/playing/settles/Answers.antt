use Rattle.std.proofs.Common.{inl, inr}
use Rattle.driver_tests.proofs.playing.settles.Goals as goal

pub settled-requires : goal.settled-requires
settled-requires c = record {
  stands = elim (c.has_joined.ensures.joined search) [
    | inl spent ↦ inl spent
    | inr r ↦ inr (r.0, r.1, r.2)
  ];
}
