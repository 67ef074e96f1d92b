use Rattle.std.proofs.Common.{inr, refl}
use Rattle.net_driver.specs.Served.{first_served}
use Rattle.driver_tests.proofs.datagrams.two_joined.Goals as goal

pub join-requires-clause-stands : goal.join-requires-clause-stands
join-requires-clause-stands c = inr (first_served, c.in-Ok.ensures.serves)

pub join-requires-2-clause-stands : goal.join-requires-2-clause-stands
join-requires-2-clause-stands c = inr (_, c.in_ok-join.ensures.serves first_served c.in-Ok.ensures.serves)

pub returns : goal.returns
returns c = (
  _,
  c.in_ok-join-2.ensures.serves _ (c.in_ok-join.ensures.serves first_served c.in-Ok.ensures.serves),
  refl,
  refl,
)
