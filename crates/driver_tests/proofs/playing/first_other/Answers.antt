use Rattle.std.proofs.Common.{inr, refl, arith}
use Rattle.net_driver.specs.Served.{first_served}
use Rattle.driver_tests.proofs.playing.first_other.Goals as goal

pub all_join-requires-clause-least : goal.all_join-requires-clause-least
all_join-requires-clause-least c = c.requires.least

pub all_join-requires-clause-most : goal.all_join-requires-clause-most
all_join-requires-clause-most c = c.requires.most

pub all_join-requires-clause-players : goal.all_join-requires-clause-players
all_join-requires-clause-players c = c.requires.players

pub all_join-requires-clause-playing : goal.all_join-requires-clause-playing
all_join-requires-clause-playing c = inr (first_served, c.in_ok-driver.ensures.serves, omega arith)

pub same-driver : goal.same-driver
same-driver c = refl

pub play-requires : goal.play-requires
play-requires c = c.all_join.ensures
