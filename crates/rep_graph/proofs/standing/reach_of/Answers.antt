use Rattle.std.proofs.Common.{Some, None}
use Rattle.rep_graph.proofs.Reaches.{reach_is, reach_bounded}
use Rattle.rep_graph.proofs.standing.reach_of.Goals as goal

pub returns-in-Some-clause-reach : goal.returns-in-Some-clause-reach
returns-in-Some-clause-reach c = reach_is c.args.classes.now c.args.class (Some c.in-Some.found.now) c.in-Some.ensures

pub returns-in-Some-clause-bounded : goal.returns-in-Some-clause-bounded
returns-in-Some-clause-bounded c =
    reach_bounded c.args.classes.now c.args.class c.in-Some.found.now c.keeps_rules.ensures.rules c.in-Some.ensures

pub returns-in-None-clause-reach : goal.returns-in-None-clause-reach
returns-in-None-clause-reach c = reach_is c.args.classes.now c.args.class None c.in-None.ensures
