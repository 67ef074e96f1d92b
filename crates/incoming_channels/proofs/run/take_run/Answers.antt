use Rattle.std.proofs.Common.{subst}
use Rattle.incoming_channels.specs.Steps.{GoesOn, run_left}
use Rattle.incoming_channels.proofs.run.take_run.Goals as goal

pub returns-in-Some : goal.returns-in-Some
returns-in-Some c = λ k got server channel reliable on h g.
    subst (GoesOn k (run_left got c.args.window.now.next) c.take_one.new.parts c.take_one.new.whole)
    c.in-Some.is
    (c.in_ok-cause.ensures k (run_left got c.args.window.now.next) server channel reliable g)

pub returns : goal.returns
returns c = λ k got server channel reliable on h g.
    c.in_ok-broken.ensures k got server on h
    (subst (GoesOn k (run_left got c.args.window.now.next) c.take_one.new.parts c.take_one.new.whole)
    c.in_default.is
    (c.in_ok-cause.ensures k (run_left got c.args.window.now.next) server channel reliable g))
