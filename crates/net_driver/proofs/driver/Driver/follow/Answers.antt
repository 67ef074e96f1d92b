use Rattle.std.proofs.Common.{sym, subst}
use Rattle.net_driver.specs.Burying.{IsTaken}
use Rattle.net_driver.specs.Serves.{Drive}
use Rattle.net_driver.proofs.Burying.{follows_taken}
use Rattle.net_driver.proofs.driver.Driver.follow.Goals as goal

pub returns-clause-follows : goal.returns-clause-follows
returns-clause-follows c = λ edits taken.
    follows_taken _ c.args.self.now _ c.args.e c.args.before edits
    (subst (λ (d : Drive). IsTaken d c.args.e c.args.before edits) (sym c.self.view_is) taken)
    (λ turn. c.in_ok-apply.ensures.stands edits turn) (λ is buried. c.in_ok-bury_named.ensures edits is buried)
    c.self.view_is
