use Rattle.std.proofs.Common.{sym, subst}
use Rattle.net_driver.specs.Serves.{Serves}
use Rattle.server_end.proofs.Answers.{on_ok}
use Rattle.net_driver.proofs.Joining.{seated}
use Rattle.net_driver.proofs.driver.Driver.seat.Goals as goal

pub returns-clause-serves : goal.returns-clause-serves
returns-clause-serves c =
    on_ok c.add_chair.result
    (λ put s h fresh few. seated _ s c.args.player c.args.budget c.args.version c.in-Ok.key c.in_ok-end.end _ _
    (record {
      free = c.in-Ok.ensures.was_vacant;
      changed = c.in-Ok.ensures.updates.changed;
      others =
          c.in-Ok.ensures.updates.others;
    })
    c.in_ok-end.ensures.player c.in_ok-end.ensures.count c.in_ok-end.ensures.stands put c.requires.least
    (subst (λ d. Serves d s) (sym c.self.view_is) h) fresh few)
    c.add_chair.ensures.ok
