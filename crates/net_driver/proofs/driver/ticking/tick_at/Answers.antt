use Rattle.std.proofs.Common.{◌≡◌, Some, sym, ap, ◌∙◌, subst}
use Rattle.std.specs.Option.{option_copied_mut}
use Rattle.std.proofs.lemmas.Option.{same_Some}
use Rattle.net_driver.specs.Ends.{end_at}
use Rattle.server_end.specs.Ticks.{IsGivenEnd, HasTicked}
use Rattle.server_end.specs.declared.server_end.ServerEnd.{ServerEnd}
use Rattle.server_end.proofs.Answers.{each_ok}
use Rattle.net_driver.proofs.InMemory.{set_there}
use Rattle.net_driver.proofs.driver.ticking.tick_at.Goals as goal

own : (c : goal.After-ends-in-Some-1) (e : ServerEnd) → end_at c.args.ends.now.slots c.args.key ≡ Some e
    → c.in-Some.end.now ≡ e
own c e at = same_Some _ _ (sym (ap option_copied_mut c.in-Some.is) ∙ c.get_mut.follows ∙ at)

pub returns-in-Some-clause-ticked : goal.returns-in-Some-clause-ticked
returns-in-Some-clause-ticked c =
    each_ok c.tick.result (λ t says e end past before samples shown at h. (
      c.tick.new.self,
      set_there c.args.ends.now.slots c.args.key e c.tick.new.self at,
      subst (λ (e : ServerEnd). HasTicked e c.tick.new.self end past samples shown t) (own c e at)
          (says end past before samples shown
          (subst (λ (e : ServerEnd). IsGivenEnd e c.args.classes.now c.args.changes.now c.args.sight.now end past before
          samples shown) (sym (own c e at)) h)),
    ))
    c.tick.ensures
