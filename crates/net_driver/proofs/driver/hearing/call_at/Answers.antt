use Rattle.std.proofs.Common.{◌≡◌, ◌≤◌, ◌+◌, Some, sym, ap, ◌∙◌, subst}
use Rattle.std.specs.Option.{option_copied_mut}
use Rattle.std.proofs.lemmas.Option.{same_Some}
use Rattle.server_end.specs.Calls.{IsCalled}
use Rattle.net_driver.specs.Ends.{end_at}
use Rattle.server_end.specs.declared.server_end.ServerEnd.{ServerEnd}
use Rattle.server_end.proofs.Answers.{on_ok, both_ok, each_ok}
use Rattle.net_driver.proofs.InMemory.{set_there}
use Rattle.net_driver.proofs.driver.hearing.call_at.Goals as goal

own : (c : goal.After-ends-in-Some-1) (e : ServerEnd) → end_at c.args.ends.now.slots c.args.key ≡ Some e
    → c.in-Some.end.now ≡ e
own c e at = same_Some _ _ (sym (ap option_copied_mut c.in-Some.is) ∙ c.get_mut.follows ∙ at)

pub returns-in-Some-clause-answer : goal.returns-in-Some-clause-answer
returns-in-Some-clause-answer c =
    each_ok c.call.result (λ answer says e end past samples at h.
    says end past samples
    (subst (λ
    (e : ServerEnd). IsCalled e end past samples c.args.actor c.args.number c.args.called.now c.args.args.now)
    (sym (own c e at)) h))
    c.call.ensures.answer

pub returns-in-Some-clause-stands : goal.returns-in-Some-clause-stands
returns-in-Some-clause-stands c =
    on_ok c.call.result (λ both e end past samples at h. (
      c.call.new.self,
      set_there c.args.ends.now.slots c.args.key e c.call.new.self at,
      c.call.ensures.player ∙ ap (λ (e : ServerEnd). e.player) (own c e at),
      both.0 end past samples
          (subst (λ
          (e : ServerEnd). IsCalled e end past samples c.args.actor c.args.number c.args.called.now c.args.args.now)
          (sym (own c e at)) h),
      subst (λ (e : ServerEnd). c.call.new.self.table.made.count ≤ e.table.made.count + 4096) (own c e at) both.1,
    ))
    (both_ok _ _ c.call.result c.call.ensures.stands c.call.ensures.count)
