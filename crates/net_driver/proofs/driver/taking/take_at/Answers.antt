use Rattle.std.proofs.Common.{◌≡◌, Some, sym, ap, ◌∙◌, subst}
use Rattle.std.specs.Option.{option_copied_mut}
use Rattle.std.proofs.lemmas.Option.{same_Some}
use Rattle.server_end.specs.Hearing.{MayHearEnd, IsHeard}
use Rattle.net_driver.specs.Ends.{end_at}
use Rattle.server_end.specs.declared.server_end.ServerEnd.{ServerEnd}
use Rattle.server_end.proofs.Answers.{each_ok}
use Rattle.net_driver.proofs.InMemory.{set_there}
use Rattle.net_driver.proofs.driver.taking.take_at.Goals as goal

own : (c : goal.After-ends-in-Some-1) (e : ServerEnd) → end_at c.args.ends.now.slots c.args.key ≡ Some e
    → c.in-Some.end.now ≡ e
own c e at = same_Some _ _ (sym (ap option_copied_mut c.in-Some.is) ∙ c.get_mut.follows ∙ at)

pub returns-in-Some-clause-heard : goal.returns-in-Some-clause-heard
returns-in-Some-clause-heard c =
    each_ok c.take.result (λ h says e end edits past samples at may. (
      c.take.new.self,
      set_there c.args.ends.now.slots c.args.key e c.take.new.self at,
      subst (λ (e : ServerEnd). IsHeard c.args.world.now.layout edits end past samples c.args.bytes.now e
          c.take.new.self h) (own c e at)
          (says end edits past samples
          (subst (λ (e : ServerEnd). MayHearEnd c.args.world.now e end edits past samples) (sym (own c e at)) may)),
    ))
    c.take.ensures.heard
