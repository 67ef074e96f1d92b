use Rattle.std.proofs.Common.{ℕ, map, sym, ap, ◌∙◌}
use Rattle.std.proofs.lemmas.Option.{none-some, same_Some}
use Rattle.net_driver.specs.Chairs.{dead_for}
use Rattle.net_driver.proofs.driver.Driver.close.Goals as goal

pub returns-in-Some-clause-alive : goal.returns-in-Some-clause-alive
returns-in-Some-clause-alive c = λ none. absurd (none-some c.in-Some.top (sym none ∙ c.in-Some.is))

pub returns-in-Some-clause-ends : goal.returns-in-Some-clause-ends
returns-in-Some-clause-ends c = λ k ne. c.die.ensures.ends k (λ q. ne (sym (same_Some c.args.key k q)))

pub returns-in-Some-clause-chairs : goal.returns-in-Some-clause-chairs
returns-in-Some-clause-chairs c = λ top e.
    c.die.ensures.chairs
    ∙ ap (λ (t : ℕ). map (dead_for c.args.player t) c.args.self.now.chairs) (same_Some c.in-Some.top top (sym c.in-Some.is ∙ e))
