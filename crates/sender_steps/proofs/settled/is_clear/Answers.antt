use Rattle.std.proofs.Common.{◌∙◌, ap, ◌==◌, ℕ, eqb}
use Rattle.std.proofs.Common.{sym}
use Rattle.connection_model.specs.Settled.{is_clear}
use Rattle.sender_steps.proofs.settled.is_clear.Goals as goal

pub returns-in-Some : goal.returns-in-Some
returns-in-Some c = λ side past h. ap (λ (n : ℕ). eqb n 0) (c.span.ensures side past h)
    ∙ ap (is_clear past) (sym c.in-Some.is)
