use Rattle.std.proofs.Common.{◌&&◌, Bool, not, sym, ap, ◌∙◌}
use Rattle.connection_model.specs.CallAnswers.{is_seen_owned}
use Rattle.server_end.proofs.server_end.ServerEnd.bars.Goals as goal

pub returns-then-goes_to_owner : goal.returns-then-goes_to_owner
returns-then-goes_to_owner c = λ end past samples h.
    ap not (c.shows_owned-owned.ensures past samples h.sender)
    ∙ ap (λ (b : Bool). b && not (is_seen_owned past c.args.actor)) (sym c.if-goes_to_owner.true
    ∙ c.goes_to_owner.ensures)
