use Rattle.std.proofs.Common.{◌∙◌, sym}
use Rattle.sender_steps.specs.Sights.{seen_value}
use Rattle.sender_steps.proofs.Settling.{opened_there, settled_unclear, settled_all}
use Rattle.sender_steps.proofs.settled.is_settled.Goals as goal

pub returns-then-not-is_clear : goal.returns-then-not-is_clear
returns-then-not-is_clear c = λ side past samples k t.
    settled_unclear past samples c.args.kept.now (seen_value c.args.classes.now c.args.seen.now) k c.is_clear.result
    (c.is_clear.ensures side past t) c.if-not-is_clear.true

pub returns : goal.returns
returns c = λ side past samples k t.
    let opened = opened_there past samples c.args.seen.now.actor c.args.kept.now k (sym c.is_opened.ensures
    ∙ c.if-not-is_opened.false) in
    settled_all past samples c.args.kept.now (seen_value c.args.classes.now c.args.seen.now) k (sym c.is_opened.ensures
    ∙ c.if-not-is_opened.false) c.if-not-seen.false
    c.is_clear.result (c.is_clear.ensures side past t) c.if-not-is_clear.false
    c.have_arrived.result (c.have_arrived.ensures past c.args.seen.now.actor samples opened.0 opened.1)
