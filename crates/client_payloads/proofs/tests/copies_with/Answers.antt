use Rattle.std.proofs.Common.{length, sym, subst}
use Rattle.actor_copies.specs.Kept.{ArePlaced}
use Rattle.client_payloads.proofs.tests.copies_with.Goals as goal

pub returns : goal.returns
returns c =
    c.close.ensures.placed (length c.args.classes.now.classes)
    (c.in_ok-open.ensures.placed
    (subst (ArePlaced (length c.args.classes.now.classes)) (sym c.new-copies.ensures) tt))
