use Rattle.std.proofs.Common.{length, sym}
use Rattle.actor_copies.proofs.Following.{class_of_actor}
use Rattle.client_payloads.proofs.opens.is_other.Goals as goal

pub guid_at-requires : goal.guid_at-requires
guid_at-requires c = class_of_actor (length c.args.classes.now.classes) c.args.copies.now c.args.actor
    c.in-Some.copy.now c.requires.placed (sym c.in-Some.ensures)
