use Rattle.std.proofs.Common.{refl}
use Rattle.link_end.proofs.Trials.{offer_may, offered_ticks, refused_ends, ok_no_err, room_no_memory}
use Rattle.link_end.proofs.tests.offer.Goals as goal

pub returns-in-Ok-clause-ok : goal.returns-in-Ok-clause-ok
returns-in-Ok-clause-ok g c =
    offered_ticks c.args.link.now c.offer.new.self _ c.requires.ticking (λ s. ok_no_err _ _ (c.in-Ok.ensures.after s))
    (λ end before p item h is. c.in-Ok.ensures.room end before p item h is refl) c.in-Ok.ensures.stands

pub returns-in-Err-NoRoom-clause-no_room : goal.returns-in-Err-NoRoom-clause-no_room
returns-in-Err-NoRoom-clause-no_room g c = λ e.
    let after = rw c.in-Err-NoRoom.field-0-is at c.in-Err-NoRoom.ensures.after in
    let none = rw c.in-Err-NoRoom.field-0-is at c.in-Err-NoRoom.ensures.no_room in
    refused_ends c.args.link.now c.offer.new.self _ c.requires.ticking (λ s. room_no_memory (after s))
    (λ end before p item h is. none end before p item h is e)
