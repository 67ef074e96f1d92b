use Rattle.std.proofs.Common.{[], ap, arith}
use Rattle.protocol_model.specs.Payload.{part_count}
use Rattle.outgoing_channels.proofs.tests.a_mark_goes_to_the_bunches_that_it_concerns.Goals as goal

pub push-requires-clause-room : goal.push-requires-clause-room
push-requires-clause-room g c =
    let none = c.in_ok-channels.ensures.keeps in
    ([], none, omega (arith, ap part_count c.len-bits.ensures, c.parts-count.ensures, c.room-room.ensures [] none))
