use Rattle.std.proofs.Common.{false, length, refl, sym, ap, arith}
use Rattle.protocol_model.specs.Payload.{Closes, part_count}
use Rattle.connection_model.specs.Bunches.{after_making}
use Rattle.link_end.specs.Packs.{sent_now}
use Rattle.bunch_packing.proofs.Trials.{low_index}
use Rattle.bunch_packing.proofs.Pushing.{room_now}
use Rattle.bunch_packing.proofs.tests.close.Goals as goal

pub push-requires-clause-room : goal.push-requires-clause-room
push-requires-clause-room c =
    let r = c.requires.fresh in (
      c.args.link.now,
      r.0,
      r.1,
      r.2,
      r.3,
      r.4,
      low_index r.0.version 1 (omega arith),
      omega (
        arith,
        ap (λ bits. part_count (length bits)) c.in_ok-payload.ensures,
        c.room.ensures r.1 (sent_now r.3) r.4.table,
        c.if-room-eq0.false,
        room_now c.args.link.now c.args.table.now r.0 r.1 r.2 r.3 1 r.4,
      ),
    )

pub returns-clause-fresh : goal.returns-clause-fresh
returns-clause-fresh c =
    let r = c.requires.fresh in (
      r.0,
      r.1,
      r.2,
      record r.3 { past = after_making r.3.past 1 (Closes 2 false) },
      c.in_ok-push.ensures.packs c.args.link.now r.0 r.1 r.2 r.3 (Closes 2 false) r.4
          (low_index r.0.version 1 (omega arith))
          (sym c.in_ok-payload.ensures) (refl, refl),
      r.5,
      r.6,
      r.7,
    )
