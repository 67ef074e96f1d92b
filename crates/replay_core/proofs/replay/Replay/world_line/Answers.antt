use Rattle.replay_core.proofs.LineKinds.{tick_only}
use Rattle.replay_core.proofs.replay.Replay.world_line.Goals as goal

pub join-requires : goal.join-requires
join-requires c = let s = c.requires.stands in (s.0, s.1, rw c.in-Join.is at s.2)

pub edit-requires : goal.edit-requires
edit-requires c = let s = c.requires.stands in let may = rw c.in-Edit.is at s.2 in (s.0, s.1, may.1)

pub multicast-requires : goal.multicast-requires
multicast-requires c = let s = c.requires.stands in (s.0, s.1, rw (c.in-Multi.is, ← c.as_slice.ensures) at s.2)

pub tick-requires : goal.tick-requires
tick-requires c = let s = c.requires.stands in (s.0, s.1)

pub returns-in-Join-clause-told : goal.returns-in-Join-clause-told
returns-in-Join-clause-told c = rw c.in-Join.is c.join.ensures.told

pub returns-in-Join-clause-stands : goal.returns-in-Join-clause-stands
returns-in-Join-clause-stands c = rw c.in-Join.is c.join.ensures.stands

pub returns-in-Edit-clause-told : goal.returns-in-Edit-clause-told
returns-in-Edit-clause-told c = rw c.in-Edit.is c.edit.ensures.told

pub returns-in-Edit-clause-stands : goal.returns-in-Edit-clause-stands
returns-in-Edit-clause-stands c = rw c.in-Edit.is c.edit.ensures.stands

pub returns-in-Multi-clause-told : goal.returns-in-Multi-clause-told
returns-in-Multi-clause-told c = rw (c.in-Multi.is, ← c.as_slice.ensures) c.multicast.ensures.told

pub returns-in-Multi-clause-stands : goal.returns-in-Multi-clause-stands
returns-in-Multi-clause-stands c = rw (c.in-Multi.is, ← c.as_slice.ensures) c.multicast.ensures.stands

pub returns-in_default-clause-told : goal.returns-in_default-clause-told
returns-in_default-clause-told c =
    rw (tick_only c.args.line.now c.requires.whose c.in_default.not-Join c.in_default.not-Edit c.in_default.not-Multi)
    c.tick.ensures.told

pub returns-in_default-clause-stands : goal.returns-in_default-clause-stands
returns-in_default-clause-stands c =
    rw (tick_only c.args.line.now c.requires.whose c.in_default.not-Join c.in_default.not-Edit c.in_default.not-Multi)
    c.tick.ensures.stands
