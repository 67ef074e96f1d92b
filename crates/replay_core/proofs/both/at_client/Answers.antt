use Rattle.replay_places.specs.Places.{client_at}
use Rattle.replay_places.proofs.Delivered.{on_ok_then}
use Rattle.replay_core.proofs.LineKinds.{client_only}
use Rattle.replay_core.proofs.both.at_client.Goals as goal

pub deliver-requires : goal.deliver-requires
deliver-requires c =
    let r = c.requires.there in
    record { first = rw c.in-Down.is at r.4; there = (r.0, r.2, r.3) }

pub returns-in-ClientTick : goal.returns-in-ClientTick
returns-in-ClientTick c = rw c.in-ClientTick.is c.tick.ensures

pub returns-in-Down : goal.returns-in-Down
returns-in-Down c = rw c.in-Down.is c.deliver.ensures

pub returns-in-DownNew : goal.returns-in-DownNew
returns-in-DownNew c = rw c.in-DownNew.is c.deliver_new.ensures

pub returns-in-ClientCall : goal.returns-in-ClientCall
returns-in-ClientCall c =
    rw (c.in-ClientCall.is, ← c.as_slice.ensures)
    (on_ok_then c.call.result _ _ c.call.ensures (λ does layout edits. does layout))

pub returns-in-Dump : goal.returns-in-Dump
returns-in-Dump c =
    rw c.in-Dump.is
    (on_ok_then c.tell_copies.result _ _ c.tell_copies.ensures
    (λ tells layout edits p i. record { stands = i; adds = tells layout p (client_at i) }))

pub returns-in-ClientForge : goal.returns-in-ClientForge
returns-in-ClientForge c = rw (c.in-ClientForge.is, ← c.as_slice-in-ClientForge.ensures) c.forge.ensures

pub returns-in_default : goal.returns-in_default
returns-in_default c =
    absurd (client_only c.args.line.now c.requires.side c.in_default.not-ClientTick c.in_default.not-Down
    c.in_default.not-DownNew
    c.in_default.not-ClientCall c.in_default.not-Dump c.in_default.not-ClientForge)
