use Rattle.live_telling.proofs.Adding.{on_ok_then}
use Rattle.live_telling.proofs.TicksTold.{tick_told}
use Rattle.live_telling.proofs.ticking.tell_tick.Goals as goal

pub returns : goal.returns
returns c =
    on_ok_then c.tell_stall.result _ _ c.tell_stall.ensures
    (λ stalls edits p. tick_told _ edits c.args.teller p c.args.sent c.args.stalled _ _ _ c.in_ok-tell_packets.ensures
    stalls)
