use Rattle.std.proofs.lemmas.Result.{err_from_is_err_and}
use Rattle.live_acts.proofs.Passing.{text_passes_part, datagram_passes}
use Rattle.live_acts.proofs.performing.perform_one.Goals as goal

pub returns-in_err-write_all-in-Writes-clause-err :
    goal.returns-in_err-write_all-in-Writes-clause-err
returns-in_err-write_all-in-Writes-clause-err g c =
    let result = c.from_residual-in_err-write_all-in-Writes in
    let p = err_from_is_err_and result.result result.ensures.1 in
    rw (p.1, c.in-Writes.is)
    (text_passes_part c.in-Writes.text _ _ _ (rw c.as_slice-in-Writes.ensures at c.in_err-write_all-in-Writes.ensures.err))

pub returns-in_ok-send-in-Sends-clause-ok : goal.returns-in_ok-send-in-Sends-clause-ok
returns-in_ok-send-in-Sends-clause-ok g c =
    rw c.in-Sends.is
    (datagram_passes c.in-Sends.end c.in-Sends.to _ _ _ _ _ (rw c.in-Sends.is at c.requires) (g.met.L.Link.tells_each c.args.link.now)
    (rw c.as_slice.ensures at c.in_ok-send-in-Sends.ensures.told))
