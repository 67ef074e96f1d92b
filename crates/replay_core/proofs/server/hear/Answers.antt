use Rattle.std.proofs.Common.{inr}
use Rattle.replay_core.proofs.Heard.{heard_by, has_seat}
use Rattle.replay_core.proofs.server.hear.Goals as goal

pub take-requires : goal.take-requires
take-requires c =
    let r = c.requires.there in
    inr (r.5.served, r.5.serves, has_seat r.0 c.args.driver.now r.1 r.2 r.3 r.4 c.args.player r.5 r.6 r.7)

pub returns : goal.returns
returns c = λ layout edits players i p h at who.
    heard_by layout c.args.driver.now c.take.new.self edits players i p c.args.player c.args.bytes.now
    c.in_ok-outcome.outcome.verdict c.in_ok-outcome.outcome.handed _ _ h at who
    c.in_ok-outcome.ensures.serves c.in_ok-outcome.ensures.layout c.in_ok-outcome.ensures.verdict
    c.in_ok-outcome.ensures.handed
    (c.in_ok-tell_handed.ensures layout)
