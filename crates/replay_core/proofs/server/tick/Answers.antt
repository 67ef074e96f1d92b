use Rattle.std.proofs.Common.{inr}
use Rattle.replay_places.proofs.Delivered.{on_ok_then, if_ok}
use Rattle.replay_core.proofs.Ticks.{ticks_of, ticks_serve}
use Rattle.replay_core.proofs.server.tick.Goals as goal

pub tick-requires : goal.tick-requires
tick-requires g c = let r = c.requires.there in record { stands = inr (r.3.served, r.3.serves) }

pub returns-clause-sent : goal.returns-clause-sent
returns-clause-sent g c =
    if_ok c.tick.result _ _ c.tick.ensures.sent (λ ticks sent layout edits players h. ticks_of layout c.args.driver.now
    edits players _ h sent)

pub returns-clause-serves : goal.returns-clause-serves
returns-clause-serves g c =
    on_ok_then c.tick.result _ _ c.tick.ensures.serves
    (λ serves layout edits players h. ticks_serve layout c.args.driver.now c.tick.new.self edits players h serves
    c.tick.ensures.layout)
