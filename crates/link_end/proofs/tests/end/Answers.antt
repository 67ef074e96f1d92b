use Rattle.link_end.proofs.Trials.{ending_may, ended_idles}
use Rattle.link_end.proofs.tests.end.Goals as goal

pub end_tick-requires : goal.end_tick-requires
end_tick-requires c = ending_may c.args.link.now c.requires

pub returns : goal.returns
returns c = ended_idles c.args.link.now c.end_tick.new.self c.requires c.in_ok-sent.ensures.after
    c.in_ok-sent.ensures.stands
