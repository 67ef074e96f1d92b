use Rattle.live_links.specs.InMemory.{sends_on}
use Rattle.live_links.proofs.Ends.{set_back}
use Rattle.live_links.proofs.pipe_link.withdraw_at.Goals as goal

pub returns-clause-before : goal.returns-clause-before
returns-clause-before c to bytes before is =
    set_back (sends_on to bytes) c.args.ends.now.items before c.args.end c.index_mut.result.now c.withdraw.new.self
    is c.requires c.index_mut.ensures.value (c.withdraw.ensures to bytes)
