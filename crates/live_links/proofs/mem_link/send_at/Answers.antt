use Rattle.std.proofs.lemmas.Result.{on_ok_weaker}
use Rattle.live_links.specs.Told.{sends}
use Rattle.live_links.proofs.Ends.{set_at_end}
use Rattle.live_links.proofs.mem_link.send_at.Goals as goal

pub returns-clause-ok : goal.returns-clause-ok
returns-clause-ok c =
    on_ok_weaker c.send.result
    (set_at_end (sends c.args.sent.0 c.args.sent.1) c.args.ends.now.items c.args.end c.index_mut.result.now
    c.send.new.self c.requires c.index_mut.ensures.value) c.send.ensures.ok
